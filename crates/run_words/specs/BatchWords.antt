-- The words of a batch.
use Rattle.std.specs.Prelude.{◌≡◌, ◌⊎◌, ◌<◌, ◌≤◌, ℕ, List, [], Bool, true, false, ◌&&◌, not, is_some, unwrap_or}
use Rattle.std.specs.List.{flat_map}
use Rattle.std.specs.Option.{option_map}
use Rattle.run_words.specs.declared.name.Name.{Name}
use Rattle.run_words.specs.declared.name.Name.TheVariants as names
use Rattle.run_words.specs.declared.switch.Switch.{Switch}
use Rattle.run_words.specs.declared.options.BatchOptions as rust
use Rattle.run_words.specs.Settings.{Setting, words_of, StandsOnce, Given, given_by}
use Rattle.run_words.specs.Choice.{Destination, standard, destination_of, seen_destination, number_or}
use Rattle.run_words.specs.Words.{AreInSets}

-- what a batch asks for: the name of its text, how many workers, and where its text goes
pub record BatchChoice : Type 0 where
  pub name : List ℕ
  pub workers : ℕ
  pub destination : Destination

-- the same, as the program has it
abbrev pub seen_batch : rust.BatchOptions → BatchChoice
seen_batch options = record { name = options.name.now; workers = options.workers; destination = seen_destination options.destination }

-- the options that a batch may have
abbrev pub is_batch_option : Name → Bool
is_batch_option names.Batch = true
is_batch_option names.Workers = true
is_batch_option names.Matrix = true
is_batch_option _ = false

-- an option stands that no batch may have
abbrev pub is_beside_batch : Given → Name → Bool
is_beside_batch given name = is_some (given.value name) && not (is_batch_option name)

-- `--batch` stands, and beside it no options but those of a batch
pub record BatchRules (given : Given) : Type 0 where
  pub stands : is_some (given.value names.Batch) ≡ true
  pub options : (name : Name) → is_beside_batch given name ≡ false
  pub switches : (switch : Switch) → given.stands switch ≡ false

-- what is asked for, with the defaults of the options that do not stand
abbrev pub chosen_batch : Given → BatchChoice
chosen_batch given = record {
  name = unwrap_or (given.value names.Batch) [];
  workers = number_or 4 (given.value names.Workers);
  destination = unwrap_or (option_map destination_of (given.value names.Matrix)) standard;
}

-- the words ask for this batch: they are settings, no option stands twice, each value is in its set, the rules of a
-- batch are kept, and the choice is what the settings give
pub record AskForBatch (words : List (List ℕ)) (choice : BatchChoice) : Type 0 where
  pub settings : List Setting
  pub words_are : words ≡ flat_map words_of settings
  pub once : StandsOnce settings
  pub in_sets : AreInSets (given_by settings)
  pub rules : BatchRules (given_by settings)
  pub choice_is : choice ≡ chosen_batch (given_by settings)

-- the words ask for no batch
abbrev pub AskForNoBatch : List (List ℕ) → Type 0
AskForNoBatch words = (choice : BatchChoice) → AskForBatch words choice → ⊥

-- the words ask for a batch, or for none
abbrev pub AskForBatchOrNot : List (List ℕ) → Type 0
AskForBatchOrNot words = ((choice : BatchChoice) × AskForBatch words choice) ⊎ AskForNoBatch words

-- a batch has 1 to 64 workers
pub record IsBatchWithinRanges (choice : BatchChoice) : Type 0 where
  pub workers : (0 < choice.workers) × (choice.workers ≤ 64)
