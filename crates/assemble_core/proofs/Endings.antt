-- How runs end.
use Rattle.std.proofs.Common.{◌≡◌, ◌∙◌, ap, refl, subst, ℕ, List, Bool, inl, inr}
use Rattle.std.specs.Prelude.{Ok, Err, IfErr, OnOk}
use Rattle.std.specs.declared.option.Option.{Option}
use Rattle.std.specs.declared.result.Result.{Result}
use Rattle.fem_text.specs.declared.counts.Counts.{Counts}
use Rattle.fem_text.specs.Counts.{after_good}
use Rattle.fem_text.specs.Outside.{Held}
use Rattle.run_words.specs.Choice.{Mode, Choice}
use Rattle.run_targets.specs.Reads.{reads_in, ChoiceReads}
use Rattle.run_outputs.specs.Targets.{Target, World, after_targets}
use Rattle.run_outputs.specs.Stops.{StopsAmong}
use Rattle.diagnostics.specs.declared.refusal.Refusal.TheVariants.{Words}
use Rattle.diagnostics.specs.declared.ending.Ending.{Ending}
use Rattle.diagnostics.specs.declared.ending.Ending.TheVariants.{Refused, ReadFault, WriteFault, NoMemory}
use Rattle.diagnostics.specs.Stages.{stops, goes}
use Rattle.run_targets.specs.Defines.{Defines}
use Rattle.run_targets.specs.Ends.{EndsDefining}
use Rattle.assemble_core.specs.Answer.{Asked, Answers}
use Rattle.assemble_core.specs.Run.{after_choice, Leaves}

-- the words are refused
pub words_leave : (takes : Mode → Bool) (words : List (List ℕ)) (before : World) → Asked takes words (Err Words) → Leaves takes words before before (Err (Refused Words))
words_leave takes words before asked = (stops Words asked refl, record { reads = inl refl; same = refl })

abbrev world_of : Option Held → Option (List ℕ) → Counts → Counts → World
world_of holds taken store out = record { holds = holds; taken = taken; store = store; out = out }

same_world : (holds holds_now : Option Held) (taken : Option (List ℕ)) (store out : Counts) → holds_now ≡ holds → world_of holds_now taken store out ≡ world_of holds taken store out
same_world holds holds_now taken store out same = ap (λ h. world_of h taken store out) same

-- the making of the texts ends the run
pub defining_leaves : (X : Type 0) (takes : Mode → Bool) (words : List (List ℕ)) (choice : Choice) (holds holds_now : Option Held) (taken : Option (List ℕ)) (store store_now out : Counts) (e : Ending) →
    Asked takes words (Ok choice) → EndsDefining holds choice e → holds_now ≡ holds → ChoiceReads {X = X} choice (Err e) store store_now →
    Leaves takes words (world_of holds taken store out) (world_of holds_now taken store_now out) (Err e)
defining_leaves X takes words choice holds holds_now taken store store_now out (Refused refusal) asked h same calls =
    (goes choice asked h, record { reads = inr (choice, asked, calls); same = same_world holds holds_now taken store_now out same })
defining_leaves X takes words choice holds holds_now taken store store_now out (ReadFault role) asked h same calls =
    record { choice = choice; asked = asked; goes_on = h; reads = calls; same = same_world holds holds_now taken store_now out same }
defining_leaves X takes words choice holds holds_now taken store store_now out (WriteFault output) asked h same calls = absurd h
defining_leaves X takes words choice holds holds_now taken store store_now out NoMemory asked h same calls =
    inl (choice, asked, record { reads = inr (choice, asked, calls); same = same_world holds holds_now taken store_now out same })

writing_leaves : (takes : Mode → Bool) (words : List (List ℕ)) (choice : Choice) (before now : World) (targets : List Target) (e : Ending) → Asked takes words (Ok choice) →
    Answers takes words before.holds (Ok targets) → StopsAmong targets (after_choice before choice) now e → Leaves takes words before now (Err e)
writing_leaves takes words choice before now targets (Refused refusal) asked answer stop = absurd stop.stops
writing_leaves takes words choice before now targets (ReadFault role) asked answer stop = absurd stop.stops
writing_leaves takes words choice before now targets (WriteFault output) asked answer stop = record { choice = choice; asked = asked; targets = targets; answer = answer; stops = stop }
writing_leaves takes words choice before now targets NoMemory asked answer stop = inr (record { choice = choice; asked = asked; targets = targets; answer = answer; stops = stop })

-- the outside after the reads
read_world : (choice : Choice) (holds holds_read : Option Held) (taken : Option (List ℕ)) (store reads out : Counts) → holds_read ≡ holds → reads ≡ after_good (reads_in choice) store →
    world_of holds_read taken reads out ≡ after_choice (world_of holds taken store out) choice
read_world choice holds holds_read taken store reads out same well = same_world holds holds_read taken reads out same ∙ ap (λ c. world_of holds taken c out) well

-- the writing ends the run
pub written_leaves : (takes : Mode → Bool) (words : List (List ℕ)) (choice : Choice) (holds holds_read : Option Held) (taken : Option (List ℕ)) (store reads out : Counts) (now : World) (targets : List Target)
    (result : Result Unit Ending) → Asked takes words (Ok choice) → Defines holds choice (Ok targets) → holds_read ≡ holds → reads ≡ after_good (reads_in choice) store →
    OnOk result (now ≡ after_targets (world_of holds_read taken reads out) targets) → IfErr result (StopsAmong targets (world_of holds_read taken reads out) now) →
    Leaves takes words (world_of holds taken store out) now result
written_leaves takes words choice holds holds_read taken store reads out now targets (Ok unit) asked defines same well all stop = record {
  choice = choice;
  asked = asked;
  targets = targets;
  answer = goes choice asked defines;
  written = all ∙ ap (λ world. after_targets world targets) (read_world choice holds holds_read taken store reads out same well);
}
written_leaves takes words choice holds holds_read taken store reads out now targets (Err e) asked defines same well all stop =
    writing_leaves takes words choice (world_of holds taken store out) now targets e asked (goes choice asked defines)
    (subst (λ world. StopsAmong targets world now e) (read_world choice holds holds_read taken store reads out same well) stop)
