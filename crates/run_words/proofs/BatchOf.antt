-- What the words of a batch ask for, by their settings.
use Rattle.std.proofs.Common.{◌≡◌, ◌∙◌, ◌≤◌, ap, sym, subst, ℕ, List, [], Bool, true, false, cond, refl, not, ◌||◌, inl, inr, arith}
use Rattle.std.specs.Prelude.{Some, None, is_some, unwrap_or, ◌&&◌, IfSome, IfNone}
use Rattle.std.specs.declared.option.Option.{Option}
use Rattle.std.specs.List.{list_any}
use Rattle.std.specs.Option.{option_map}
use Rattle.std.proofs.lemmas.Option.{cond_some}
use Rattle.run_words.specs.declared.name.Name.{Name}
use Rattle.run_words.specs.declared.name.Name.TheVariants as names
use Rattle.run_words.specs.declared.switch.Switch.{Switch}
use Rattle.run_words.specs.declared.options.BatchOptions as rust
use Rattle.run_words.specs.Names.{place_of, all_names}
use Rattle.run_words.specs.Switches.{switch_place, all_switches}
use Rattle.run_words.specs.Settings.{Given, given_by}
use Rattle.run_words.specs.Held.{Holds, CannotHold}
use Rattle.run_words.specs.Values.{is_name, is_number_within, is_in_set}
use Rattle.run_words.specs.Choice.{Destination, standard, number_or}
use Rattle.run_words.specs.Words.{passes, AreInSets, AskForNothing}
use Rattle.run_words.specs.BatchWords.{BatchChoice, seen_batch, is_batch_option, is_beside_batch, BatchRules, chosen_batch, AskForBatch, AskForNoBatch, AskForBatchOrNot, IsBatchWithinRanges}
use Rattle.run_words.specs.Reading.{number_within, name_of, read_or, read_destination, ◌>>=◌}
use Rattle.run_words.specs.BatchReading.{has_more_than_batch, read_batch, batch_reading}
use Rattle.run_words.proofs.Cuts.{then_some}
use Rattle.run_words.proofs.Numbers.{injected, number_read, number_given, value_within, cond_then}
use Rattle.run_words.proofs.NoOption.{stands_at, switch_stands_at, neither, none_at, none_any, not_none}
use Rattle.run_words.proofs.Rules.{destination_or_standard, matrix_read, matrix_given}
use Rattle.run_words.proofs.SomeWords.{cases_Option, held_or_not}
use Rattle.run_words.proofs.Asked.{given_is, stands_once, settings_are_one}

abbrev made : List ℕ → ℕ → Destination → BatchChoice
made name workers destination = record { name = name; workers = workers; destination = destination }

-- the values of `--batch`, `--workers` and `--matrix`
pub record BatchInSets (batch workers matrix : Option (List ℕ)) : Type 0 where
  pub stands : is_some batch ≡ true
  pub batch_in : passes is_name batch ≡ true
  pub workers_in : passes (is_number_within 1 64) workers ≡ true
  pub matrix_in : passes is_name matrix ≡ true

abbrev meant : Option (List ℕ) → Option (List ℕ) → Option (List ℕ) → BatchChoice
meant batch workers matrix = made (unwrap_or batch []) (number_or 4 workers) (destination_or_standard matrix)

batch_read : (batch workers matrix : Option (List ℕ)) (choice : BatchChoice) → read_batch batch workers matrix ≡ Some choice →
    BatchInSets batch workers matrix × (choice ≡ meant batch workers matrix)
unfolding read_batch
batch_read None workers matrix choice read = cc
batch_read (Some word) workers matrix choice read =
    let behind_workers : List ℕ → ℕ → Option BatchChoice = λ name n. read_or standard read_destination matrix >>= (λ destination. Some (made name n destination)) in
    let behind_name : List ℕ → Option BatchChoice = λ name. read_or 4 (number_within 1 64) workers >>= (λ n. behind_workers name n) in
    let name = cond_then (is_name word) word behind_name choice read in
    let n = then_some (behind_workers word) (read_or 4 (number_within 1 64) workers) choice name.1 in
    let number = number_read 1 64 4 n.0 workers n.1 in
    let d = then_some (λ destination. Some (made word n.0 destination)) (read_or standard read_destination matrix) choice n.2 in
    let destination = matrix_read matrix d.0 d.1 in (
      record { stands = refl; batch_in = name.0; workers_in = number.0; matrix_in = destination.0 },
      sym (injected (made word n.0 d.0) choice d.2) ∙ ap (λ k. made word k d.0) number.1 ∙ ap (λ e. made word (number_or 4 workers) e) destination.1,
    )

batch_given : (batch workers matrix : Option (List ℕ)) → BatchInSets batch workers matrix → read_batch batch workers matrix ≡ Some (meant batch workers matrix)
unfolding read_batch
batch_given None workers matrix in_sets = let e = in_sets.stands in cc
batch_given (Some word) workers matrix in_sets =
    let behind_workers : List ℕ → ℕ → Option BatchChoice = λ name n. read_or standard read_destination matrix >>= (λ destination. Some (made name n destination)) in
    ap (λ b. cond b (Some word) None >>= (λ name. read_or 4 (number_within 1 64) workers >>= (λ n. behind_workers name n))) in_sets.batch_in
    ∙ ap (λ o. o >>= (λ n. behind_workers word n)) (number_given 1 64 4 workers in_sets.workers_in)
    ∙ ap (λ o. o >>= (λ destination. Some (made word (number_or 4 workers) destination))) (matrix_given matrix in_sets.matrix_in)

-- an option that may not stand has no value that isn't in its set
absent : (test : List ℕ → Bool) (value : Option (List ℕ)) → (is_some value && true) ≡ false → passes test value ≡ true
absent test None none = refl
absent test (Some value) none = cc

in_all_sets : (given : Given) → BatchRules given → BatchInSets (given.value names.Batch) (given.value names.Workers) (given.value names.Matrix) → AreInSets given
unfolding is_in_set
in_all_sets given rules in_sets names.Batch = in_sets.batch_in
in_all_sets given rules in_sets names.Workers = in_sets.workers_in
in_all_sets given rules in_sets names.Matrix = in_sets.matrix_in
in_all_sets given rules in_sets names.Mode = absent (is_in_set names.Mode) (given.value names.Mode) (rules.options names.Mode)
in_all_sets given rules in_sets names.Mesh = absent (is_in_set names.Mesh) (given.value names.Mesh) (rules.options names.Mesh)
in_all_sets given rules in_sets names.Problem = absent (is_in_set names.Problem) (given.value names.Problem) (rules.options names.Problem)
in_all_sets given rules in_sets names.Queue = absent (is_in_set names.Queue) (given.value names.Queue) (rules.options names.Queue)
in_all_sets given rules in_sets names.Chunk = absent (is_in_set names.Chunk) (given.value names.Chunk) (rules.options names.Chunk)
in_all_sets given rules in_sets names.Scratch = absent (is_in_set names.Scratch) (given.value names.Scratch) (rules.options names.Scratch)
in_all_sets given rules in_sets names.Digits = absent (is_in_set names.Digits) (given.value names.Digits) (rules.options names.Digits)
in_all_sets given rules in_sets names.Faces = absent (is_in_set names.Faces) (given.value names.Faces) (rules.options names.Faces)
in_all_sets given rules in_sets names.Rhs = absent (is_in_set names.Rhs) (given.value names.Rhs) (rules.options names.Rhs)
in_all_sets given rules in_sets names.Generate = absent (is_in_set names.Generate) (given.value names.Generate) (rules.options names.Generate)
in_all_sets given rules in_sets names.Seed = absent (is_in_set names.Seed) (given.value names.Seed) (rules.options names.Seed)
in_all_sets given rules in_sets names.Format = absent (is_in_set names.Format) (given.value names.Format) (rules.options names.Format)
in_all_sets given rules in_sets names.Subdomain = absent (is_in_set names.Subdomain) (given.value names.Subdomain) (rules.options names.Subdomain)
in_all_sets given rules in_sets names.Ghost = absent (is_in_set names.Ghost) (given.value names.Ghost) (rules.options names.Ghost)
in_all_sets given rules in_sets names.Vector = absent (is_in_set names.Vector) (given.value names.Vector) (rules.options names.Vector)
in_all_sets given rules in_sets names.Degree = absent (is_in_set names.Degree) (given.value names.Degree) (rules.options names.Degree)
in_all_sets given rules in_sets names.Mark = absent (is_in_set names.Mark) (given.value names.Mark) (rules.options names.Mark)

-- what is read of a batch
pub record IsReadBatch (given : Given) (choice : BatchChoice) : Type 0 where
  pub in_sets : AreInSets given
  pub rules : BatchRules given
  pub choice_is : choice ≡ chosen_batch given

no_more : (given : Given) → has_more_than_batch given ≡ false → is_some (given.value names.Batch) ≡ true → BatchRules given
no_more given none stands =
    let parts = neither (list_any (is_beside_batch given) all_names) (list_any given.stands all_switches) none in
    record {
      stands = stands;
      options = λ name. none_at (is_beside_batch given) all_names (place_of name) name parts.0 (stands_at name);
      switches = λ switch. none_at given.stands all_switches (switch_place switch) switch parts.1 (switch_stands_at switch);
    }

no_more_than : (given : Given) → BatchRules given → has_more_than_batch given ≡ false
no_more_than given rules = ap (λ b. b || list_any given.stands all_switches) (none_any (is_beside_batch given) all_names rules.options) ∙ none_any given.stands all_switches rules.switches

batch_reading_tells : (given : Given) (choice : BatchChoice) → batch_reading given ≡ Some choice → IsReadBatch given choice
unfolding batch_reading
batch_reading_tells given choice read =
    let is = not_none (has_more_than_batch given) (read_batch (given.value names.Batch) (given.value names.Workers) (given.value names.Matrix)) choice read in
    let values = batch_read (given.value names.Batch) (given.value names.Workers) (given.value names.Matrix) choice is.1 in
    let rules = no_more given is.0 values.0.stands in
    record { in_sets = in_all_sets given rules values.0; rules = rules; choice_is = values.1 }

values_in_sets : (given : Given) → AreInSets given → BatchRules given → BatchInSets (given.value names.Batch) (given.value names.Workers) (given.value names.Matrix)
unfolding is_in_set
values_in_sets given in_sets rules = record { stands = rules.stands; batch_in = in_sets names.Batch; workers_in = in_sets names.Workers; matrix_in = in_sets names.Matrix }

batch_reading_given : (given : Given) → AreInSets given → BatchRules given → batch_reading given ≡ Some (chosen_batch given)
unfolding batch_reading
batch_reading_given given in_sets rules =
    ap (λ b. cond b None (read_batch (given.value names.Batch) (given.value names.Workers) (given.value names.Matrix))) (no_more_than given rules)
    ∙ batch_given (given.value names.Batch) (given.value names.Workers) (given.value names.Matrix) (values_in_sets given in_sets rules)

batch_of_read : (words : List (List ℕ)) (held : Given) (choice : BatchChoice) → Holds words held → batch_reading held ≡ Some choice → AskForBatch words choice
batch_of_read words held choice holds read =
    let is = batch_reading_tells (given_by holds.settings) choice (sym (ap batch_reading (given_is holds.settings held holds.values_are)) ∙ read) in
    record {
      settings = holds.settings;
      words_are = holds.words_are;
      once = stands_once holds.settings held holds.values_are;
      in_sets = is.in_sets;
      rules = is.rules;
      choice_is = is.choice_is;
    }

read_as_batch : (words : List (List ℕ)) (held : Given) (choice : BatchChoice) → Holds words held → AskForBatch words choice → batch_reading held ≡ Some choice
read_as_batch words held choice holds asked =
    let one = settings_are_one holds.settings asked.settings (sym holds.words_are ∙ asked.words_are) in
    ap batch_reading (given_is holds.settings held holds.values_are ∙ ap given_by one) ∙ batch_reading_given (given_by asked.settings) asked.in_sets asked.rules ∙ ap Some (sym asked.choice_is)

pub asks_batch : (words : List (List ℕ)) (held : Given) (result : Option rust.BatchOptions) → Holds words held → option_map seen_batch result ≡ batch_reading held →
    IfSome result (λ options. AskForBatch words (seen_batch options))
asks_batch words held None holds is = tt
asks_batch words held (Some options) holds is = batch_of_read words held (seen_batch options) holds (sym is)

pub asks_no_batch : (words : List (List ℕ)) (held : Given) (result : Option rust.BatchOptions) → Holds words held → option_map seen_batch result ≡ batch_reading held →
    IfNone result (AskForNoBatch words)
asks_no_batch words held None holds is = λ choice asked. let e = is ∙ read_as_batch words held choice holds asked in cc
asks_no_batch words held (Some options) holds is = tt

pub cannot_ask_batch : (words : List (List ℕ)) → CannotHold words → AskForNoBatch words
cannot_ask_batch words cannot choice asked = cannot asked.settings asked.words_are asked.once

pub batch_is_one : (words : List (List ℕ)) (first second : BatchChoice) → AskForBatch words first → AskForBatch words second → first ≡ second
batch_is_one words first second one other =
    one.choice_is ∙ ap (λ settings. chosen_batch (given_by settings)) (settings_are_one one.settings other.settings (sym one.words_are ∙ other.words_are)) ∙ sym other.choice_is

pub batch_or_not : (words : List (List ℕ)) → AskForBatchOrNot words
batch_or_not words = elim (held_or_not words) [
  | inl is ↦ elim (cases_Option (batch_reading is.0)) [
    | inl none ↦ inr (λ choice asked. let e = sym none ∙ read_as_batch words is.0 choice is.1 asked in cc)
    | inr some ↦ inl (some.0, batch_of_read words is.0 some.0 is.1 some.1)
  ]
  | inr cannot ↦ inr (cannot_ask_batch words cannot)
]

not_both : (b : Bool) → b ≡ true → b ≡ false → ⊥
not_both b yes_ no_ = (let e = sym yes_ ∙ no_ in cc)

pub batch_alone : (words : List (List ℕ)) (choice : BatchChoice) → AskForBatch words choice → AskForNothing words
batch_alone words choice batch other asked =
    let one = settings_are_one batch.settings asked.settings (sym batch.words_are ∙ asked.words_are) in
    not_both (is_some ((given_by batch.settings).value names.Batch)) batch.rules.stands (ap (λ settings. is_some ((given_by settings).value names.Batch)) one ∙ asked.rules.no_batch)

pub batch_within : (words : List (List ℕ)) (choice : BatchChoice) → AskForBatch words choice → IsBatchWithinRanges choice
unfolding is_in_set
batch_within words choice asked =
    let given : Given = given_by asked.settings in
    let within : IsBatchWithinRanges (chosen_batch given) = record { workers = value_within 4 1 64 (given.value names.Workers) (omega arith) (omega arith) (asked.in_sets names.Workers) } in
    subst IsBatchWithinRanges (sym asked.choice_is) within
