-- What the words ask for is within its ranges.
use Rattle.std.proofs.Common.{◌≡◌, ◌≤◌, ◌<◌, ℕ, ◌*◌, List, true, arith, subst, sym}
use Rattle.std.specs.Prelude.{Some, None}
use Rattle.std.specs.declared.option.Option.{Option}
use Rattle.run_words.specs.declared.name.Name.TheVariants as names
use Rattle.run_words.specs.declared.options.Format.{Format}
use Rattle.run_words.specs.Settings.{Given, given_by}
use Rattle.run_words.specs.Values.{is_number_within, is_in_set}
use Rattle.run_words.specs.Choice.{Choice, number_or, plan_of, source_of, format_in, chosen}
use Rattle.run_words.specs.Words.{passes, AreInSets, AskFor}
use Rattle.run_words.proofs.Numbers.{number_bounds, value_within}
use Rattle.run_words.specs.Ranges.{IsOfSize, IsPlan, IsWithinRanges}

source_within : (mesh problem cells seed : Option (List ℕ)) (format : Format) → passes (is_in_set names.Generate) cells ≡ true → IsOfSize (source_of mesh problem cells seed format)
unfolding is_in_set
source_within mesh problem None seed format is = tt
source_within mesh problem (Some cells) seed format is = number_bounds 1 512 cells is

plan_within : (given : Given) → AreInSets given → IsPlan (plan_of given)
unfolding is_in_set
plan_within given are =
    let workers = value_within 4 1 64 (given.value names.Workers) (omega arith) (omega arith) (are names.Workers) in
    let n : ℕ = number_or 4 (given.value names.Workers) in
    let low : 1 ≤ n = workers.0 in
    let high : n ≤ 64 = workers.1 in
    record {
      workers = workers;
      queue = value_within (2 * n) 1 256 (given.value names.Queue) (omega arith) (omega arith) (are names.Queue);
      chunk = value_within 8 1 64 (given.value names.Chunk) (omega arith) (omega arith) (are names.Chunk);
      scratch = value_within n 1 64 (given.value names.Scratch) low high (are names.Scratch);
    }

low_degree : (value : Option (List ℕ)) → passes (is_in_set names.Degree) value ≡ true → 0 < number_or 1 value
unfolding is_in_set
low_degree value is = (value_within 1 1 2 value (omega arith) (omega arith) is).0

pub choice_within : (words : List (List ℕ)) (choice : Choice) → AskFor words choice → IsWithinRanges choice
unfolding is_in_set
choice_within words choice asked =
    let given : Given = given_by asked.settings in
    let within : IsWithinRanges (chosen given) = record {
      source = source_within (given.value names.Mesh) (given.value names.Problem) (given.value names.Generate) (given.value names.Seed) (format_in given) (asked.in_sets names.Generate);
      plan = plan_within given asked.in_sets;
      degree = (low_degree (given.value names.Degree) (asked.in_sets names.Degree), asked.rules.degree);
      digits = (value_within 0 0 64 (given.value names.Digits) (omega arith) (omega arith) (asked.in_sets names.Digits)).1;
    } in
    subst IsWithinRanges (sym asked.choice_is) within
