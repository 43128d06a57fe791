-- Words have an answer.
use Rattle.std.specs.Prelude.{ℕ, List, Bool}
use Rattle.std.specs.declared.option.Option.{Option}
use Rattle.std.specs.declared.result.Result.{Result}
use Rattle.fem_text.specs.Outside.{Held}
use Rattle.run_words.specs.Choice.{Mode}
use Rattle.run_outputs.specs.Targets.{Target}
use Rattle.diagnostics.specs.declared.refusal.Refusal.{Refusal}
use Rattle.assemble_core.specs.Answer.{Answers}

-- words have an answer over each store
abbrev pub HaveAnAnswer : Type 0
HaveAnAnswer = (takes : Mode → Bool) (words : List (List ℕ)) (holds : Option Held) → (answer : Result (List Target) Refusal) × Answers takes words holds answer
