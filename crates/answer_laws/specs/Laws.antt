-- Laws of answers: words and texts have one at most.
use Rattle.std.specs.Prelude.{◌≡◌, ℕ, List, Bool, Some, None, Ok}
use Rattle.std.specs.declared.option.Option.{Option}
use Rattle.std.specs.declared.result.Result.{Result}
use Rattle.fem_text.specs.Outside.{Held}
use Rattle.run_words.specs.Choice.{Mode, vector_in, Choice, Source, texts, generated}
use Rattle.run_outputs.specs.Targets.{Target}
use Rattle.diagnostics.specs.declared.refusal.Refusal.{Refusal}
use Rattle.assemble_core.specs.Answer.{Asked, Answers}

-- over a store that tells what it holds, two answers of words are the same
abbrev pub HaveOneAnswer : Type 0
HaveOneAnswer =
    (takes : Mode → Bool) (words : List (List ℕ)) (held : Held) (a b : Result (List Target) Refusal) →
    Answers takes words (Some held) a → Answers takes words (Some held) b → a ≡ b

-- no text of the source is read
abbrev pub IsGenerated : Source → Type 0
IsGenerated (texts mesh format problem) = ⊥
IsGenerated (generated n seed) = Unit {0}

-- the words ask for nothing whose texts are read: they are refused, or ask for a generated grid, and for no vector
abbrev pub ReadNothing : (Mode → Bool) → List (List ℕ) → Type 0
ReadNothing takes words = (choice : Choice) → Asked takes words (Ok choice) → IsGenerated choice.source × (vector_in choice.mode ≡ None)

-- two answers of such words are the same over each store, also over one that tells nothing
abbrev pub HaveOneAnswerWithoutTexts : Type 0
HaveOneAnswerWithoutTexts =
    (takes : Mode → Bool) (words : List (List ℕ)) (holds : Option Held) → ReadNothing takes words → (a b : Result (List Target) Refusal) →
    Answers takes words holds a → Answers takes words holds b → a ≡ b
