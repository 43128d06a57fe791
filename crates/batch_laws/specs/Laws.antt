-- Laws of batches: a batch has an answer over each store, and one at most over a store that tells what it holds; and its text is
-- what runs of its jobs alone write over that store.
use Rattle.std.specs.Prelude.{◌≡◌, ℕ, List, [], ◌∷◌, Some, Ok}
use Rattle.std.specs.declared.option.Option.{Option}
use Rattle.std.specs.declared.result.Result.{Result}
use Rattle.fem_text.specs.Outside.{Held}
use Rattle.run_outputs.specs.Targets.{Target}
use Rattle.diagnostics.specs.declared.refusal.Refusal.{Refusal}
use Rattle.batch_read.specs.Batch.{BatchText}
use Rattle.batch_sources.specs.declared.ending.BatchRefusal.{BatchRefusal}
use Rattle.batch_answers.specs.Outcome.{IsOutcomeOf}
use Rattle.batch_run.specs.Output.{Outcome, parts_from}
use Rattle.assemble_core.specs.Modes.{all_modes}
use Rattle.assemble_core.specs.Batch.{BatchAnswers}
use Rattle.answer_laws.specs.Runs.{IsTheAnswer}

-- the one answer of these words over this store: status 0 with what they write, or status and line of their refusal
abbrev pub IsOutcomeOfWords : Held → List (List ℕ) → Outcome → Type 0
IsOutcomeOfWords held words outcome = (answer : Result (List Target) Refusal) × IsTheAnswer all_modes words (Some held) answer × IsOutcomeOf answer outcome.status outcome.text

-- the same of each of the jobs
abbrev pub AreOutcomesOfWords : Held → List (List (List ℕ)) → List Outcome → Type 0
AreOutcomesOfWords held [] [] = Unit {0}
AreOutcomesOfWords held (words ∷ jobs) (outcome ∷ outcomes) = IsOutcomeOfWords held words outcome × AreOutcomesOfWords held jobs outcomes
AreOutcomesOfWords held [] (outcome ∷ outcomes) = ⊥
AreOutcomesOfWords held (words ∷ jobs) [] = ⊥

-- the text under a name has these jobs, and the text of the batch has a part for each, of what its words come to by themselves
pub record IsTextOfRuns (held : Held) (name text : List ℕ) : Type 0 where
  pub own : List ℕ
  pub stands : held name ≡ Some own
  pub jobs : List (List (List ℕ))
  pub jobs_are : BatchText own jobs
  pub outcomes : List Outcome
  pub are : AreOutcomesOfWords held jobs outcomes
  pub text_is : text ≡ parts_from 0 outcomes

-- a batch writes what runs of its jobs alone write
abbrev pub BatchesWriteWhatRunsWrite : Type 0
BatchesWriteWhatRunsWrite = (held : Held) (name text : List ℕ) → BatchAnswers (Some held) name (Ok text) → IsTextOfRuns held name text

-- over a store that tells what it holds, two answers of a batch are the same
abbrev pub BatchesHaveOneAnswer : Type 0
BatchesHaveOneAnswer = (held : Held) (name : List ℕ) (a b : Result (List ℕ) BatchRefusal) → BatchAnswers (Some held) name a → BatchAnswers (Some held) name b → a ≡ b

-- a batch has an answer over each store
abbrev pub BatchesHaveAnAnswer : Type 0
BatchesHaveAnAnswer = (holds : Option Held) (name : List ℕ) → (answer : Result (List ℕ) BatchRefusal) × BatchAnswers holds name answer
