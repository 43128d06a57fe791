-- Laws of the runs of batches: what a run does with the answer of its batch, and what its status tells of that answer.
use Rattle.std.specs.Prelude.{◌≡◌, ◌⊎◌, ◌↔◌, ℕ, List, Bool, Some, Ok, Err}
use Rattle.std.specs.declared.result.Result.{Result}
use Rattle.fem_text.specs.Counts.{AllWell}
use Rattle.fem_text.specs.Outside.{Held}
use Rattle.fem_text.specs.Memory.{Named}
use Rattle.run_words.specs.Choice.{Mode}
use Rattle.run_words.specs.BatchWords.{BatchChoice, AskForBatch, AskForNoBatch}
use Rattle.run_outputs.specs.Targets.{after_target}
use Rattle.diagnostics.specs.Lines.{TookLine}
use Rattle.batch_sources.specs.declared.ending.BatchRefusal.{BatchRefusal}
use Rattle.batch_sources.specs.Lines.{batch_status, batch_refusal_line}
use Rattle.assemble_core.specs.Modes.{all_modes}
use Rattle.assemble_core.specs.Answer.{AreRefused}
use Rattle.assemble_core.specs.Run.{Outside, IsRun, after_reads}
use Rattle.assemble_core.specs.Batch.{BatchAnswers, batch_target, after_texts, IsBatchRun, IsAnyRun}
use Rattle.answer_laws.specs.Runs.{IsOfOutside, NoCountRose}

-- after all reads this text was written and nothing else, no call failed, and nothing was put to the diagnostics
pub record WroteText (choice : BatchChoice) (before now : Outside) (text : List ℕ) : Type 0 where
  pub texts : Named
  pub written : now.world ≡ after_target (after_texts before.world texts) (batch_target choice text)
  pub told : now.told ≡ before.told
  pub tells : now.tells ≡ before.tells

-- some reads went well, nothing was written, and the diagnostics took the line of this refusal, or a prefix of it
pub record ToldRefusal (before now : Outside) (refusal : BatchRefusal) : Type 0 where
  pub reads : AllWell before.world.store now.world.store
  pub same : now.world ≡ after_reads before.world now.world.store
  pub line : TookLine before.told now.told before.tells now.tells (batch_refusal_line refusal)

-- the run did what this answer says
abbrev pub IsDone : BatchChoice → Outside → Outside → Result (List ℕ) BatchRefusal → Type 0
IsDone choice before now (Ok text) = WroteText choice before now text
IsDone choice before now (Err refusal) = ToldRefusal before now refusal

-- the status of an answer: 0 for a text
abbrev pub answer_status : Result (List ℕ) BatchRefusal → ℕ
answer_status (Ok text) = 0
answer_status (Err refusal) = batch_status refusal

-- a run over a store that tells what it holds does what the answer of its batch says, with the status of that answer; or a read,
-- a write or a put stopped it, or want of memory
abbrev pub AnswersAreDone : Type 0
AnswersAreDone =
    (choice : BatchChoice) (before now : Outside) (status : ℕ) (held : Held) (answer : Result (List ℕ) BatchRefusal) → before.world.holds ≡ Some held →
    BatchAnswers (Some held) choice.name answer → IsBatchRun choice before now status → ((status ≡ answer_status answer) × IsDone choice before now answer) ⊎ IsOfOutside status

-- where the answer is a refusal, nothing is written, whatever the status
abbrev pub RefusedBatchesWriteNothing : Type 0
RefusedBatchesWriteNothing =
    (choice : BatchChoice) (before now : Outside) (status : ℕ) (held : Held) (refusal : BatchRefusal) → before.world.holds ≡ Some held →
    BatchAnswers (Some held) choice.name (Err refusal) → IsBatchRun choice before now status → now.world ≡ after_reads before.world now.world.store

-- each status that is not of the outside tells that the one answer of the batch has this status, and that it was done
abbrev pub StatusTellsTheAnswer : Type 0
StatusTellsTheAnswer =
    (choice : BatchChoice) (before now : Outside) (status : ℕ) (held : Held) → before.world.holds ≡ Some held → IsBatchRun choice before now status → ¬ IsOfOutside status →
    (answer : Result (List ℕ) BatchRefusal) × BatchAnswers (Some held) choice.name answer × (status ≡ answer_status answer) × IsDone choice before now answer

-- where no count of faults rose, the status is that of the answer, or memory ran out
abbrev pub BatchesAreComplete : Type 0
BatchesAreComplete =
    (choice : BatchChoice) (before now : Outside) (status : ℕ) (held : Held) (answer : Result (List ℕ) BatchRefusal) → before.world.holds ≡ Some held →
    BatchAnswers (Some held) choice.name answer → NoCountRose before now → IsBatchRun choice before now status → (status ≡ answer_status answer) ⊎ (status ≡ 12)

-- a run of any words has the status 2 exactly where they ask for no batch and are refused, whatever the store tells
abbrev pub RefusedWordsHaveStatus2 : Type 0
RefusedWordsHaveStatus2 = (words : List (List ℕ)) (before now : Outside) (status : ℕ) → IsAnyRun words before now status → (status ≡ 2) ↔ (AskForNoBatch words × AreRefused all_modes words)

-- a run that takes no batch refuses words that ask for one, with the status 2
abbrev pub OthersRefuseBatches : Type 0
OthersRefuseBatches =
    (takes : Mode → Bool) (words : List (List ℕ)) (choice : BatchChoice) (before now : Outside) (status : ℕ) → AskForBatch words choice → IsRun takes words before now status → status ≡ 2
