-- The answer of a batch, and what its run leaves.
use Rattle.std.specs.Prelude.{◌≡◌, ◌⊎◌, ℕ, List, length, Ok, Err}
use Rattle.std.specs.declared.option.Option.{Option}
use Rattle.std.specs.declared.result.Result.{Result}
use Rattle.fem_text.specs.Counts.{after_good}
use Rattle.fem_text.specs.Outside.{Held}
use Rattle.fem_text.specs.Memory.{Named}
use Rattle.run_words.specs.BatchWords.{BatchChoice, AskForBatch, AskForNoBatch}
use Rattle.run_outputs.specs.Targets.{Target, World, after_target}
use Rattle.run_outputs.specs.Stops.{StopsAt}
use Rattle.diagnostics.specs.declared.ending.Output.TheVariants.{Matrix}
use Rattle.diagnostics.specs.declared.ending.Ending as endings
use Rattle.diagnostics.specs.declared.ending.Ending.TheVariants as ends
use Rattle.diagnostics.specs.Lines.{TookLine}
use Rattle.batch_sources.specs.declared.ending.BatchRefusal.{BatchRefusal}
use Rattle.batch_sources.specs.declared.ending.BatchEnding.{BatchEnding}
use Rattle.batch_sources.specs.declared.ending.BatchEnding.TheVariants.{Refused, ReadFault, WriteFault, NoMemory}
use Rattle.batch_sources.specs.Sources.{AreSources, RefusesSources, EndsSources}
use Rattle.batch_sources.specs.Lines.{batch_ending_status, batch_ending_line}
use Rattle.batch_run.specs.Output.{IsOutput}
use Rattle.assemble_core.specs.Modes.{all_modes}
use Rattle.assemble_core.specs.Run.{Outside, IsRun, after_reads}

-- the text of the batch under a name, over these texts of all names that it gives, its own among them
pub record IsBatchText (holds : Option Held) (name : List ℕ) (texts : Named) (text : List ℕ) : Type 0 where
  pub jobs : List (List (List ℕ))
  pub sources : AreSources holds name jobs texts
  pub output : IsOutput jobs texts text

-- the answer of the batch under a name: its text, or the first refusal in the order of the work
abbrev pub BatchAnswers : Option Held → List ℕ → Result (List ℕ) BatchRefusal → Type 0
BatchAnswers holds name (Ok text) = (texts : Named) × IsBatchText holds name texts text
BatchAnswers holds name (Err refusal) = RefusesSources holds name refusal

-- the text of a batch, and where it goes
abbrev pub batch_target : BatchChoice → List ℕ → Target
batch_target choice text = record { output = Matrix; destination = choice.destination; text = text }

-- the outside after all texts were read, each name once
abbrev pub after_texts : World → Named → World
after_texts before texts = after_reads before (after_good (length texts) before.store)

-- all texts were read, and the text of the batch was written, and nothing else
pub record WritesBatch (choice : BatchChoice) (before now : World) : Type 0 where
  pub texts : Named
  pub text : List ℕ
  pub made : IsBatchText before.holds choice.name texts text
  pub written : now ≡ after_target (after_texts before texts) (batch_target choice text)

-- all texts were read, and the writing of the text of the batch stopped so
pub record StopsBatch (choice : BatchChoice) (before now : World) (ending : endings.Ending) : Type 0 where
  pub texts : Named
  pub text : List ℕ
  pub made : IsBatchText before.holds choice.name texts text
  pub stops : StopsAt (batch_target choice text) (after_texts before texts) now ending

-- the batch ended before anything was written: its texts are refused, a read failed, or memory ran out
pub record EndsUnwritten (choice : BatchChoice) (before now : World) (ending : BatchEnding) : Type 0 where
  pub ends : EndsSources before.holds choice.name before.store now.store ending
  pub same : now ≡ after_reads before now.store

-- what a batch leaves by its end
abbrev pub LeavesBatch : BatchChoice → World → World → Result Unit BatchEnding → Type 0
LeavesBatch choice before now (Ok unit) = WritesBatch choice before now
LeavesBatch choice before now (Err (Refused refusal)) = EndsUnwritten choice before now (Refused refusal)
LeavesBatch choice before now (Err (ReadFault role)) = EndsUnwritten choice before now (ReadFault role)
LeavesBatch choice before now (Err WriteFault) = StopsBatch choice before now (ends.WriteFault Matrix)
LeavesBatch choice before now (Err NoMemory) = EndsUnwritten choice before now NoMemory ⊎ StopsBatch choice before now ends.NoMemory

-- the diagnostics took the line of an end, or a prefix of it, and nothing where all is well
abbrev pub TellsBatch : Outside → Outside → Result Unit BatchEnding → Type 0
TellsBatch before now (Ok unit) = (now.told ≡ before.told) × (now.tells ≡ before.tells)
TellsBatch before now (Err ending) = TookLine before.told now.told before.tells now.tells (batch_ending_line ending)

-- 0 where all is well
abbrev pub batch_status_of : Result Unit BatchEnding → ℕ
batch_status_of (Ok unit) = 0
batch_status_of (Err ending) = batch_ending_status ending

-- a run of a batch ended with this status
pub record IsBatchRun (choice : BatchChoice) (before now : Outside) (status : ℕ) : Type 0 where
  pub end : Result Unit BatchEnding
  pub status_is : status ≡ batch_status_of end
  pub leaves : LeavesBatch choice before.world now.world end
  pub tells : TellsBatch before now end

-- a run of any words ended with this status: of words that ask for no batch, or of those that ask for this batch
pub data IsAnyRun (words : List (List ℕ)) (before now : Outside) (status : ℕ) : Type 0 where
  without_batch : AskForNoBatch words → IsRun all_modes words before now status → IsAnyRun words before now status
  with_batch : (choice : BatchChoice) → AskForBatch words choice → IsBatchRun choice before now status → IsAnyRun words before now status
