-- The statuses of runs.
use Rattle.std.proofs.Common.{◌≡◌, ◌∙◌, ap, refl, ℕ, List, Bool, true}
use Rattle.std.specs.Prelude.{Ok, Err}
use Rattle.std.specs.declared.result.Result.{Result}
use Rattle.run_words.specs.Choice.{Mode}
use Rattle.diagnostics.specs.declared.refusal.Refusal.{Refusal}
use Rattle.diagnostics.specs.declared.refusal.Refusal.TheVariants.{Words, MeshText, ProblemText, Mesh, Constraint, Local, Sum, Limit, Vector, Product, Absent}
use Rattle.diagnostics.specs.declared.ending.Ending.{Ending}
use Rattle.diagnostics.specs.declared.ending.Ending.TheVariants.{Refused, ReadFault, WriteFault, NoMemory}
use Rattle.diagnostics.specs.Lines.{ending_status}
use Rattle.diagnostics.specs.Lines as lines
use Rattle.batch_sources.specs.declared.ending.BatchRefusal.{BatchRefusal}
use Rattle.batch_sources.specs.declared.ending.BatchRefusal.TheVariants as batches
use Rattle.batch_sources.specs.declared.ending.BatchEnding.{BatchEnding}
use Rattle.batch_sources.specs.declared.ending.BatchEnding.TheVariants as batch_ends
use Rattle.batch_sources.specs.Lines.{batch_status, batch_ending_status}
use Rattle.assemble_core.specs.Modes.{all_modes}
use Rattle.assemble_core.specs.Run.{Outside, IsRun, is_status, status_of}
use Rattle.assemble_core.specs.Batch.{IsAnyRun, without_batch, with_batch, batch_status_of}

refusal_has_status : (refusal : Refusal) → is_status (lines.status_of refusal) ≡ true
refusal_has_status Words = refl
refusal_has_status (MeshText kind line) = refl
refusal_has_status (ProblemText kind line) = refl
refusal_has_status (Mesh kind place) = refl
refusal_has_status (Constraint kind place) = refl
refusal_has_status (Local cell fault) = refl
refusal_has_status (Sum cell row) = refl
refusal_has_status (Limit kind) = refl
refusal_has_status (Vector fault) = refl
refusal_has_status (Product cell) = refl
refusal_has_status (Absent role) = refl

ending_has_status : (ending : Ending) → is_status (ending_status ending) ≡ true
ending_has_status (Refused refusal) = refusal_has_status refusal
ending_has_status (ReadFault role) = refl
ending_has_status (WriteFault output) = refl
ending_has_status NoMemory = refl

end_has_status : (end : Result Unit Ending) → is_status (status_of end) ≡ true
end_has_status (Ok unit) = refl
end_has_status (Err ending) = ending_has_status ending

-- a run ends with a status
pub run_has_status : (takes : Mode → Bool) (words : List (List ℕ)) (before now : Outside) (status : ℕ) → IsRun takes words before now status → is_status status ≡ true
run_has_status takes words before now status run = ap is_status run.status_is ∙ end_has_status run.end

batch_refusal_has_status : (refusal : BatchRefusal) → is_status (batch_status refusal) ≡ true
batch_refusal_has_status (batches.Text line) = refl
batch_refusal_has_status (batches.Count line) = refl
batch_refusal_has_status batches.Size = refl
batch_refusal_has_status (batches.Absent role) = refl

batch_ending_has_status : (ending : BatchEnding) → is_status (batch_ending_status ending) ≡ true
batch_ending_has_status (batch_ends.Refused refusal) = batch_refusal_has_status refusal
batch_ending_has_status (batch_ends.ReadFault role) = refl
batch_ending_has_status batch_ends.WriteFault = refl
batch_ending_has_status batch_ends.NoMemory = refl

batch_end_has_status : (end : Result Unit BatchEnding) → is_status (batch_status_of end) ≡ true
batch_end_has_status (Ok unit) = refl
batch_end_has_status (Err ending) = batch_ending_has_status ending

-- so does a run of any words
pub any_run_has_status : (words : List (List ℕ)) (before now : Outside) (status : ℕ) → IsAnyRun words before now status → is_status status ≡ true
any_run_has_status words before now status (without_batch none run) = run_has_status all_modes words before now status run
any_run_has_status words before now status (with_batch choice asks run) = ap is_status run.status_is ∙ batch_end_has_status run.end
