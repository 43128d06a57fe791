-- What a run of the job leaves.
use Rattle.std.proofs.Common.{◌≡◌, ℕ, refl}
use Rattle.serial_sum.specs.declared.sum.MatrixState.{MatrixState}
use Rattle.mesh_loop.specs.Setup.{MeshProblem, cells_of}
use Rattle.ordered_pipeline.specs.Fold as pipeline
use Rattle.ordered_sum.specs.Chunks.{chunks_of, chunk_cells, state_after}
use Rattle.ordered_sum.specs.declared.job.MatrixJob.{MatrixJob}
use Rattle.ordered_sum.proofs.Ends.{end_of}
use Rattle.ordered_sum.proofs.Steps.{all_ended}

abbrev count : MatrixJob → ℕ
count j = chunks_of j.setup.now j.chunk

abbrev step : MatrixJob → MatrixState → ℕ → MatrixState
step j state k = state_after j.digits j.setup.now state (chunk_cells j.setup.now j.chunk k)

-- the state after all its items is that after all cells
pub run_ended : (digits : ℕ) (s : MeshProblem) (job : MatrixJob) (start end : MatrixState) → job.digits ≡ digits → job.setup.now ≡ s → end ≡ pipeline.fold step job start (count job) → end ≡ state_after digits s start (cells_of s)
run_ended digits s job start end same-digits same-problem ends =
    end_of digits job.digits s job.setup.now start end same-digits same-problem (all_ended step job job.digits job.setup.now job.chunk start end (count job) (λ state k. refl) refl job.some ends)
