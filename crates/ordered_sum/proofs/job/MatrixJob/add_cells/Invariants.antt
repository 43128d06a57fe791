use Rattle.std.proofs.Common.{◌≡◌}
use Rattle.std.specs.List.{range_with_len}
use Rattle.serial_sum.specs.Rows.{FitsRows}
use Rattle.mesh_loop.specs.Setup.{pattern_of}
use Rattle.ordered_sum.specs.Chunks.{state_after}
use Rattle.ordered_sum.proofs.job.MatrixJob.add_cells.Given as goal

abbrev pub invariant-loop-k : goal.invariant-loop-k
invariant-loop-k l = record {
  steps : l.state ≡ state_after l.self.digits l.self.setup.now l.initial.state (range_with_len l.cells.first l.k);
  fits : FitsRows (pattern_of l.self.setup.now) l.state.rows;
}
