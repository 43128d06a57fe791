use Rattle.std.proofs.Common.{◌≡◌, None, slice_index}
use Rattle.serial_sum.specs.Rows.{AreUnmarked, FitsRows}
use Rattle.mesh_loop.specs.Setup.{pattern_of}
use Rattle.mesh_loop.proofs.Summing.{state_at}
use Rattle.colored_sum.proofs.ColorSums.{before}
use Rattle.colored_sum.proofs.colored.assemble_colored.Given as goal

abbrev pub invariant-loop-color : goal.invariant-loop-color
invariant-loop-color g l = record {
  steps : state_at l.rows None ≡ before l.plan.digits l.setup l.colors.order (slice_index l.colors.starts l.color);
  clean : AreUnmarked l.rows;
  fits : FitsRows (pattern_of l.setup) l.rows;
}
