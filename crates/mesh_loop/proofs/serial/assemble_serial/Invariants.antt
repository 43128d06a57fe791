use Rattle.std.proofs.Common.{◌≡◌, None}
use Rattle.std.specs.List.{All, range_with_len}
use Rattle.serial_sum.specs.Rows.{FitsRows}
use Rattle.serial_sum.specs.Steps.{IsPartFor}
use Rattle.mesh_loop.specs.Setup.{pattern_of}
use Rattle.mesh_loop.specs.Sum.{parts_of}
use Rattle.mesh_loop.proofs.Summing.{state_at, summed}
use Rattle.mesh_loop.proofs.serial.assemble_serial.Given as goal

abbrev pub invariant-loop-cell : goal.invariant-loop-cell
invariant-loop-cell l = record {
  steps : state_at l.rows None ≡ summed l.digits l.setup l.cell;
  fits : FitsRows l.system.pattern.now l.rows;
  allowed : All (IsPartFor (pattern_of l.setup)) (parts_of l.setup (range_with_len 0 l.cell));
}
