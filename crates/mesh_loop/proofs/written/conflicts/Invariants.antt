use Rattle.std.proofs.Common.{◌≡◌, map}
use Rattle.std.specs.List.{range_with_len}
use Rattle.mesh_loop.specs.Setup.{written_rows}
use Rattle.mesh_loop.proofs.written.conflicts.Given as goal

abbrev pub invariant-loop-cell : goal.invariant-loop-cell
invariant-loop-cell l = l.conflicts ≡ map (written_rows l.setup) (range_with_len 0 l.cell)
