use Rattle.std.proofs.Common.{take}
use Rattle.std.specs.List.{flat_map}
use Rattle.affine_constraints.specs.Lines.{lines_in}
use Rattle.cell_blocks.specs.Visited.{blocks_in}
use Rattle.block_sums.specs.Contributions.{contributions}
use Rattle.block_sums.specs.Adding.{Adds}
use Rattle.block_sums.proofs.cells.add_blocks.Given as goal

abbrev pub invariant-loop-k : goal.invariant-loop-k
invariant-loop-k g l =
    Adds (g.A.Adder.fits l.adder) (g.A.Adder.step l.adder) (l.fn.sum, l.fn.told) (l.sum, l.told) (flat_map (contributions (lines_in l.closed)) (take l.k (blocks_in l.copy)))
