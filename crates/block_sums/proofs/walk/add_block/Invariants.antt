use Rattle.std.specs.List.{flat_map, range_with_len}
use Rattle.affine_constraints.specs.Lines.{lines_in}
use Rattle.block_sums.specs.Contributions.{row_terms}
use Rattle.block_sums.specs.Adding.{Adds}
use Rattle.block_sums.proofs.walk.add_block.Given as goal

abbrev pub invariant-loop-i : goal.invariant-loop-i
invariant-loop-i g l =
    Adds (g.A.Adder.fits l.adder) (g.A.Adder.step l.adder) (l.fn.sum, l.fn.told) (l.sum, l.told) (flat_map (row_terms (lines_in l.closed) l.block) (range_with_len 0 l.i))
