use Rattle.std.proofs.Common.{take}
use Rattle.std.specs.List.{flat_map}
use Rattle.affine_constraints.specs.Lines.{lines_in}
use Rattle.block_sums.specs.Contributions.{master_terms}
use Rattle.block_sums.specs.Adding.{Adds}
use Rattle.block_sums.proofs.walk.add_masters.Given as goal

abbrev pub invariant-loop-master : goal.invariant-loop-master
invariant-loop-master g l =
    Adds (g.A.Adder.fits l.adder) (g.A.Adder.step l.adder) (l.fn.sum, l.fn.told) (l.sum, l.told) (flat_map (master_terms (lines_in l.closed) l.block l.i) (take l.master-index l.terms))
