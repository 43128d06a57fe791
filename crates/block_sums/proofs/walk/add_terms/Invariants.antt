use Rattle.std.proofs.Common.{map, take}
use Rattle.affine_constraints.specs.declared.term.Term.{Term}
use Rattle.serial_sum.specs.declared.part.Target.TheVariants.{Column}
use Rattle.block_sums.specs.Contributions.{to}
use Rattle.block_sums.specs.Shares.{entry_share}
use Rattle.block_sums.specs.Adding.{Adds}
use Rattle.block_sums.proofs.walk.add_terms.Given as goal

abbrev pub invariant-loop-other : goal.invariant-loop-other
invariant-loop-other g l =
    Adds (g.A.Adder.fits l.adder) (g.A.Adder.step l.adder) (l.fn.sum, l.fn.told) (l.sum, l.told)
    (map (λ (other : Term). to l.master.dof (Column other.dof) (entry_share l.master.weight l.entry other.weight)) (take l.other-index l.terms))
