use Rattle.std.proofs.Common.{◌∷◌}
use Rattle.std.specs.List.{flat_map, range_with_len}
use Rattle.affine_constraints.specs.Lines.{lines_in}
use Rattle.serial_sum.specs.declared.part.Target.TheVariants.{RightSide}
use Rattle.block_sums.specs.Contributions.{to, column_terms, load_at, entry_at, dof_at}
use Rattle.block_sums.specs.Shares.{load_share}
use Rattle.block_sums.specs.Adding.{Adds}
use Rattle.block_sums.proofs.walk.add_master.Given as goal

abbrev pub invariant-loop-j : goal.invariant-loop-j
invariant-loop-j g l =
    Adds (g.A.Adder.fits l.adder) (g.A.Adder.step l.adder) (l.fn.sum, l.fn.told) (l.sum, l.told)
    (to l.master.dof RightSide (load_share l.master.weight (load_at l.block l.i))
    ∷ flat_map (λ j. column_terms (lines_in l.closed) l.master (entry_at l.block l.i j) (dof_at l.block j)) (range_with_len 0 l.j))
