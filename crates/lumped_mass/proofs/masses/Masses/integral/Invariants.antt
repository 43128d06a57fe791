use Rattle.std.proofs.Common.{◌≡◌, map, pos, ◌*ℤ◌}
use Rattle.std.specs.Prelude.{slice_index_or}
use Rattle.std.specs.Int.{w128, int_wrap}
use Rattle.std.specs.List.{range_with_len}
use Rattle.lumped_mass.specs.Masses.{total}
use Rattle.lumped_mass.proofs.masses.Masses.integral.Given as goal

abbrev pub invariant-loop-dof : goal.invariant-loop-dof
invariant-loop-dof l = l.sum ≡ int_wrap w128 (total (map (λ dof. slice_index_or l.self dof (pos 0) *ℤ slice_index_or l.values dof (pos 0)) (range_with_len 0 l.dof)))
