use Rattle.std.proofs.Common.{◌≡◌, map, pos}
use Rattle.std.specs.List.{range_with_len}
use Rattle.lumped_mass.proofs.by_color.zero_sums.Given as goal

abbrev pub invariant-loop-dof : goal.invariant-loop-dof
invariant-loop-dof l = l.sums.items ≡ map (λ dof. (dof, pos 0)) (range_with_len 0 l.dof)
