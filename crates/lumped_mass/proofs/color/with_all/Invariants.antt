use Rattle.std.proofs.Common.{◌≡◌, map, pos, ◌+ℤ◌, ◌==◌, cond}
use Rattle.std.specs.Prelude.{slice_index, slice_index_or}
use Rattle.std.specs.Int.{w128, int_wrap}
use Rattle.std.specs.List.{range_with_len}
use Rattle.lumped_mass.specs.Masses.{total}
use Rattle.lumped_mass.proofs.color.with_all.Given as goal

abbrev pub invariant-loop-v : goal.invariant-loop-v
invariant-loop-v l = l.sum ≡ int_wrap w128 (l.fn.value +ℤ total (map (λ v. cond (slice_index l.dofs v == l.dof) (slice_index_or l.shares v (pos 0)) (pos 0)) (range_with_len 0 l.v)))
