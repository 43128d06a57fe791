-- Sums under way, which are taken modulo 2^128.
use Rattle.std.specs.Prelude.{ℕ, zero, suc, List, map, slice_index, slice_index_or, slice_set, ℤ, pos, ◌+ℤ◌}
use Rattle.std.specs.Int.{w128, int_wrap}
use Rattle.std.specs.List.{range_with_len}
use Rattle.hanging_refine.specs.Refined.{RefinedMesh}
use Rattle.dof_numbers.specs.Dofs.{Numbering}
use Rattle.lumped_mass.specs.Masses.{mass_of}

-- the sums with a share more at this dof
abbrev pub with_share : List ℤ → ℕ → ℤ → List ℤ
with_share sums dof share = slice_set sums dof (int_wrap w128 (slice_index_or sums dof (pos 0) +ℤ share))

-- the sums with the shares of the first n vertices
abbrev pub with_shares : List ℕ → List ℤ → List ℤ → ℕ → List ℤ
with_shares dofs shares sums zero = sums
with_shares dofs shares sums (suc n) = with_share (with_shares dofs shares sums n) (slice_index dofs n) (slice_index_or shares n (pos 0))

-- each dof, and the sum of what these cells give to it
unfoldable pub sums_of : RefinedMesh → Numbering → List ℕ → List (ℕ × ℤ)
sums_of forest dofs cells = map (λ dof. (dof, int_wrap w128 (mass_of forest dofs cells dof))) (range_with_len 0 dofs.size)
