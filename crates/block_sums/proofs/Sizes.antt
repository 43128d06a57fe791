-- Sizes of shares, of masters' weights and of constants.
use Rattle.std.proofs.Common.{ℕ, ◌+◌, ◌*◌, ◌^◌, ◌<◌, ◌≤◌, ℤ, pos, ◌-ℤ◌, ◌*ℤ◌, ◌<ℤ◌, [], arith, lit≤, lit<, Some, None, IfSome}
use Rattle.std.specs.Prelude.{unsigned_abs}
use Rattle.std.specs.List.{All}
use Rattle.std.specs.declared.option.Option.{Option}
use Rattle.std.proofs.lemmas.Int.{ints}
use Rattle.std.proofs.lemmas.List.Elements.{All-nil, All-cons}
use Rattle.fem_fixed.specs.Rounding.{nearest}
use Rattle.fem_fixed.proofs.Sizes.{size_mul, size_sub}
use Rattle.fem_fixed.proofs.Nearest.{nearest_size}
use Rattle.fem_fixed.proofs.Unique.{nearest_is_near}
use Rattle.affine_constraints.specs.Lines.{AffineLine, Lines}
use Rattle.block_sums.specs.Masters.{masters, masters_by, constant_of, constant_by, itself}
use Rattle.block_sums.specs.Shares.{load_share, entry_share, constant_share}
use Rattle.block_sums.specs.SmallLines.{IsWeight, IsSmallLine, AreSmallLines}

above_zero : (d : ℕ) → 0 < d → pos 0 <ℤ pos d
above_zero d h = grind (arith, ints)

-- a quotient of a number of this size
nearest_small : (n : ℤ) (size m d : ℕ) → 0 < d → unsigned_abs n ≤ size → size ≤ m * d → unsigned_abs (nearest n (pos d)) ≤ m
nearest_small n size m d positive small fits =
    nearest_size n (pos d) (nearest n (pos d)) m (above_zero d positive) (nearest_is_near n (pos d) (above_zero d positive)) (omega (arith, small, fits))

pub load_share_small : (weight load : ℤ) → unsigned_abs weight ≤ 2 ^ 31 → unsigned_abs load ≤ 2 ^ 72 → unsigned_abs (load_share weight load) ≤ 2 ^ 100
unfolding load_share
load_share_small weight load hw hl = nearest_small (weight *ℤ load) (2 ^ 31 * 2 ^ 72) (2 ^ 100) 65536 (lit< tt) (size_mul weight load (2 ^ 31) (2 ^ 72) hw hl) (lit≤ tt)

pub entry_share_small : (weight entry other : ℤ) → unsigned_abs weight ≤ 2 ^ 20 → unsigned_abs entry ≤ 2 ^ 72 → unsigned_abs other ≤ 2 ^ 20 → unsigned_abs (entry_share weight entry other) ≤ 2 ^ 100
unfolding entry_share
entry_share_small weight entry other hw he ho =
    nearest_small (weight *ℤ entry *ℤ other) (2 ^ 20 * 2 ^ 72 * 2 ^ 20) (2 ^ 100) (2 ^ 32) (lit< tt)
    (size_mul (weight *ℤ entry) other (2 ^ 20 * 2 ^ 72) (2 ^ 20) (size_mul weight entry (2 ^ 20) (2 ^ 72) hw he) ho) (lit≤ tt)

pub constant_share_small : (weight entry constant : ℤ) → unsigned_abs weight ≤ 2 ^ 20 → unsigned_abs entry ≤ 2 ^ 72 → unsigned_abs constant ≤ 2 ^ 31 → unsigned_abs (constant_share weight entry constant) ≤ 2 ^ 100
unfolding constant_share
constant_share_small weight entry constant hw he hc =
    nearest_small (pos 0 -ℤ weight *ℤ entry *ℤ constant) (0 + 2 ^ 20 * 2 ^ 72 * 2 ^ 31) (2 ^ 100) (2 ^ 32) (lit< tt)
    (size_sub (pos 0) (weight *ℤ entry *ℤ constant) 0 (2 ^ 20 * 2 ^ 72 * 2 ^ 31) (lit≤ tt)
    (size_mul (weight *ℤ entry) constant (2 ^ 20 * 2 ^ 72) (2 ^ 31) (size_mul weight entry (2 ^ 20) (2 ^ 72) hw he) hc)) (lit≤ tt)

by_small : (line : Option AffineLine) (dof : ℕ) → IfSome line IsSmallLine → All IsWeight (masters_by line dof)
by_small None dof small = All-cons IsWeight (itself dof) [] (lit≤ tt) (All-nil IsWeight)
by_small (Some line) dof small = small.weights

pub masters_small : (lines : Lines) (dof : ℕ) → AreSmallLines lines → All IsWeight (masters lines dof)
unfolding masters
masters_small lines dof small = by_small (lines dof) dof (small dof)

by_small_constant : (line : Option AffineLine) → IfSome line IsSmallLine → unsigned_abs (constant_by line) ≤ 2 ^ 31
by_small_constant None small = lit≤ tt
by_small_constant (Some line) small = small.constant

pub constant_small : (lines : Lines) (dof : ℕ) → AreSmallLines lines → unsigned_abs (constant_of lines dof) ≤ 2 ^ 31
unfolding constant_of
constant_small lines dof small = by_small_constant (lines dof) (small dof)
