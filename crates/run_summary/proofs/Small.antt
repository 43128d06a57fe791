-- Sums of small numbers fit.
use Rattle.std.proofs.Common.{ℕ, ◌+◌, ◌*◌, ◌^◌, ◌≤◌, ℤ, pos, ◌+ℤ◌, ◌*ℤ◌, arith}
use Rattle.std.specs.Prelude.{unsigned_abs}
use Rattle.fem_fixed.proofs.Sizes.{size_add, size_mul}

pub weighed_size : (value : ℤ) (weight : ℕ) → unsigned_abs value ≤ 2 ^ 80 → weight ≤ 7 → unsigned_abs (value *ℤ pos weight) ≤ 2 ^ 83
weighed_size value weight small few =
    let size : unsigned_abs (value *ℤ pos weight) ≤ 2 ^ 80 * 7 = size_mul value (pos weight) (2 ^ 80) 7 small few in
    omega arith

pub sum_size : (sum value : ℤ) (weight bound : ℕ) → unsigned_abs sum ≤ bound → unsigned_abs value ≤ 2 ^ 80 → weight ≤ 7 →
    unsigned_abs (sum +ℤ value *ℤ pos weight) ≤ bound + 2 ^ 83
sum_size sum value weight bound within small few = size_add sum (value *ℤ pos weight) bound (2 ^ 83) within (weighed_size value weight small few)
