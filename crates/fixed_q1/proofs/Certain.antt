-- A quotient that is less than half a divisor off is the nearest one.
use Rattle.std.proofs.Common.{◌≡◌, ℕ, ◌+◌, ◌-◌, ◌^◌, ◌<◌, ◌≤◌, ℤ, pos, negsuc, ◌-ℤ◌, ◌*ℤ◌, ◌<ℤ◌, FitsSigned, arith, lit<}
use Rattle.std.specs.Prelude.{unsigned_abs, nat_le, IsTrue, ◌/◌, ◌%◌}
use Rattle.std.specs.Int.{w64, w128}
use Rattle.std.proofs.lemmas.Int.{ints, fits_signed_from_abs}
use Rattle.std.proofs.lemmas.Bool.Decides.{nat_tests}
use Rattle.fem_fixed.specs.Rounding.{IsNearest, nearest}
use Rattle.fem_fixed.proofs.Sizes.{size_sub, size_mul, size_fits}
use Rattle.fem_fixed.proofs.Unique.{nearest_is_near, nearest_is_one}

-- a test that was passed
pub tested : (a b : ℕ) → IsTrue (nat_le a b) → a ≤ b
tested a b h = grind (arith, nat_tests)

-- at most half a divisor off, and less than that where it is odd
pub certain_near : (n d q : ℤ) → unsigned_abs (n -ℤ q *ℤ d) + unsigned_abs q % 2 ≤ unsigned_abs d / 2 → IsNearest n d q
certain_near n d q h = record { near = omega arith; even = λ tie. omega arith }

-- less than half a divisor off
pub close_near : (n d q : ℤ) → pos 0 <ℤ d → unsigned_abs (n -ℤ q *ℤ d) ≤ (unsigned_abs d - 1) / 2 → IsNearest n d q
close_near n d q positive h =
    let size : 0 < unsigned_abs d = grind (arith, ints) in
    record { near = omega arith; even = λ tie. omega arith }

pub certain_value : (n d q : ℤ) → pos 0 <ℤ d → IsNearest n d q → q ≡ nearest n d
certain_value n d q positive near = nearest_is_one n d (nearest n d) q positive (nearest_is_near n d positive) near

short_size : (q : ℤ) → FitsSigned w64 q → unsigned_abs q ≤ 2 ^ 63
short_size (pos a) h = omega (arith, h.sfits)
short_size (negsuc a) h = omega (arith, h.sfits)

pub wide : (q : ℤ) → FitsSigned w64 q → FitsSigned w128 q
wide q h = size_fits q (2 ^ 63) (short_size q h) (lit< tt)

pub small_fits : (d : ℤ) → unsigned_abs d < 2 ^ 62 → FitsSigned w64 d
small_fits d h = fits_signed_from_abs w64 d (omega arith)

product_size : (q d : ℤ) → FitsSigned w64 q → unsigned_abs d < 2 ^ 62 → unsigned_abs (q *ℤ d) ≤ 2 ^ 125
product_size q d h hd = size_mul q d (2 ^ 63) (2 ^ 62) (short_size q h) (omega arith)

pub product_fits : (q d : ℤ) → FitsSigned w64 q → unsigned_abs d < 2 ^ 62 → FitsSigned w128 (q *ℤ d)
product_fits q d h hd = size_fits _ (2 ^ 125) (product_size q d h hd) (lit< tt)

pub rest_size : (n q d : ℤ) → unsigned_abs n ≤ 2 ^ 122 → FitsSigned w64 q → unsigned_abs d < 2 ^ 62 → unsigned_abs (n -ℤ q *ℤ d) ≤ 2 ^ 122 + 2 ^ 125
rest_size n q d hn h hd = size_sub n (q *ℤ d) (2 ^ 122) (2 ^ 125) hn (product_size q d h hd)

pub rest_fits : (n q d : ℤ) → unsigned_abs n ≤ 2 ^ 122 → FitsSigned w64 q → unsigned_abs d < 2 ^ 62 → FitsSigned w128 (n -ℤ q *ℤ d)
rest_fits n q d hn h hd = size_fits _ (2 ^ 122 + 2 ^ 125) (rest_size n q d hn h hd) (lit< tt)
