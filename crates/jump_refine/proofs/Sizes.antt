-- Sizes of jumps and of their squares.
use Rattle.std.proofs.Common.{ℕ, ◌*◌, ◌^◌, ◌≤◌, ℤ, pos, ◌<ℤ◌, arith}
use Rattle.std.specs.Prelude.{unsigned_abs}
use Rattle.std.proofs.lemmas.Int.{ints}
use Rattle.fem_fixed.specs.Rounding.{IsNearest}
use Rattle.fem_fixed.proofs.Nearest.{nearest_size}

grown : (a b m n : ℕ) → a ≤ m → b ≤ n → a * b ≤ m * n
grown a b m n ha hb =
    let left : a * b ≤ m * b = grind arith in
    let right : m * b ≤ m * n = grind arith in
    omega (arith, left, right)

-- a jump is at most 2 ^ 58 in size, and its square at most 2 ^ 116
pub jump_size : (n q : ℤ) → IsNearest n (pos 65536) q → unsigned_abs n ≤ 2 ^ 74 → unsigned_abs q ≤ 2 ^ 58
jump_size n q near small = let positive : pos 0 <ℤ pos 65536 = omega (arith, ints) in nearest_size n (pos 65536) q (2 ^ 58) positive near small

pub square_size : (n : ℕ) → n ≤ 2 ^ 58 → n * n ≤ 2 ^ 116
square_size n h = grown n n (2 ^ 58) (2 ^ 58) h h
