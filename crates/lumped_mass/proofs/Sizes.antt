-- Edges and shares fit their types.
use Rattle.std.proofs.Common.{◌≡◌, ℕ, ◌+◌, ◌*◌, ◌^◌, ◌≤◌, ◌<◌, ℤ, ◌-ℤ◌, ◌*ℤ◌, FitsSigned, w64, arith, lit<}
use Rattle.std.specs.Prelude.{unsigned_abs}
use Rattle.std.proofs.lemmas.Int.{ints, unsigned_abs-mul, fits_signed_from_abs}

pub fits : (a : ℤ) (m : ℕ) → unsigned_abs a ≤ m → m < 2 ^ 63 → FitsSigned w64 a
fits a m ha hm = fits_signed_from_abs w64 a (omega arith)

size_sub : (a b : ℤ) (m n : ℕ) → unsigned_abs a ≤ m → unsigned_abs b ≤ n → unsigned_abs (a -ℤ b) ≤ m + n
size_sub a b m n ha hb = grind (arith, ints)

grown : (a b m n : ℕ) → a ≤ m → b ≤ n → a * b ≤ m * n
grown a b m n ha hb =
    let left : a * b ≤ m * b = grind arith in
    let right : m * b ≤ m * n = grind arith in
    omega (arith, left, right)

size_mul : (a b : ℤ) (m n : ℕ) → unsigned_abs a ≤ m → unsigned_abs b ≤ n → unsigned_abs (a *ℤ b) ≤ m * n
size_mul a b m n ha hb = rw unsigned_abs-mul (grown (unsigned_abs a) (unsigned_abs b) m n ha hb)

pub point_fits : (a : ℤ) → unsigned_abs a ≤ 2 ^ 26 → FitsSigned w64 a
point_fits a h = fits a (2 ^ 26) h (lit< tt)

pub edge_size : (from to : ℤ) → unsigned_abs from ≤ 2 ^ 26 → unsigned_abs to ≤ 2 ^ 26 → unsigned_abs (to -ℤ from) ≤ 2 ^ 27
edge_size from to hf ht = size_sub to from (2 ^ 26) (2 ^ 26) ht hf

pub edge_fits : (from to : ℤ) → unsigned_abs from ≤ 2 ^ 26 → unsigned_abs to ≤ 2 ^ 26 → FitsSigned w64 (to -ℤ from)
edge_fits from to hf ht = fits (to -ℤ from) (2 ^ 27) (edge_size from to hf ht) (lit< tt)

pub product_size : (a b : ℤ) → unsigned_abs a ≤ 2 ^ 27 → unsigned_abs b ≤ 2 ^ 27 → unsigned_abs (a *ℤ b) ≤ 2 ^ 54
product_size a b ha hb = size_mul a b (2 ^ 27) (2 ^ 27) ha hb

pub product_fits : (a b : ℤ) → unsigned_abs a ≤ 2 ^ 27 → unsigned_abs b ≤ 2 ^ 27 → FitsSigned w64 (a *ℤ b)
product_fits a b ha hb = fits (a *ℤ b) (2 ^ 54) (product_size a b ha hb) (lit< tt)

pub share_size : (a b : ℤ) → unsigned_abs a ≤ 2 ^ 54 → unsigned_abs b ≤ 2 ^ 54 → unsigned_abs (a -ℤ b) ≤ 2 ^ 55
share_size a b ha hb = size_sub a b (2 ^ 54) (2 ^ 54) ha hb

pub share_fits : (a b : ℤ) → unsigned_abs a ≤ 2 ^ 54 → unsigned_abs b ≤ 2 ^ 54 → FitsSigned w64 (a -ℤ b)
share_fits a b ha hb = fits (a -ℤ b) (2 ^ 55) (share_size a b ha hb) (lit< tt)
