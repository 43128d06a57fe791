-- Single bits of a word.
use Rattle.std.proofs.Common.{◌≡◌, ◌≢◌, ℕ, ◌*◌, ◌%◌, ◌^◌, ◌<◌, sym, ap, ◌∙◌, arith, min}
use Rattle.std.proofs.Math.Nat.{mod-eq_of_lt}
use Rattle.std.proofs.lemmas.Nat.{pow_below}
use Rattle.std.proofs.lemmas.Nat.Bits.{and_pow, bit_at-lt, bit_at-zero, bit_at_and, bit_at_set_same, bit_at_set_other, bit_at_clear_same, bit_at_clear_other}
use Rattle.std.specs.Int.{bit_at}
use Rattle.std.specs.Int.RustNames.{bit_or}
use lib.Bits.{bit_and}
use mir.Syntax.{w64}
use native.Mathlib.Decide.{ℕ_discrete}
use mathlib.Core.Logic.{dite}
use Rattle.scratch_pool.specs.Machine.{BitBecomes}
use Rattle.scratch_pool.specs.Plays.{bit, mask}

bit_pow : (k : ℕ) → k < 64 → bit k ≡ 2 ^ k
bit_pow k lt = let p : 2 ^ k < 2 ^ 64 = pow_below k 64 lt in let one : 1 * 2 ^ k ≡ 2 ^ k = omega arith in ap (λ (x : ℕ). x % 2 ^ 64) one ∙ mod-eq_of_lt p

pub bit_is_clear : (r k : ℕ) → k < 64 → bit_and r (bit k) ≡ 0 → bit_at r k ≡ 0
bit_is_clear r k lt e =
    let one : bit_at (bit k) k ≡ 1 = bit_at_set_same w64 0 k lt in
    let both : bit_at (bit_and r (bit k)) k ≡ min (bit_at r k) (bit_at (bit k) k) = bit_at_and r (bit k) k in
    low _ _ (sym both ∙ (ap (λ (x : ℕ). bit_at x k) e ∙ bit_at-zero k)) one
  where
    low : (a b : ℕ) → min a b ≡ 0 → b ≡ 1 → a ≡ 0
    low a b p q = omega arith

pub bit_is_set : (r k : ℕ) → k < 64 → bit_and r (bit k) ≢ 0 → bit_at r k ≡ 1
bit_is_set r k lt ne = dite (ℕ_discrete (bit_at r k) 1) (λ e. e) (λ other.
    let zero-bit : bit_at r k ≡ 0 = only _ (bit_at-lt r k) other in
    let e : bit_and r (bit k) ≡ 0 = ap (bit_and r) (bit_pow k lt) ∙ (and_pow r k ∙ ap (λ (x : ℕ). x * 2 ^ k) zero-bit ∙ nothing (2 ^ k)) in absurd (ne e))
  where
    only : (n : ℕ) → n < 2 → n ≢ 1 → n ≡ 0
    only n h q = omega arith

    nothing : (n : ℕ) → 0 * n ≡ 0
    nothing n = omega arith

-- a fetch_and with the mask clears the bit alone
pub cleared : (n k : ℕ) → k < 64 → BitBecomes k 0 n (bit_and n (mask k))
cleared n k lt = (bit_at_clear_same w64 n k lt, λ j short ne. bit_at_clear_other w64 n k lt j short ne)

-- a fetch_or with the bit sets it alone
pub is_set : (n k : ℕ) → k < 64 → BitBecomes k 1 n (bit_or n (bit k))
is_set n k lt = (bit_at_set_same w64 n k lt, λ j _ ne. bit_at_set_other w64 n k lt j ne)
