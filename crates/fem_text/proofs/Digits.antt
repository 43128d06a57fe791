-- How many digits a number has.
use Rattle.std.proofs.Common.{◌≡◌, ◌∙◌, sym, ℕ, suc, ◌+◌, ◌*◌, ◌/◌, ◌%◌, ◌^◌, ◌<◌, ◌≤◌, List, [], ◌∷◌, ◌++◌, length, arith, length-append, decimal, ap, inl, inr}
use Rattle.std.proofs.Math.Nat.{pow-suc, pow-le-pow_right}
use Rattle.std.proofs.lemmas.Bool.{cases_lt}
use Rattle.std.proofs.lemmas.Fmt.{decimal_digit, decimal_by_steps_wide, length-decimal-le_wide}

next_power : (k : ℕ) → 10 ^ (k + 1) ≡ 10 ^ k * 10
next_power k =
    let next : k + 1 ≡ suc k = omega arith in
    ap (λ n. 10 ^ n) next ∙ pow-suc 10 k

one_digit : (n : ℕ) → n < 10 → n < 10 ^ length ((48 + n) ∷ [])
one_digit n h = h

more_digits : (n : ℕ) (front : List ℕ) → 10 ≤ n → n / 10 < 10 ^ length front → n < 10 ^ length (front ++ (48 + n % 10) ∷ [])
more_digits n front h before = rw length-append (omega (arith, next_power (length front)))

-- a number is below the power of ten with as many zeros as it has digits
below_power : (n : ℕ) → n < 10 ^ 64 → n < 10 ^ length (decimal n)
below_power = decimal_by_steps_wide (λ n digits. n < 10 ^ length digits) one_digit more_digits

pub digit_count : (n power : ℕ) → n < 10 ^ 64 → 10 ^ power ≤ n → n < 10 * 10 ^ power → power + 1 ≡ length (decimal n)
digit_count n power small least most =
    let few : length (decimal n) ≤ power + 1 = length-decimal-le_wide (power + 1) n (omega arith) (omega (arith, next_power power)) small in
    elim (cases_lt power (length (decimal n))) [
      | inl many ↦ omega arith
      | inr less ↦ (let below = below_power n small in
          let between = pow-le-pow_right {n = 10} (omega arith) less in
          absurd (omega arith))
    ]

pub zero_digits : (n : ℕ) → n ≡ 0 → 1 ≡ length (decimal n)
zero_digits n h = ap length (sym (decimal_digit 0 (omega arith))) ∙ ap (λ m. length (decimal m)) (sym h)

-- a number of fewer than 38 digits leaves room for one digit more
pub room_for_digit : (value digits : ℕ) → value < 10 ^ digits → digits < 38 → value < 10 ^ 37
room_for_digit value digits h few = let grows = pow-le-pow_right {n = 10} (omega arith) {i = digits} {j = 37} (omega arith) in omega arith
