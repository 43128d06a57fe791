-- Laws on the kept sum.
use Rattle.std.proofs.Common.{◌≡◌, ◌∙◌, sym, ap, refl, ℕ, zero, suc, ◌+◌, ◌-◌, ◌*◌, ◌^◌, ◌<◌, ◌≤◌, ℤ, pos, ◌<ℤ◌, ◌+ℤ◌, arith, Bool, true, false, inl, inr, lit<, subst, to_z}
use Rattle.std.specs.Prelude.{unsigned_abs, nat_lt, ◌==◌, ◌||◌, Some, None, if◌then◌else◌, slice_index_or, nat_le, ◌%◌}
use Rattle.std.specs.List.{position_or_len, range_with_len}
use Rattle.std.specs.Int.{w64, w128}
use Rattle.std.specs.declared.option.Option.{Option}
use Rattle.std.specs.Int.Count.{count_leading_zeros}
use Rattle.std.proofs.lemmas.Nat.{leading_length, pow_pos, pow-add}
use Rattle.std.proofs.lemmas.List.FromFn.{get_or-range_with_len, length-range_with_len}
use Rattle.std.proofs.lemmas.List.Sums.{position_or_len_is}
use Rattle.std.proofs.lemmas.Int.{ints, unsigned_abs-mul}
use Rattle.std.proofs.lemmas.Bool.{cases_lt, cases_Bool}
use Rattle.std.proofs.Math.Nat.{pow-le-pow_right}
use Rattle.fem_fixed.specs.Rounding.{nearest}
use Rattle.fem_fixed.specs.KeptSum.{HasDigits, binary_digits, kept, nearest_multiple, added}
use Rattle.fem_fixed.proofs.Nearest.{nearest_size}
use Rattle.fem_fixed.proofs.Unique.{nearest_is_near}

two : 0 < 2
two = lit< tt

pub powers_rise : (k m : ℕ) → k ≤ m → 2 ^ k ≤ 2 ^ m
powers_rise k m h = pow-le-pow_right two h

twice_power : (k : ℕ) → 2 ^ (k + 1) ≡ 2 * 2 ^ k
twice_power k = pow-add 2 k 1 ∙ (omega arith)

below : (k m a : ℕ) → k < m → 2 ^ m ≤ 2 * a + 1 → 2 ^ k ≤ a
below k m a h top =
    let up : 2 ^ (k + 1) ≤ 2 ^ m = powers_rise (k + 1) m (omega arith) in
    let twice = twice_power k in
    omega (arith, up, twice)

not_lt : (a b : ℕ) → b ≤ a → nat_lt a b ≡ false
not_lt a b h = grind arith

is_lt : (a b : ℕ) → a < b → nat_lt a b ≡ true
is_lt a b h = grind arith

item : (n k : ℕ) → k < n → slice_index_or (range_with_len 0 n) k 0 ≡ k
item n k h = get_or-range_with_len 0 n k 0 h ∙ (omega arith)

first_power : (n a m : ℕ) → m < n → a < 2 ^ m → 2 ^ m ≤ 2 * a + 1 → position_or_len (λ b. nat_lt a (2 ^ b)) (range_with_len 0 n) ≡ m
first_power n a m h low top =
    position_or_len_is (λ b. nat_lt a (2 ^ b)) (range_with_len 0 n) m 0 (rw length-range_with_len (omega arith))
    (λ k under. ap (λ b. nat_lt a (2 ^ b)) (item n k (omega arith)) ∙ not_lt a (2 ^ k) (below k m a under top))
    (λ inside. ap (λ b. nat_lt a (2 ^ b)) (item n m h) ∙ is_lt a (2 ^ m) low)

-- a number is below its power of two
power_above : (a : ℕ) → a < 2 ^ a
power_above zero = lit< tt
power_above (suc a) = let more = power_above a in let twice = twice_power a in omega (arith, more, twice)

-- the least power of two above a number has at most that number as its exponent
short_exponent : (a m : ℕ) → 2 ^ m ≤ 2 * a + 1 → m < suc a
short_exponent a m top = elim (cases_lt a m) [
  | inl h ↦ (let up : 2 ^ (a + 1) ≤ 2 ^ m = powers_rise (a + 1) m (omega arith) in
      let twice = twice_power a in
      absurd (omega (arith, up, twice, top, power_above a)))
  | inr h ↦ omega arith
]

digits_are : (a m : ℕ) → a < 2 ^ m → 2 ^ m ≤ 2 * a + 1 → binary_digits a ≡ m
unfolding binary_digits
digits_are a m low top = first_power (suc a) a m (short_exponent a m top) low top

least_power : (a m : ℕ) → 2 ^ m ≤ 2 * a + 1 → (k : ℕ) → a < 2 ^ k → m ≤ k
least_power a m top k h = elim (cases_lt k m) [
  | inl under ↦ (let low : 2 ^ k ≤ a = below k m a under top in absurd (omega (arith, low, h)))
  | inr over ↦ over
]

-- the function has the property
pub digits_counted : (a : ℕ) → HasDigits a (binary_digits a)
digits_counted a =
    let (m, sum, low, top) = leading_length a a (power_above a) in
    subst (λ b. HasDigits a b) (sym (digits_are a m low top)) (record { enough = low; least = least_power a m top })

-- and no other number has it
pub one_count : (a b c : ℕ) → HasDigits a b → HasDigits a c → c ≡ b
one_count a b c h k =
    let up : b ≤ c = h.least c k.enough in
    let down : c ≤ b = k.least b h.enough in
    omega (arith, up, down)

-- the length of a number of at most 80 digits, and of 2 ^ 80
pub record IsLength (a m : ℕ) : Type 0 where
  pub low : a < 2 ^ m
  pub top : 2 ^ m ≤ 2 * a + 1
  pub short : m ≤ 81
  pub is : binary_digits a ≡ m

short_length : (a m : ℕ) → a ≤ 2 ^ 80 → 2 ^ m ≤ 2 * a + 1 → m ≤ 81
short_length a m small top = elim (cases_lt 81 m) [
  | inl h ↦ (let up : 2 ^ 82 ≤ 2 ^ m = powers_rise 82 m h in absurd (omega (arith, up, top, small)))
  | inr h ↦ h
]

pub is_length : (a z : ℕ) → a ≤ 2 ^ 80 → z ≡ count_leading_zeros 128 a → IsLength a (128 - z)
is_length a z small zeros =
    let (m, sum, low, top) = leading_length 128 a (omega (arith, small)) in
    let same : m ≡ 128 - z = omega (arith, sum, zeros) in
    let short : m ≤ 81 = short_length a m small top in
    subst (λ n. IsLength a n) same (record { low = low; top = top; short = short; is = digits_are a m low top })

digits_zero : (sum : ℤ) → sum ≡ kept 0 sum
digits_zero sum = refl

-- few digits
pub kept_short : (digits m : ℕ) (sum : ℤ) → IsLength (unsigned_abs sum) m → m ≤ digits → sum ≡ kept digits sum
kept_short digits m sum len h =
    let up : 2 ^ m ≤ 2 ^ digits = powers_rise m digits h in
    let less : nat_lt (unsigned_abs sum) (2 ^ digits) ≡ true = is_lt (unsigned_abs sum) (2 ^ digits) (omega (arith, up, len.low)) in
    sym (ap (λ b. if digits == 0 || b then sum else nearest_multiple (pos (2 ^ (binary_digits (unsigned_abs sum) - digits))) sum) less ∙ chosen (digits == 0))
  where
    chosen : (b : Bool) → (if b || true then sum else nearest_multiple (pos (2 ^ (binary_digits (unsigned_abs sum) - digits))) sum) ≡ sum
    chosen true = refl
    chosen false = refl

pub kept_long : (digits m : ℕ) (sum : ℤ) → IsLength (unsigned_abs sum) m → 0 < digits → digits < m → nearest_multiple (pos (2 ^ (m - digits))) sum ≡ kept digits sum
kept_long digits m sum len some h =
    let less : nat_lt (unsigned_abs sum) (2 ^ digits) ≡ false = not_lt (unsigned_abs sum) (2 ^ digits) (below digits m (unsigned_abs sum) h len.top) in
    let whole : (digits == 0) ≡ false = grind arith in
    ap (λ b. nearest_multiple (pos (2 ^ (b - digits))) sum) (sym len.is)
    ∙ sym (ap (λ b. if digits == 0 || b then sum else nearest_multiple (pos (2 ^ (binary_digits (unsigned_abs sum) - digits))) sum) less
    ∙ ap (λ b. if b || false then sum else nearest_multiple (pos (2 ^ (binary_digits (unsigned_abs sum) - digits))) sum) whole)

power_split : (p : ℕ) → p ≤ 80 → 2 ^ (80 - p) * 2 ^ p ≡ 2 ^ 80
power_split p h = sym (pow-add 2 (80 - p) p) ∙ ap (λ n. 2 ^ n) (whole p h)
  where
    whole : (p : ℕ) → p ≤ 80 → 80 - p + p ≡ 80
    whole p h = omega arith

-- a multiple is at most 2 ^ 80 too
pub multiple_small : (p : ℕ) (sum : ℤ) → p ≤ 80 → unsigned_abs sum ≤ 2 ^ 80 → unsigned_abs (nearest_multiple (pos (2 ^ p)) sum) ≤ 2 ^ 80
multiple_small p sum h small =
    let some : 0 < 2 ^ p = pow_pos p in
    let positive : pos 0 <ℤ pos (2 ^ p) = grind (arith, ints) in
    let split = power_split p h in
    let size : unsigned_abs (nearest sum (pos (2 ^ p))) ≤ 2 ^ (80 - p) =
    nearest_size sum (pos (2 ^ p)) (nearest sum (pos (2 ^ p))) (2 ^ (80 - p)) positive (nearest_is_near sum (pos (2 ^ p)) positive) (omega (arith, split, small)) in
    let grown : 2 ^ p * unsigned_abs (nearest sum (pos (2 ^ p))) ≤ 2 ^ p * 2 ^ (80 - p) = times (2 ^ p) _ _ size in
    rw unsigned_abs-mul (omega (arith, split, grown))
  where
    times : (c a b : ℕ) → a ≤ b → c * a ≤ c * b
    times c a b h = grind arith

small_power : (p : ℕ) → p ≤ 80 → 2 ^ p ≤ 2 ^ 80
small_power p h = powers_rise p 80 h

-- the unit as the code shifts it
pub unit_is : (p : ℕ) → p ≤ 80 → to_z w128 (1 * 2 ^ p % 340282366920938463463374607431768211456) ≡ pos (2 ^ p)
unit_is p h =
    let small : 2 ^ p ≤ 2 ^ 80 = small_power p h in
    omega (arith, ints, small)

-- and in 64 bits
pub short_unit_is : (p : ℕ) → p < 62 → to_z w64 (1 * 2 ^ p % 18446744073709551616) ≡ pos (2 ^ p)
short_unit_is p h =
    let small : 2 ^ p ≤ 2 ^ 61 = powers_rise p 61 (omega arith) in
    omega (arith, ints, small)

pub short_unit_size : (p : ℕ) → p < 62 → unsigned_abs (pos (2 ^ p)) < 2 ^ 62
short_unit_size p h =
    let small : 2 ^ p ≤ 2 ^ 61 = powers_rise p 61 (omega arith) in
    omega (arith, small)

pub unit_positive : (p : ℕ) → pos 0 <ℤ pos (2 ^ p)
unit_positive p = let some : 0 < 2 ^ p = pow_pos p in grind (arith, ints)

-- a kept number is at most 2 ^ 80 too
pub kept_small : (digits : ℕ) (sum : ℤ) → unsigned_abs sum ≤ 2 ^ 80 → unsigned_abs (kept digits sum) ≤ 2 ^ 80
kept_small digits sum small =
    let m : ℕ = 128 - count_leading_zeros 128 (unsigned_abs sum) in
    let len : IsLength (unsigned_abs sum) m = is_length (unsigned_abs sum) (count_leading_zeros 128 (unsigned_abs sum)) small refl in
    elim (cases_lt digits m) [
      | inl few ↦ elim (cases_lt 0 digits) [
        | inl some ↦ subst (λ z. unsigned_abs z ≤ 2 ^ 80) (kept_long digits m sum len some few) (multiple_small (m - digits) sum (omega (arith, len.short)) small)
        | inr none ↦ (let zero_digits : 0 ≡ digits = omega arith in subst (λ n. unsigned_abs (kept n sum) ≤ 2 ^ 80) zero_digits small)
      ]
      | inr many ↦ subst (λ z. unsigned_abs z ≤ 2 ^ 80) (kept_short digits m sum len many) small
    ]

-- an entry is within the limit after each addition
pub added_small : (digits : ℕ) (entry term : ℤ) (sum : ℤ) → added digits entry term ≡ Some sum → unsigned_abs sum ≤ 2 ^ 80
added_small digits entry term sum h = elim (cases_Bool (nat_le (unsigned_abs (entry +ℤ term)) (2 ^ 80))) [
  | inl within ↦ (let same : kept digits (entry +ℤ term) ≡ sum = one (sym (ap (λ b. if b then Some (kept digits (entry +ℤ term)) else None) within) ∙ h) in
      subst (λ s. unsigned_abs s ≤ 2 ^ 80) same (kept_small digits (entry +ℤ term) (le_of (unsigned_abs (entry +ℤ term)) (2 ^ 80) within)))
  | inr over ↦ absurd (none (sym (ap (λ b. if b then Some (kept digits (entry +ℤ term)) else None) over) ∙ h))
]
  where
    one : {a b : ℤ} → Some a ≡ Some b → a ≡ b
    one e = cc

    none : ◌≡◌ {A = Option ℤ} None (Some sum) → ⊥
    none e = cc

    le_of : (a b : ℕ) → nat_le a b ≡ true → a ≤ b
    le_of a b e = grind arith
