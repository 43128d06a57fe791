-- A written coordinate is read as it was.
use Rattle.std.proofs.Common.{◌≡◌, ◌∙◌, ap, refl, ℕ, ◌+◌, ◌-◌, ◌*◌, ◌/◌, ◌%◌, ◌^◌, ◌<◌, ◌≤◌, List, [], ◌∷◌, ◌++◌, length, fold, true, false, Bool, arith, length-append, decimal}
use Rattle.std.specs.Prelude.{Ok, Some, ◌==◌, ◌||◌, nat_lt, nat_le, ℤ, pos, negsuc, ◌-ℤ◌, ◌*ℤ◌, ◌<ℤ◌, int_lt, unsigned_abs}
use Rattle.std.specs.Char.{is_ascii_digit}
use Rattle.std.specs.List.{list_all, list_any, before_first, after_first}
use Rattle.std.proofs.lemmas.Bool.Decides.{nat_tests}
use Rattle.std.proofs.lemmas.Int.{ints}
use Rattle.std.proofs.lemmas.List.Folds.{list_all-append}
use Rattle.std.proofs.lemmas.List.Sums.{fold-append}
use Rattle.fem_fixed.specs.Numbers.{digits_value}
use Rattle.fem_fixed.specs.Rounding.{IsNearest, nearest}
use Rattle.fem_fixed.specs.Ticks.{NumberParts, parts_of, is_number, is_digits, is_point, is_exponent_mark, has_minus, without_sign, power_of_ten, ticks, size_of, with_sign, number_of}
use Rattle.fem_fixed.proofs.Splits.{before_none, after_none, before_at, after_at}
use Rattle.fem_fixed.proofs.Unique.{nearest_is_near, nearest_is_one}
use Rattle.fem_text.proofs.WrittenWords.{is_plain, IsWord, and_left, and_right}
use Rattle.fem_text.proofs.Decimals.{decimal_digits}
use Rattle.ucd_write.specs.Coordinates.{last_digits, minus, size_word, coordinate}
use Rattle.ucd_write.proofs.Sixteen.{last_are_digits, last_length, last_value}

abbrev mantissa_text : List ℕ → List ℕ → List ℕ
mantissa_text whole fraction = whole ++ 46 ∷ fraction

no_sign : (byte : ℕ) → is_ascii_digit byte ≡ true → (byte == 43 || byte == 45) ≡ false
no_sign byte h = grind (arith, nat_tests)

no_minus : (byte : ℕ) → is_ascii_digit byte ≡ true → (byte == 45) ≡ false
no_minus byte h = grind (arith, nat_tests)

no_mark : (byte : ℕ) → is_ascii_digit byte ≡ true → is_exponent_mark byte ≡ false
no_mark byte h = grind (arith, nat_tests)

no_point : (byte : ℕ) → is_ascii_digit byte ≡ true → is_point byte ≡ false
no_point byte h = grind (arith, nat_tests)

sign_gone : (negative : Bool) (whole rest : List ℕ) → list_all is_ascii_digit whole ≡ true → 0 < length whole → without_sign (minus negative ++ (whole ++ rest)) ≡ whole ++ rest
sign_gone true whole rest h some = refl
sign_gone false [] rest h some = absurd (omega arith)
sign_gone false (byte ∷ whole) rest h some = rw (no_sign byte (and_left _ _ h)) refl

sign_kept : (negative : Bool) (whole rest : List ℕ) → list_all is_ascii_digit whole ≡ true → 0 < length whole → has_minus (minus negative ++ (whole ++ rest)) ≡ negative
sign_kept true whole rest h some = refl
sign_kept false [] rest h some = absurd (omega arith)
sign_kept false (byte ∷ whole) rest h some = no_minus byte (and_left _ _ h)

none_of_digits : (test : ℕ → Bool) → ((byte : ℕ) → is_ascii_digit byte ≡ true → test byte ≡ false) → (word : List ℕ) → list_all is_ascii_digit word ≡ true → list_any test word ≡ false
none_of_digits test none [] h = refl
none_of_digits test none (byte ∷ word) h = rw (none byte (and_left _ _ h)) (none_of_digits test none word (and_right _ _ h))

marks_none : (whole fraction : List ℕ) → list_all is_ascii_digit whole ≡ true → list_all is_ascii_digit fraction ≡ true → list_any is_exponent_mark (mantissa_text whole fraction) ≡ false
marks_none [] fraction h i = none_of_digits is_exponent_mark no_mark fraction i
marks_none (byte ∷ whole) fraction h i = rw (no_mark byte (and_left _ _ h)) (marks_none whole fraction (and_right _ _ h) i)

abbrev parts : Bool → List ℕ → List ℕ → NumberParts
parts negative whole fraction = record { is_negative = negative; whole = whole; fraction = fraction; has_exponent = false; lowers = false; exponent = [] }

parts_are : (negative : Bool) (whole fraction : List ℕ) → list_all is_ascii_digit whole ≡ true → 0 < length whole → list_all is_ascii_digit fraction ≡ true →
    parts_of (minus negative ++ mantissa_text whole fraction) ≡ parts negative whole fraction
unfolding parts_of
parts_are negative whole fraction h some i =
    let word : List ℕ = minus negative ++ mantissa_text whole fraction in
    let text : List ℕ = mantissa_text whole fraction in
    let bare : without_sign word ≡ text = sign_gone negative whole (46 ∷ fraction) h some in
    let sign : has_minus word ≡ negative = sign_kept negative whole (46 ∷ fraction) h some in
    let none : list_any is_exponent_mark text ≡ false = marks_none whole fraction h i in
    let front : before_first is_exponent_mark text ≡ text = before_none is_exponent_mark text none in
    let rest : after_first is_exponent_mark text ≡ [] = after_none is_exponent_mark text none in
    let point : list_any is_point whole ≡ false = none_of_digits is_point no_point whole h in
    let before : before_first is_point text ≡ whole = before_at is_point whole 46 fraction point refl in
    let after : after_first is_point text ≡ fraction = after_at is_point whole 46 fraction point refl in
    (λ j. record {
      is_negative = sign j;
      whole = before_first is_point (before_first is_exponent_mark (bare j));
      fraction = after_first is_point (before_first is_exponent_mark (bare j));
      has_exponent = list_any is_exponent_mark (bare j);
      lowers = has_minus (after_first is_exponent_mark (bare j));
      exponent = without_sign (after_first is_exponent_mark (bare j));
    })
    ∙ (λ j. record {
      is_negative = negative;
      whole = before_first is_point (front j);
      fraction = after_first is_point (front j);
      has_exponent = none j;
      lowers = has_minus (rest j);
      exponent = without_sign (rest j);
    })
    ∙ (λ j. record { is_negative = negative; whole = before j; fraction = after j; has_exponent = false; lowers = false; exponent = [] })

all_digits : (whole fraction : List ℕ) → list_all is_ascii_digit whole ≡ true → 0 < length whole → list_all is_ascii_digit fraction ≡ true → is_digits (whole ++ fraction) ≡ true
all_digits whole fraction h some i =
    let long : nat_lt 0 (length (whole ++ fraction)) ≡ true = test_true (length whole) (length fraction) (length (whole ++ fraction)) some (length-append whole fraction) in
    rw (long, list_all-append is_ascii_digit whole fraction, h, i) refl
  where
    test_true : (m n k : ℕ) → 0 < m → k ≡ m + n → nat_lt 0 k ≡ true
    test_true m n k some sum = grind (arith, nat_tests)

-- the nearest whole number to a multiple is its factor
no_rest : (z : ℤ) → z -ℤ z ≡ pos 0
no_rest z = omega (arith, ints)

multiple : (size n : ℕ) → n ≡ size * 10000000000000000 → nearest (pos n) (pos 10000000000000000) ≡ pos size
multiple size n h =
    let some : pos 0 <ℤ pos 10000000000000000 = grind (arith, ints) in
    let none : pos n -ℤ pos size *ℤ pos 10000000000000000 ≡ pos 0 = ap (λ k. pos k -ℤ pos size *ℤ pos 10000000000000000) h ∙ no_rest (pos size *ℤ pos 10000000000000000) in
    let zero_size : unsigned_abs (pos n -ℤ pos size *ℤ pos 10000000000000000) ≡ 0 = ap unsigned_abs none in
    let is : IsNearest (pos n) (pos 10000000000000000) (pos size) = record { near = omega (arith, zero_size); even = λ tie. absurd (omega (arith, zero_size)) } in
    nearest_is_one (pos n) (pos 10000000000000000) (pos size) (nearest (pos n) (pos 10000000000000000)) some is (nearest_is_near (pos n) (pos 10000000000000000) some)

ticks_of : (size m : ℕ) → m ≡ size * 152587890625 → ticks m (negsuc 15) ≡ size
unfolding ticks
ticks_of size m h = (let product : m * 65536 ≡ size * 10000000000000000 = omega (arith, h) in ap unsigned_abs (multiple size (m * 65536) product))

within_true : (m n : ℕ) → m ≤ n → nat_le m n ≡ true
within_true m n h = grind (arith, nat_tests)

below_true : (m n : ℕ) → m < n → nat_lt m n ≡ true
below_true m n h = grind (arith, nat_tests)

size_is : (negative : Bool) (size : ℕ) (whole fraction : List ℕ) → size ≤ 2 ^ 26 → length fraction ≡ 16 → digits_value (whole ++ fraction) ≡ size * 152587890625 →
    size_of (parts negative whole fraction) ≡ Some size
unfolding size_of
size_is negative size whole fraction small sixteen value =
    let few : nat_lt (digits_value (whole ++ fraction)) (10 ^ 25) ≡ true = below_true (digits_value (whole ++ fraction)) (10 ^ 25) (omega (arith, value)) in
    let power : power_of_ten (parts negative whole fraction) ≡ negsuc 15 = ap (λ n. pos 0 -ℤ pos n) sixteen in
    let all : ticks (digits_value (whole ++ fraction)) (power_of_ten (parts negative whole fraction)) ≡ size =
    ap (ticks (digits_value (whole ++ fraction))) power ∙ ticks_of size (digits_value (whole ++ fraction)) value in
    let within : nat_le size (2 ^ 47) ≡ true = within_true size (2 ^ 47) (omega arith) in
    rw (few, all, within) refl

signed_back : (z : ℤ) → with_sign (int_lt z (pos 0)) (unsigned_abs z) ≡ z
signed_back (pos n) = ap (λ negative. with_sign negative n) (not_below n)
  where
    not_below : (n : ℕ) → int_lt (pos n) (pos 0) ≡ false
    not_below n = first_of (grind (arith, ints), first_of (grind (arith, nat_tests), grind arith))
signed_back (negsuc n) = refl

record IsSplit (size : ℕ) (whole fraction : List ℕ) : Type 0 where
  digits : list_all is_ascii_digit whole ≡ true
  some : 0 < length whole
  rest : list_all is_ascii_digit fraction ≡ true
  sixteen : length fraction ≡ 16
  value : digits_value (whole ++ fraction) ≡ size * 152587890625

split : (size : ℕ) → size ≤ 2 ^ 26 → IsSplit size (decimal (size / 65536)) (last_digits 16 (size % 65536 * 152587890625))
split size small =
    let are = decimal_digits (size / 65536) (omega arith) in
    let rest : ℕ = size % 65536 * 152587890625 in
    let below : rest < 10 ^ 16 = omega arith in
    let back = last_value 16 (size / 65536) rest below in
    let joined : digits_value (decimal (size / 65536) ++ last_digits 16 rest) ≡ fold (λ value byte. value * 10 + (byte - 48)) (digits_value (decimal (size / 65536))) (last_digits 16 rest) =
    fold-append (λ value byte. value * 10 + (byte - 48)) 0 (decimal (size / 65536)) (last_digits 16 rest) in
    let front : digits_value (decimal (size / 65536) ++ last_digits 16 rest) ≡ size / 65536 * 10 ^ 16 + rest =
    joined ∙ ap (λ v. fold (λ value byte. value * 10 + (byte - 48)) v (last_digits 16 rest)) are.value ∙ back in
    record {
      digits = are.digits;
      some = are.some;
      rest = last_are_digits 16 rest;
      sixteen = last_length 16 rest;
      value = omega (arith, front);
    }

number_given : (negative : Bool) (size : ℕ) (whole fraction : List ℕ) → size ≤ 2 ^ 26 → IsSplit size whole fraction →
    number_of (minus negative ++ mantissa_text whole fraction) ≡ Ok (with_sign negative size)
unfolding is_number
number_given negative size whole fraction small s =
    rw (parts_are negative whole fraction s.digits s.some s.rest, all_digits whole fraction s.digits s.some s.rest, size_is negative size whole fraction small s.sixteen s.value) refl

-- a written coordinate is read as it was
pub coordinate_back : (ticks : ℤ) → unsigned_abs ticks ≤ 2 ^ 26 → number_of (coordinate ticks) ≡ Ok ticks
unfolding size_word coordinate
coordinate_back ticks small =
    let size : ℕ = unsigned_abs ticks in
    number_given (int_lt ticks (pos 0)) size (decimal (size / 65536)) (last_digits 16 (size % 65536 * 152587890625)) small (split size small) ∙ ap Ok (signed_back ticks)

digit_is_plain : (byte : ℕ) → is_ascii_digit byte ≡ true → is_plain byte ≡ true
digit_is_plain byte h = grind (arith, nat_tests)

digits_are_plain : (word : List ℕ) → list_all is_ascii_digit word ≡ true → list_all is_plain word ≡ true
digits_are_plain [] h = refl
digits_are_plain (byte ∷ word) h = rw (digit_is_plain byte (and_left _ _ h)) (digits_are_plain word (and_right _ _ h))

minus_plain : (negative : Bool) (rest : List ℕ) → list_all is_plain rest ≡ true → list_all is_plain (minus negative ++ rest) ≡ true
minus_plain true rest h = h
minus_plain false rest h = h

mantissa_plain : (whole fraction : List ℕ) → list_all is_ascii_digit whole ≡ true → list_all is_ascii_digit fraction ≡ true → list_all is_plain (mantissa_text whole fraction) ≡ true
mantissa_plain whole fraction h i =
    list_all-append is_plain whole (46 ∷ fraction) ∙ rw (digits_are_plain whole h) (digits_are_plain fraction i)

longer : (negative : Bool) (whole rest : List ℕ) → 0 < length whole → 0 < length (minus negative ++ (whole ++ rest))
longer true whole rest h = omega arith
longer false whole rest h = (let all = length-append whole rest in omega (arith, all))

-- a written coordinate is a word
pub coordinate_word : (ticks : ℤ) → unsigned_abs ticks ≤ 2 ^ 26 → IsWord (coordinate ticks)
unfolding size_word coordinate
coordinate_word ticks small =
    let size : ℕ = unsigned_abs ticks in
    let s = split size small in
    record {
      plain = minus_plain (int_lt ticks (pos 0)) _ (mantissa_plain (decimal (size / 65536)) (last_digits 16 (size % 65536 * 152587890625)) s.digits s.rest);
      some = longer (int_lt ticks (pos 0)) (decimal (size / 65536)) (46 ∷ last_digits 16 (size % 65536 * 152587890625)) s.some;
    }
