-- Written numbers, and what is read of them.
use Rattle.std.proofs.Common.{◌≡◌, ◌∙◌, refl, ℕ, suc, ◌+◌, ◌-◌, ◌*◌, ◌/◌, ◌%◌, ◌^◌, ◌<◌, ◌≤◌, List, [], ◌∷◌, ◌++◌, length, true, false, nat_lt, arith, length-append, decimal}
use Rattle.std.specs.Prelude.{Some, ◌==◌, ℤ, pos, negsuc, nat_le}
use Rattle.std.specs.Char.{is_ascii_digit}
use Rattle.std.specs.Fmt.{signed_decimal}
use Rattle.std.specs.Int.{w128}
use Rattle.std.specs.Int.RustNames.{FitsSigned}
use Rattle.std.specs.List.{list_all}
use Rattle.std.proofs.lemmas.Bool.Decides.{nat_tests}
use Rattle.std.proofs.lemmas.Fmt.{decimal_by_steps_wide, length-decimal-le_wide}
use Rattle.std.proofs.lemmas.List.Folds.{list_all-append}
use Rattle.std.proofs.lemmas.List.Sums.{fold-append}
use Rattle.fem_fixed.specs.Numbers.{digits_value, id_of}
use Rattle.fem_text.specs.WordLines.{starts_with}
use Rattle.fem_text.proofs.WrittenWords.{is_plain, IsWord, and_left, and_right}

-- digits of this value
pub record AreDigits (n : ℕ) (word : List ℕ) : Type 0 where
  pub digits : list_all is_ascii_digit word ≡ true
  pub value : digits_value word ≡ n
  pub some : 0 < length word

digit_byte : (n : ℕ) → n < 10 → is_ascii_digit (48 + n) ≡ true
digit_byte n h = grind (arith, nat_tests)

one_digit : (n : ℕ) → n < 10 → AreDigits n ((48 + n) ∷ [])
one_digit n h = record { digits = rw (digit_byte n h) refl; value = omega arith; some = omega arith }

more_digits : (n : ℕ) (front : List ℕ) → 10 ≤ n → AreDigits (n / 10) front → AreDigits n (front ++ (48 + n % 10) ∷ [])
more_digits n front h before = record {
  digits = list_all-append is_ascii_digit front ((48 + n % 10) ∷ []) ∙ rw (before.digits, digit_byte (n % 10) (omega arith)) refl;
  value =
      let all : digits_value (front ++ (48 + n % 10) ∷ []) ≡ digits_value front * 10 + ((48 + n % 10) - 48) = fold-append (λ value byte. value * 10 + (byte - 48)) 0 front ((48 + n % 10) ∷ []) in
      omega (arith, all, before.value);
  some = rw length-append (omega arith);
}

pub decimal_digits : (n : ℕ) → n < 10 ^ 64 → AreDigits n (decimal n)
decimal_digits = decimal_by_steps_wide AreDigits one_digit more_digits

digit_is_plain : (byte : ℕ) → is_ascii_digit byte ≡ true → is_plain byte ≡ true
digit_is_plain byte h = grind (arith, nat_tests)

digits_are_plain : (word : List ℕ) → list_all is_ascii_digit word ≡ true → list_all is_plain word ≡ true
digits_are_plain [] h = refl
digits_are_plain (byte ∷ word) h = rw (digit_is_plain byte (and_left _ _ h)) (digits_are_plain word (and_right _ _ h))

-- a written number is a word
pub decimal_word : (n : ℕ) → n < 10 ^ 64 → IsWord (decimal n)
decimal_word n small = let are = decimal_digits n small in record { plain = digits_are_plain (decimal n) are.digits; some = are.some }

no_mark : (byte mark : ℕ) → is_ascii_digit byte ≡ true → mark < 48 → (byte == mark) ≡ false
no_mark byte mark h small = grind (arith, nat_tests)

-- digits begin with no mark below them
pub no_first_mark : (word rest : List ℕ) (mark : ℕ) → list_all is_ascii_digit word ≡ true → 0 < length word → mark < 48 → starts_with mark (word ++ rest) ≡ false
no_first_mark [] rest mark h some small = absurd (omega arith)
no_first_mark (byte ∷ word) rest mark h some small = no_mark byte mark (and_left _ _ h) small

pub test_true : (a b : ℕ) → a < b → nat_lt a b ≡ true
test_true a b h = grind (arith, nat_tests)

pub within_true : (a b : ℕ) → a ≤ b → nat_le a b ≡ true
within_true a b h = grind (arith, nat_tests)

-- the id of a written number
pub id_of_decimal : (n : ℕ) → n < 2 ^ 32 → id_of (decimal n) ≡ Some n
id_of_decimal n small =
    let are = decimal_digits n (omega arith) in
    let few = length-decimal-le_wide 10 n (omega arith) (omega arith) (omega arith) in
    let fits : digits_value (decimal n) < 2 ^ 32 = omega (arith, are.value) in
    rw (test_true 0 (length (decimal n)) are.some, within_true (length (decimal n)) 10 few, are.digits, test_true (digits_value (decimal n)) (2 ^ 32) fits, are.value) refl

-- a written value is a word
pub signed_word : (z : ℤ) → FitsSigned w128 z → IsWord (signed_decimal z)
signed_word (pos n) fits = let small : n < 2 ^ 127 = fits.sfits in decimal_word n (omega arith)
signed_word (negsuc n) fits =
    let small : n < 2 ^ 127 = fits.sfits in
    let is = decimal_word (suc n) (omega arith) in
    record { plain = is.plain; some = omega arith }
