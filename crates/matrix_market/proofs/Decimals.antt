-- Written counts and values are read back.
use Rattle.std.proofs.Common.{◌≡◌, refl, ℕ, suc, ◌-◌, ◌^◌, ◌<◌, ◌≤◌, List, [], ◌∷◌, length, true, false, arith, decimal}
use Rattle.std.specs.Prelude.{Some, ℤ, pos, negsuc}
use Rattle.std.specs.Char.{is_ascii_digit}
use Rattle.std.specs.Fmt.{signed_decimal}
use Rattle.std.specs.Int.{w128}
use Rattle.std.specs.Int.RustNames.{FitsSigned}
use Rattle.std.specs.List.{list_all}
use Rattle.std.proofs.lemmas.Fmt.{length-decimal-le_wide}
use Rattle.fem_fixed.specs.Numbers.{digits_value}
use Rattle.fem_fixed.specs.Ticks.{has_minus}
use Rattle.fem_text.proofs.Decimals.{AreDigits, decimal_digits, no_first_mark, test_true, within_true}
use Rattle.matrix_market.specs.Values.{whole_of, count_of, value_of}

whole_of_digits : (most limit n : ℕ) (word : List ℕ) → AreDigits n word → length word ≤ most → n ≤ limit → whole_of most limit word ≡ Some n
unfolding whole_of
whole_of_digits most limit n word are few within =
    let fits : digits_value word ≤ limit = omega (arith, are.value) in
    rw (test_true 0 (length word) are.some, within_true (length word) most few, are.digits, within_true (digits_value word) limit fits, are.value) refl

pub count_of_decimal : (n : ℕ) → n ≤ 33554432 → count_of (decimal n) ≡ Some n
unfolding count_of
count_of_decimal n small =
    whole_of_digits 20 33554432 n (decimal n) (decimal_digits n (omega arith)) (length-decimal-le_wide 20 n (omega arith) (omega arith) (omega arith)) small

no_minus : (word : List ℕ) → list_all is_ascii_digit word ≡ true → 0 < length word → has_minus word ≡ false
no_minus [] h some = refl
no_minus (byte ∷ word) h some = no_first_mark (byte ∷ word) [] 45 h some (omega arith)

-- the value of a written value
pub value_of_signed : (z : ℤ) → FitsSigned w128 z → value_of (signed_decimal z) ≡ Some z
unfolding value_of
value_of_signed (pos n) fits =
    let small : n < 2 ^ 127 = fits.sfits in
    let are = decimal_digits n (omega arith) in
    let few = length-decimal-le_wide 39 n (omega arith) (omega arith) (omega arith) in
    rw (no_minus (decimal n) are.digits are.some, whole_of_digits 39 (2 ^ 127 - 1) n (decimal n) are few (omega arith)) refl
value_of_signed (negsuc n) fits =
    let small : n < 2 ^ 127 = fits.sfits in
    let are = decimal_digits (suc n) (omega arith) in
    let few = length-decimal-le_wide 39 (suc n) (omega arith) (omega arith) (omega arith) in
    rw (whole_of_digits 39 (2 ^ 127) (suc n) (decimal (suc n)) are few (omega arith)) refl
