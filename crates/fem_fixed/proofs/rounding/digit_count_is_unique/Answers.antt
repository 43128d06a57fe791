use Rattle.std.proofs.Common.{sym, subst, ℕ}
use Rattle.fem_fixed.specs.KeptSum.{HasDigits, binary_digits}
use Rattle.fem_fixed.proofs.Kept.{digits_counted, one_count}
use Rattle.fem_fixed.proofs.rounding.digit_count_is_unique.Goals as goal

pub returns : goal.returns
returns c = λ size b. (
  λ has. one_count size (binary_digits size) b (digits_counted size) has,
  λ same. (let P : ℕ → Type 0 = λ m. HasDigits size m in subst P (sym same) (digits_counted size)),
)
