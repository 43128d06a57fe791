-- Values that fit a word.
use Rattle.std.proofs.Common.{ℕ, ℤ, ◌<◌, ◌≤◌, ◌^◌, arith}
use Rattle.std.specs.Prelude.{unsigned_abs}
use Rattle.std.specs.Int.{w64}
use Rattle.std.specs.Int.RustNames.{FitsSigned}
use Rattle.std.proofs.lemmas.Int.{fits_signed_from_abs}

pub fits_word : (value : ℤ) (limit : ℕ) → unsigned_abs value ≤ limit → limit < 2 ^ 32 → FitsSigned w64 value
fits_word value limit small low = fits_signed_from_abs w64 value (let h : unsigned_abs value < 2 ^ 63 = omega arith in h)
