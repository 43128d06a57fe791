-- The grammar of decimal numbers in a text: how a word is put together.
use Rattle.std.specs.Prelude.{◌≡◌, ◌⊎◌, ℕ, List, [], ◌∷◌, ◌++◌, Bool, true, false}
use Rattle.fem_fixed.specs.Ticks.{NumberParts, is_digits, is_exponent_mark}

-- a sign: none, `+` or `-`
abbrev pub IsSign : Bool → List ℕ → Type 0
IsSign false text = (text ≡ []) ⊎ (text ≡ 43 ∷ [])
IsSign true text = text ≡ 45 ∷ []

-- digits, with at most one point among, before or after them
pub record IsMantissa (whole fraction text : List ℕ) : Type 0 where
  pub digits : is_digits (whole ++ fraction) ≡ true
  pub point : (text ≡ whole ++ 46 ∷ fraction) ⊎ ((text ≡ whole) × (fraction ≡ []))

-- `e` or `E`, a sign, and one digit or more
pub record IsExponent (lowers : Bool) (digits text : List ℕ) : Type 0 where
  pub mark : ℕ
  pub sign : List ℕ
  pub marks : is_exponent_mark mark ≡ true
  pub signed : IsSign lowers sign
  pub some : is_digits digits ≡ true
  pub whole : text ≡ mark ∷ (sign ++ digits)

-- an exponent, or nothing
abbrev pub IsPower : Bool → Bool → List ℕ → List ℕ → Type 0
IsPower true lowers digits text = IsExponent lowers digits text
IsPower false lowers digits text = (lowers ≡ false) × (digits ≡ []) × (text ≡ [])

-- the word is a sign, a mantissa and a power, one behind the other, with these parts
pub record IsNumberWord (word : List ℕ) (parts : NumberParts) : Type 0 where
  pub sign : List ℕ
  pub mantissa : List ℕ
  pub power : List ℕ
  pub signed : IsSign parts.is_negative sign
  pub digits : IsMantissa parts.whole parts.fraction mantissa
  pub raised : IsPower parts.has_exponent parts.lowers parts.exponent power
  pub whole_word : word ≡ sign ++ (mantissa ++ power)
