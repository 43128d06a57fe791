-- The grammar of number words, and the splitting of a word into its parts.
use Rattle.std.proofs.Common.{◌≡◌, ◌∙◌, sym, ap, refl, subst, ℕ, List, [], ◌∷◌, ◌++◌, length, Bool, true, false, arith, inl, inr, append-nil}
use Rattle.std.specs.Prelude.{◌||◌, ◌&&◌, ◌==◌, not, nat_lt, if◌then◌else◌}
use Rattle.std.specs.Char.{is_ascii_digit}
use Rattle.std.specs.List.{list_any, list_all, before_first, after_first}
use Rattle.std.proofs.lemmas.Bool.{cases_Bool}
use Rattle.std.proofs.lemmas.List.Folds.{list_all-append}
use Rattle.fem_fixed.specs.Ticks.{NumberParts, is_point, is_exponent_mark, has_minus, without_sign, is_digits, is_number, parts_of}
use Rattle.fem_fixed.specs.NumberWords.{IsSign, IsMantissa, IsPower, IsNumberWord}
use Rattle.fem_fixed.proofs.Splits.{before_none, after_none, before_at, after_at, any_at, put_together}

and_left : (a b : Bool) → (a && b) ≡ true → a ≡ true
and_left true b h = refl
and_left false b h = h

and_right : (a b : Bool) → (a && b) ≡ true → b ≡ true
and_right true b h = h
and_right false b h = cc

both : (a b : Bool) → a ≡ true → b ≡ true → (a && b) ≡ true
both a b h k = ap (λ x. x && b) h ∙ k

digit_no_mark : (byte : ℕ) → is_ascii_digit byte ≡ true → is_exponent_mark byte ≡ false
digit_no_mark byte h = grind arith

digit_no_point : (byte : ℕ) → is_ascii_digit byte ≡ true → is_point byte ≡ false
digit_no_point byte h = grind arith

digit_no_sign : (byte : ℕ) → is_ascii_digit byte ≡ true → (byte == 43 || byte == 45) ≡ false
digit_no_sign byte h = grind arith

none_passes : (p : ℕ → Bool) → ((byte : ℕ) → is_ascii_digit byte ≡ true → p byte ≡ false) → (text : List ℕ) → list_all is_ascii_digit text ≡ true → list_any p text ≡ false
none_passes p law [] h = refl
none_passes p law (byte ∷ text) h =
    ap (λ b. b || list_any p text) (law byte (and_left (is_ascii_digit byte) (list_all is_ascii_digit text) h))
    ∙ none_passes p law text (and_right (is_ascii_digit byte) (list_all is_ascii_digit text) h)

no_mark : (text : List ℕ) → list_all is_ascii_digit text ≡ true → list_any is_exponent_mark text ≡ false
no_mark text h = none_passes is_exponent_mark digit_no_mark text h

no_point : (text : List ℕ) → list_all is_ascii_digit text ≡ true → list_any is_point text ≡ false
no_point text h = none_passes is_point digit_no_point text h

-- a text that begins with no sign
starts : List ℕ → Bool
starts [] = false
starts (byte ∷ more) = not (byte == 43 || byte == 45)

unsigned : (text : List ℕ) → starts text ≡ true → without_sign text ≡ text
unfolding starts
unsigned [] h = refl
unsigned (byte ∷ more) h = elim (cases_Bool (byte == 43 || byte == 45)) [
  | inl e ↦ (let f : not (byte == 43 || byte == 45) ≡ false = ap not e in absurd (clash h f))
  | inr e ↦ ap (λ b. if b then more else byte ∷ more) e
]
  where
    clash : {b : Bool} → b ≡ true → b ≡ false → ⊥
    clash e f = cc

no_minus : (text : List ℕ) → starts text ≡ true → has_minus text ≡ false
unfolding starts
no_minus [] h = refl
no_minus (byte ∷ more) h = grind arith

-- a sign in front of such a text
signed_off : (negative : Bool) (sign text : List ℕ) → IsSign negative sign → starts text ≡ true → (without_sign (sign ++ text) ≡ text) × (has_minus (sign ++ text) ≡ negative)
signed_off false sign text (inl e) h = rw e (unsigned text h, no_minus text h)
signed_off false sign text (inr e) h = rw e (refl, refl)
signed_off true sign text e h = rw e (refl, refl)

digits_start : (text more : List ℕ) → is_digits text ≡ true → starts (text ++ more) ≡ true
unfolding starts
digits_start [] more h = cc
digits_start (byte ∷ text) more h =
    ap not (digit_no_sign byte (and_left (is_ascii_digit byte) (list_all is_ascii_digit text) (and_right (nat_lt 0 (length (byte ∷ text))) (list_all is_ascii_digit (byte ∷ text)) h)))

point_starts : (whole fraction more : List ℕ) → is_digits (whole ++ fraction) ≡ true → starts ((whole ++ 46 ∷ fraction) ++ more) ≡ true
unfolding starts
point_starts [] fraction more h = refl
point_starts (byte ∷ whole) fraction more h =
    ap not (digit_no_sign byte (and_left (is_ascii_digit byte) (list_all is_ascii_digit (whole ++ fraction)) (and_right (nat_lt 0 (length (byte ∷ whole ++ fraction))) (list_all is_ascii_digit (byte ∷ whole ++ fraction)) h)))

mantissa_starts : (whole fraction text more : List ℕ) → IsMantissa whole fraction text → starts (text ++ more) ≡ true
mantissa_starts whole fraction text more h = elim h.point [
  | inl e ↦ rw e (point_starts whole fraction more h.digits)
  | inr p ↦ (let all : whole ++ fraction ≡ whole = ap (λ f. whole ++ f) p.1 ∙ append-nil whole in
      rw p.0 (digits_start whole more (sym (ap is_digits all) ∙ h.digits)))
]

all_digits : (text : List ℕ) → is_digits text ≡ true → list_all is_ascii_digit text ≡ true
all_digits text h = and_right (nat_lt 0 (length text)) (list_all is_ascii_digit text) h

-- the digits on both sides of the point
sides : (whole fraction : List ℕ) → is_digits (whole ++ fraction) ≡ true → (list_all is_ascii_digit whole ≡ true) × (list_all is_ascii_digit fraction ≡ true)
sides whole fraction h =
    let all : (list_all is_ascii_digit whole && list_all is_ascii_digit fraction) ≡ true = sym (list_all-append is_ascii_digit whole fraction) ∙ all_digits (whole ++ fraction) h in
    (and_left _ _ all, and_right _ _ all)

-- a mantissa has no exponent mark
any_append : (p : ℕ → Bool) (xs : List ℕ) (y : ℕ) (ys : List ℕ) → list_any p xs ≡ false → p y ≡ false → list_any p ys ≡ false → list_any p (xs ++ y ∷ ys) ≡ false
any_append p [] y ys h at k = ap (λ b. b || list_any p ys) at ∙ k
any_append p (x ∷ xs) y ys h at k = grind (arith, any_append p xs y ys)

mantissa_unmarked : (whole fraction text : List ℕ) → IsMantissa whole fraction text → list_any is_exponent_mark text ≡ false
mantissa_unmarked whole fraction text h =
    let (left, right) = sides whole fraction h.digits in
    elim h.point [
      | inl e ↦ rw e (any_append is_exponent_mark whole 46 fraction (no_mark whole left) refl (no_mark fraction right))
      | inr p ↦ rw p.0 (no_mark whole left)
    ]

-- what the splitting finds in a mantissa with a power behind it
pub record Splits (lowers has : Bool) (digits mantissa : List ℕ) (text : List ℕ) : Type 0 where
  pub front : before_first is_exponent_mark text ≡ mantissa
  pub marked : list_any is_exponent_mark text ≡ has
  pub minus : has_minus (after_first is_exponent_mark text) ≡ lowers
  pub back : without_sign (after_first is_exponent_mark text) ≡ digits

power_splits : (has lowers : Bool) (digits mantissa power : List ℕ) → list_any is_exponent_mark mantissa ≡ false → IsPower has lowers digits power → Splits lowers has digits mantissa (mantissa ++ power)
power_splits true lowers digits mantissa power none h =
    let start : starts (digits ++ []) ≡ true = digits_start digits [] h.some in
    let (off, minus) = signed_off lowers h.sign digits h.signed (sym (ap starts (append-nil digits)) ∙ start) in
    let rest : after_first is_exponent_mark (mantissa ++ h.mark ∷ (h.sign ++ digits)) ≡ h.sign ++ digits = after_at is_exponent_mark mantissa h.mark (h.sign ++ digits) none h.marks in
    rw h.whole (record {
      front = before_at is_exponent_mark mantissa h.mark (h.sign ++ digits) none h.marks;
      marked = any_at is_exponent_mark mantissa h.mark (h.sign ++ digits) h.marks;
      minus = ap has_minus rest ∙ minus;
      back = ap without_sign rest ∙ off;
    })
power_splits false lowers digits mantissa power none h =
    let all : mantissa ++ power ≡ mantissa = ap (λ p. mantissa ++ p) h.2 ∙ append-nil mantissa in
    let rest : after_first is_exponent_mark mantissa ≡ [] = after_none is_exponent_mark mantissa none in
    rw all (record {
      front = before_none is_exponent_mark mantissa none;
      marked = none;
      minus = ap has_minus rest ∙ sym h.0;
      back = ap without_sign rest ∙ sym h.1;
    })

point_splits : (whole fraction text : List ℕ) → IsMantissa whole fraction text → (before_first is_point text ≡ whole) × (after_first is_point text ≡ fraction)
point_splits whole fraction text h =
    let (left, right) = sides whole fraction h.digits in
    elim h.point [
      | inl e ↦ rw e (before_at is_point whole 46 fraction (no_point whole left) refl, after_at is_point whole 46 fraction (no_point whole left) refl)
      | inr p ↦ rw p.0 (before_none is_point whole (no_point whole left), after_none is_point whole (no_point whole left) ∙ sym p.1)
    ]

same_parts : (a b : NumberParts) → a.is_negative ≡ b.is_negative → a.whole ≡ b.whole → a.fraction ≡ b.fraction → a.has_exponent ≡ b.has_exponent → a.lowers ≡ b.lowers → a.exponent ≡ b.exponent → a ≡ b
same_parts a b n w f h l e = λ i. record { is_negative = n i; whole = w i; fraction = f i; has_exponent = h i; lowers = l i; exponent = e i }

-- the splitting finds the parts from which a word is put together
pub parts_found : (word : List ℕ) (parts : NumberParts) → IsNumberWord word parts → parts_of word ≡ parts
unfolding parts_of
parts_found word parts h =
    let text : List ℕ = h.mantissa ++ h.power in
    let (off, minus) = signed_off parts.is_negative h.sign text h.signed (mantissa_starts parts.whole parts.fraction h.mantissa h.power h.digits) in
    let rest : without_sign word ≡ text = ap without_sign h.whole_word ∙ off in
    let cut = power_splits parts.has_exponent parts.lowers parts.exponent h.mantissa h.power (mantissa_unmarked parts.whole parts.fraction h.mantissa h.digits) h.raised in
    let front : before_first is_exponent_mark (without_sign word) ≡ h.mantissa = ap (before_first is_exponent_mark) rest ∙ cut.front in
    let point = point_splits parts.whole parts.fraction h.mantissa h.digits in
    same_parts (parts_of word) parts
    (ap has_minus h.whole_word ∙ minus)
    (ap (before_first is_point) front ∙ point.0)
    (ap (after_first is_point) front ∙ point.1)
    (ap (list_any is_exponent_mark) rest ∙ cut.marked)
    (ap (λ t. has_minus (after_first is_exponent_mark t)) rest ∙ cut.minus)
    (ap (λ t. without_sign (after_first is_exponent_mark t)) rest ∙ cut.back)

power_form : (has : Bool) (digits : List ℕ) (lowers : Bool) (power : List ℕ) → IsPower has lowers digits power → (not has || is_digits digits) ≡ true
power_form true digits lowers power h = h.some
power_form false digits lowers power h = refl

-- and such a word has the form of a number
pub form_found : (word : List ℕ) (parts : NumberParts) → IsNumberWord word parts → is_number parts ≡ true
unfolding is_number
form_found word parts h =
    both (is_digits (parts.whole ++ parts.fraction)) (not parts.has_exponent || is_digits parts.exponent) h.digits.digits
    (power_form parts.has_exponent parts.exponent parts.lowers h.power h.raised)

-- the sign that stands in front of a text
front_sign : (text : List ℕ) → (sign : List ℕ) × IsSign (has_minus text) sign × (text ≡ sign ++ without_sign text)
front_sign [] = ([], inl refl, refl)
front_sign (byte ∷ more) = elim (cases_Bool (byte == 45)) [
  | inl e ↦ (let is : byte ≡ 45 = grind arith in
      rw is (45 ∷ [], refl, refl))
  | inr e ↦ elim (cases_Bool (byte == 43)) [
    | inl f ↦ (let is : byte ≡ 43 = grind arith in
        rw is (43 ∷ [], inr refl, refl))
    | inr f ↦ ([], subst (λ b. IsSign b []) (sym e) (inl refl), ap (λ b. if b then more else byte ∷ more) (either f e))
  ]
]
  where
    either : {a b : Bool} → a ≡ false → b ≡ false → false ≡ (a || b)
    either {b = b} h k = sym (ap (λ x. x || b) h ∙ k)

-- what stands behind the mantissa
power_found : (text : List ℕ) (has : Bool) → list_any is_exponent_mark text ≡ has → (not has || is_digits (without_sign (after_first is_exponent_mark text))) ≡ true →
    (power : List ℕ) × IsPower has (has_minus (after_first is_exponent_mark text)) (without_sign (after_first is_exponent_mark text)) power × (text ≡ before_first is_exponent_mark text ++ power)
power_found text true marked form =
    let (mark, marks, is) = put_together is_exponent_mark text marked in
    let (sign, signed, rest) = front_sign (after_first is_exponent_mark text) in
    (mark ∷ after_first is_exponent_mark text, record { mark = mark; sign = sign; marks = marks; signed = signed; some = form; whole = ap (λ t. mark ∷ t) rest }, is)
power_found text false marked form =
    let rest : after_first is_exponent_mark text ≡ [] = after_none is_exponent_mark text marked in
    ([], (ap has_minus rest, ap without_sign rest, refl), sym (append-nil (before_first is_exponent_mark text) ∙ before_none is_exponent_mark text marked))

-- a text of digits round a point, or of digits
mantissa_found : (text : List ℕ) → is_digits (before_first is_point text ++ after_first is_point text) ≡ true → IsMantissa (before_first is_point text) (after_first is_point text) text
mantissa_found text form = record {
  digits = form;
  point = elim (cases_Bool (list_any is_point text)) [
    | inl e ↦ (let (byte, is, whole) = put_together is_point text e in
        let point : byte ≡ 46 = grind arith in
        inl (whole ∙ ap (λ b. before_first is_point text ++ b ∷ after_first is_point text) point))
    | inr e ↦ inr (sym (before_none is_point text e), after_none is_point text e)
  ];
}

-- a word whose parts have the form of a number is put together from them
pub word_found : (word : List ℕ) → is_number (parts_of word) ≡ true → IsNumberWord word (parts_of word)
unfolding parts_of is_number
word_found word form =
    let text : List ℕ = without_sign word in
    let (sign, signed, front) = front_sign word in
    let digits = and_left _ _ form in
    let (power, raised, whole) = power_found text (list_any is_exponent_mark text) refl (and_right _ _ form) in
    record {
      sign = sign;
      mantissa = before_first is_exponent_mark text;
      power = power;
      signed = signed;
      digits = mantissa_found (before_first is_exponent_mark text) digits;
      raised = raised;
      whole_word = front ∙ ap (λ t. sign ++ t) whole;
    }
