-- A text has one reading, in each of the forms.
use Rattle.std.proofs.Common.{◌≡◌, ◌∙◌, sym, ap, refl, subst, ℕ, List, [], ◌∷◌, ◌⊎◌, inl, inr}
use Rattle.std.specs.Prelude.{Some, None}
use Rattle.std.specs.List.{slice_get}
use Rattle.fem_text.specs.WordLines.{Line, Lines, behind, number_at}
use Rattle.fem_text.specs.Reading.{outcome, IsFault, ReadsAll, FailsFirst}
use Rattle.fem_text.proofs.OneReading.{ok_same, ok_err, result_cases, one_list, not_both, fault_at, one_fault_here, read_or_fail}
use Rattle.matrix_market.specs.declared.fault.MarketKind.{MarketKind}
use Rattle.matrix_market.specs.declared.fault.MarketKind.TheVariants.{Banner, Entry, TooFew}
use Rattle.matrix_market.specs.Lines.{banner_line}
use Rattle.matrix_market.specs.Market.{Form, line_one, HasBanner, HasSize, HasEntries, Says, NoBanner, Follows, FaultIn, in_banner, in_size, in_entries, in_rest, from_size, from_entries}

one_size : {S X : Type 0} (form : Form S X) (lines : Lines) (s t : S) → HasSize form lines s → HasSize form lines t → s ≡ t
one_size form lines s t a b = ok_same s t (sym a.first ∙ b.first)

one_entries : {S X : Type 0} (form : Form S X) (lines : Lines) (s t : S) (es fs : List X) → HasEntries form lines s es → HasEntries form lines t fs → (s ≡ t) × (es ≡ fs)
one_entries {S = S} form lines s t es fs a b =
    let same : s ≡ t = one_size form lines s t a.size_is b.size_is in
    let P : S → Type 0 = λ size. ReadsAll TooFew (λ before. form.entry size) (from_entries lines) (form.count size) fs in
    (same, one_list TooFew (λ before. form.entry s) (from_entries lines) (form.count s) es fs a.entries_are (subst P (sym same) b.entries_are))

pub one_says : {S X : Type 0} (form : Form S X) (lines : Lines) (s t : S) (es fs : List X) → Says form lines s es → Says form lines t fs → (s ≡ t) × (es ≡ fs)
one_says form lines s t es fs a b = one_entries form lines s t es fs a.has b.has

banner_clash : {P : Type 0} (format : List ℕ) (lines : Lines) (k : MarketKind) (m : ℕ) → HasBanner format lines → NoBanner format lines k m → P
banner_clash format lines k m has lacks = absurd (lacks.none has)

size_clash : {S X P : Type 0} (form : Form S X) (lines : Lines) (s : S) (k : MarketKind) (m : ℕ) → HasSize form lines s → IsFault TooFew form.size (from_size lines) 0 k m → P
size_clash form lines s k m has fault = ok_err s k (sym has.first ∙ fault.kind_is)

entries_clash : {S X P : Type 0} (form : Form S X) (lines : Lines) (s t : S) (es : List X) (k : MarketKind) (m : ℕ) → HasEntries form lines s es → HasSize form lines t →
    FailsFirst TooFew (λ before. form.entry t) (from_entries lines) (form.count t) k m → P
entries_clash {S = S} form lines s t es k m has size fails =
    let P : S → Type 0 = λ size. FailsFirst TooFew (λ before. form.entry size) (from_entries lines) (form.count size) k m in
    not_both TooFew (λ before. form.entry s) (from_entries lines) (form.count s) es k m has.entries_are (subst P (one_size form lines t s size has.size_is) fails)

rest_clash : {P : Type 0} (lines : Lines) (k : MarketKind) (m : ℕ) → lines.ahead ≡ [] → Follows lines k m → P
rest_clash lines k m none follows = let nothing : slice_get lines.ahead 0 ≡ None = ap (λ ahead. slice_get ahead 0) none in cc (nothing, follows.first)

one_follows : (lines : Lines) (k l : MarketKind) (m n : ℕ) → Follows lines k m → Follows lines l n → (k ≡ l) × (m ≡ n)
one_follows lines k l m n a b =
    let both : Some a.extra ≡ Some b.extra = sym a.first ∙ b.first in
    let same : a.extra ≡ b.extra = cc in
    (a.kind_is ∙ sym b.kind_is, a.line_is ∙ ap (λ (line : Line). line.number) same ∙ sym b.line_is)

-- no text has both
pub says_no_fault : {S X P : Type 0} (form : Form S X) (lines : Lines) (s : S) (es : List X) (k : MarketKind) (m : ℕ) → Says form lines s es → FaultIn form lines k m → P
says_no_fault {S = S} form lines s es k m says (in_banner lacks) = banner_clash form.format lines k m says.has.size_is.banner lacks
says_no_fault {S = S} form lines s es k m says (in_size banner fault) = size_clash form lines s k m says.has.size_is fault
says_no_fault {S = S} form lines s es k m says (in_entries t size fails) = entries_clash form lines s t es k m says.has size fails
says_no_fault {S = S} form lines s es k m says (in_rest t fs has follows) =
    let same : t ≡ s = one_size form lines t s has.size_is says.has.size_is in
    let P : S → Type 0 = λ size. Follows (behind (form.count size) (from_entries lines)) k m in
    rest_clash (behind (form.count s) (from_entries lines)) k m says.ends (subst P same follows)

-- a text has one first fault
pub one_fault : {S X : Type 0} (form : Form S X) (lines : Lines) (k l : MarketKind) (m n : ℕ) → FaultIn form lines k m → FaultIn form lines l n → (k ≡ l) × (m ≡ n)
one_fault {S = S} form lines k l m n (in_banner a) (in_banner b) = (a.kind_is ∙ sym b.kind_is, a.line_is ∙ sym b.line_is)
one_fault {S = S} form lines k l m n (in_banner a) (in_size has b) = banner_clash form.format lines k m has a
one_fault {S = S} form lines k l m n (in_banner a) (in_entries t has b) = banner_clash form.format lines k m has.banner a
one_fault {S = S} form lines k l m n (in_banner a) (in_rest t fs has b) = banner_clash form.format lines k m has.size_is.banner a
one_fault {S = S} form lines k l m n (in_size has a) (in_banner b) = banner_clash form.format lines l n has b
one_fault {S = S} form lines k l m n (in_size has a) (in_size also b) = fault_at TooFew form.size (from_size lines) 0 k l m n a b
one_fault {S = S} form lines k l m n (in_size has a) (in_entries t size b) = size_clash form lines t k m size a
one_fault {S = S} form lines k l m n (in_size has a) (in_rest t fs entries b) = size_clash form lines t k m entries.size_is a
one_fault {S = S} form lines k l m n (in_entries s size a) (in_banner b) = banner_clash form.format lines l n size.banner b
one_fault {S = S} form lines k l m n (in_entries s size a) (in_size has b) = size_clash form lines s l n size b
one_fault {S = S} form lines k l m n (in_entries s size a) (in_entries t also b) =
    let P : S → Type 0 = λ size. FailsFirst TooFew (λ before. form.entry size) (from_entries lines) (form.count size) l n in
    one_fault_here TooFew (λ before. form.entry s) (from_entries lines) (form.count s) k l m n a (subst P (one_size form lines t s also size) b)
one_fault {S = S} form lines k l m n (in_entries s size a) (in_rest t fs entries b) = entries_clash form lines t s fs k m entries size a
one_fault {S = S} form lines k l m n (in_rest s es entries a) (in_banner b) = banner_clash form.format lines l n entries.size_is.banner b
one_fault {S = S} form lines k l m n (in_rest s es entries a) (in_size has b) = size_clash form lines s l n entries.size_is b
one_fault {S = S} form lines k l m n (in_rest s es entries a) (in_entries t size b) = entries_clash form lines s t es l n entries size b
one_fault {S = S} form lines k l m n (in_rest s es entries a) (in_rest t fs also b) =
    let P : S → Type 0 = λ size. Follows (behind (form.count size) (from_entries lines)) l n in
    one_follows (behind (form.count s) (from_entries lines)) k l m n a (subst P (one_size form lines t s also.size_is entries.size_is) b)

-- a reading of a text
abbrev pub Reading : {S X : Type 0} → Form S X → Lines → Type 0
Reading {S = S} {X = X} form lines =
    ((size : S) × (entries : List X) × Says form lines size entries) ⊎ ((kind : MarketKind) × (line : ℕ) × FaultIn form lines kind line)

first_or_none : {A : Type 0} (list : List A) → (list ≡ []) ⊎ ((x : A) × (slice_get list 0 ≡ Some x))
first_or_none [] = inl refl
first_or_none (x ∷ list) = inr (x, refl)

rest_reading : {S X : Type 0} (form : Form S X) (lines : Lines) (s : S) (es : List X) → HasEntries form lines s es → Reading form lines
rest_reading form lines s es has = elim (first_or_none (behind (form.count s) (from_entries lines)).ahead) [
  | inl none ↦ inl (s, es, record { has = has; ends = none })
  | inr extra ↦ inr (Entry, extra.0.number, in_rest s es has (record { extra = extra.0; first = extra.1; kind_is = refl; line_is = refl }))
]

entries_reading : {S X : Type 0} (form : Form S X) (lines : Lines) (s : S) → HasSize form lines s → Reading form lines
entries_reading form lines s has = elim (read_or_fail TooFew (λ before. form.entry s) (from_entries lines) (form.count s)) [
  | inl reads ↦ rest_reading form lines s reads.0 (record { size_is = has; entries_are = reads.1 })
  | inr fails ↦ inr (fails.0, fails.1, in_entries s has fails.2)
]

size_reading : {S X : Type 0} (form : Form S X) (lines : Lines) → HasBanner form.format lines → Reading form lines
size_reading form lines has = elim (result_cases (outcome TooFew form.size (slice_get (from_size lines).ahead 0))) [
  | inl good ↦ entries_reading form lines good.0 (record { banner = has; first = good.1 })
  | inr bad ↦ inr (bad.0, number_at (from_size lines) 0, in_size has (record { kind_is = bad.1; line_is = refl }))
]

-- each text has a reading
pub some_reading : {S X : Type 0} (form : Form S X) (lines : Lines) → Reading form lines
some_reading form lines = elim (result_cases (outcome Banner (banner_line form.format) (line_one lines.ahead))) [
  | inl good ↦ size_reading form lines good.1
  | inr bad ↦ inr (Banner, 1, in_banner (record { none = λ has. ok_err tt bad.0 (sym has ∙ bad.1); kind_is = refl; line_is = refl }))
]
