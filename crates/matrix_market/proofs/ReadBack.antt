-- What is written is read back, in each of the forms.
use Rattle.std.proofs.Common.{◌≡◌, ◌∙◌, sym, ap, refl, subst, ℕ, zero, suc, ◌+◌, List, [], ◌∷◌, length, drop, map, false}
use Rattle.std.specs.Prelude.{Some, None, Ok}
use Rattle.std.specs.declared.result.Result.{Result}
use Rattle.std.specs.List.{slice_get}
use Rattle.fem_text.specs.Lines.{words_of}
use Rattle.fem_text.specs.WordLines.{Line, Lines, numbered, behind, text_lines, starts_with, without_comments}
use Rattle.fem_text.specs.Reading.{outcome, ReadsAll}
use Rattle.matrix_market.specs.declared.fault.MarketKind.{MarketKind}
use Rattle.matrix_market.specs.declared.fault.MarketKind.TheVariants.{TooFew}
use Rattle.fem_text.specs.Written.{text_of}
use Rattle.matrix_market.specs.Texts.{unit_line}
use Rattle.matrix_market.specs.Lines.{banner_line}
use Rattle.matrix_market.specs.Market.{Form, Says, from_size, from_entries}
use Rattle.fem_text.proofs.WrittenLines.{AreLines, counted_lines}

-- the line of each entry gives it back
abbrev pub GiveBack : {X : Type 0} → (List (List ℕ) → Result X MarketKind) → (X → List ℕ) → List X → Type 0
GiveBack reading line [] = Unit {0}
GiveBack reading line (entry ∷ entries) = (reading (words_of (line entry)) ≡ Ok entry) × GiveBack reading line entries

each_given : {X : Type 0} (reading : List (List ℕ) → Result X MarketKind) (line : X → List ℕ) (entries : List X) (before : ℕ) → GiveBack reading line entries →
    (place : ℕ) (value : X) → slice_get entries place ≡ Some value → outcome TooFew reading (slice_get (numbered before (map line entries)) place) ≡ Ok value
each_given reading line [] before given place value h = cc
each_given reading line (entry ∷ entries) before given zero value h = let same : entry ≡ value = cc in given.0 ∙ ap Ok same
each_given reading line (entry ∷ entries) before given (suc place) value h = each_given reading line entries (before + 1) given.1 place value h

all_given : {X : Type 0} (reading : List (List ℕ) → Result X MarketKind) (line : X → List ℕ) (entries : List X) (before past count : ℕ) → GiveBack reading line entries →
    count ≡ length entries → ReadsAll TooFew (λ earlier. reading) (record { ahead = numbered before (map line entries); past = past }) count entries
all_given reading line entries before past count given c = record { reads = record { each = each_given reading line entries before given }; all = sym c }

none_left : {X : Type 0} (line : X → List ℕ) (entries : List X) (before : ℕ) → drop (length entries) (numbered before (map line entries)) ≡ []
none_left line [] before = refl
none_left line (entry ∷ entries) before = none_left line entries (before + 1)

-- the parts of a written text
pub record IsText {S X : Type 0} (form : Form S X) (banner size_line : List ℕ) (line : X → List ℕ) (size : S) (entries : List X) : Type 0 where
  pub lines : AreLines (banner ∷ unit_line ∷ size_line ∷ map line entries)
  pub banner_is : banner_line form.format (words_of banner) ≡ Ok tt
  pub no_comment : starts_with 37 size_line ≡ false
  pub size_is : form.size (words_of size_line) ≡ Ok size
  pub count : form.count size ≡ length entries
  pub given : GiveBack (form.entry size) line entries

abbrev entry_lines : {X : Type 0} → (X → List ℕ) → List X → ℕ → Lines
entry_lines line entries past = record { ahead = numbered 3 (map line entries); past = past }

abbrev size_lines : {X : Type 0} → List ℕ → (X → List ℕ) → List X → ℕ → Lines
size_lines size_line line entries past = record { ahead = numbered 2 (size_line ∷ map line entries); past = past }

abbrev all_lines : {X : Type 0} → List ℕ → List ℕ → (X → List ℕ) → List X → ℕ → Lines
all_lines banner size_line line entries past = record { ahead = numbered 0 (banner ∷ unit_line ∷ size_line ∷ map line entries); past = past }

without_unit : (size_line : List ℕ) (rest : List Line) → starts_with 37 size_line ≡ false →
    without_comments 37 (record { number = 2; bytes = unit_line } ∷ record { number = 3; bytes = size_line } ∷ rest) ≡ record { number = 3; bytes = size_line } ∷ rest
without_unit size_line rest h = rw h refl

size_at : {X : Type 0} (banner size_line : List ℕ) (line : X → List ℕ) (entries : List X) (past : ℕ) → starts_with 37 size_line ≡ false →
    from_size (all_lines banner size_line line entries past) ≡ size_lines size_line line entries past
size_at banner size_line line entries past h = λ i. record { ahead = without_unit size_line (numbered 3 (map line entries)) h i; past = past }

says_lines : {S X : Type 0} (form : Form S X) (banner size_line : List ℕ) (line : X → List ℕ) (size : S) (entries : List X) (past : ℕ) →
    IsText form banner size_line line size entries → Says form (all_lines banner size_line line entries past) size entries
says_lines form banner size_line line size entries past is =
    let at : from_size (all_lines banner size_line line entries past) ≡ size_lines size_line line entries past = size_at banner size_line line entries past is.no_comment in
    let next : from_entries (all_lines banner size_line line entries past) ≡ entry_lines line entries past = ap (behind 1) at in
    let P : Lines → Type 0 = λ lines. ReadsAll TooFew (λ before. form.entry size) lines (form.count size) entries in
    record {
      has = record {
        size_is = record {
          banner = is.banner_is;
          first = ap (λ (lines : Lines). outcome TooFew form.size (slice_get lines.ahead 0)) at ∙ is.size_is;
        };
        entries_are = subst P (sym next) (all_given (form.entry size) line entries 3 past (form.count size) is.given is.count);
      };
      ends =
          ap (λ (lines : Lines). drop (form.count size) lines.ahead) next ∙ ap (λ count. drop count (numbered 3 (map line entries))) is.count ∙ none_left line entries 3;
    }

-- a written text says what was written
pub says_back : {S X : Type 0} (form : Form S X) (banner size_line : List ℕ) (line : X → List ℕ) (size : S) (entries : List X) → IsText form banner size_line line size entries →
    Says form (text_lines None (text_of (banner ∷ unit_line ∷ size_line ∷ map line entries))) size entries
says_back form banner size_line line size entries is =
    let lines = banner ∷ unit_line ∷ size_line ∷ map line entries in
    let P : Lines → Type 0 = λ all. Says form all size entries in
    subst P (sym (counted_lines lines is.lines)) (says_lines form banner size_line line size entries (0 + length lines + 1) is)
