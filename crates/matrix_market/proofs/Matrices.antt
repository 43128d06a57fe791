-- Written matrices are read back.
use Rattle.std.proofs.Common.{◌≡◌, sym, ap, refl, ℕ, suc, ◌+◌, ◌-◌, ◌<◌, ◌≤◌, ◌^◌, List, [], ◌∷◌, ◌++◌, length, map, true, false, nat_lt, arith, length-append, decimal}
use Rattle.std.specs.Prelude.{Ok, ℤ, nat_le, All, codes}
use Rattle.std.specs.Fmt.{signed_decimal}
use Rattle.std.specs.Int.{w128}
use Rattle.std.specs.Int.RustNames.{FitsSigned}
use Rattle.std.specs.List.{concat}
use Rattle.std.proofs.lemmas.Bool.Decides.{nat_tests}
use Rattle.std.proofs.lemmas.List.Elements.{All-head, All-tail}
use Rattle.fem_text.specs.Lines.{words_of}
use Rattle.fem_text.specs.WordLines.{starts_with}
use Rattle.fem_text.specs.Words.{id_at, this_word}
use Rattle.matrix_market.specs.declared.size.MatrixSize.{MatrixSize}
use Rattle.matrix_market.specs.Entries.{Triple, Fills, row_entries, entries_from, entries_of}
use Rattle.fem_text.specs.Written.{line_of}
use Rattle.matrix_market.specs.Texts.{size_line, entry_line, unit_line, matrix_front, matrix_text}
use Rattle.matrix_market.specs.Lines.{banner_line, matrix_size, from_zero, index_at, value_at, matrix_entry}
use Rattle.matrix_market.specs.Market.{MatrixText, matrix_form}
use Rattle.matrix_market.specs.ReadBack.{IsReadable}
use Rattle.fem_text.proofs.WrittenWords.{AreWords, words_of_line, line_has_words, line_is_shown}
use Rattle.fem_text.proofs.WrittenLines.{IsLine, AreLines}
use Rattle.fem_text.proofs.Decimals.{decimal_digits, decimal_word, signed_word, no_first_mark, id_of_decimal}
use Rattle.matrix_market.proofs.Decimals.{count_of_decimal, value_of_signed}
use Rattle.matrix_market.proofs.ReadBack.{GiveBack, IsText, says_back}

-- an entry within the size, with a value in range
pub record IsEntry (size : ℕ) (entry : Triple) : Type 0 where
  pub row : entry.0 < size
  pub column : entry.1 < size
  pub value : FitsSigned w128 entry.2

abbrev AreEntries : ℕ → List Triple → Type 0
AreEntries size [] = Unit {0}
AreEntries size (entry ∷ entries) = IsEntry size entry × AreEntries size entries

entries_join : (size : ℕ) (first second : List Triple) → AreEntries size first → AreEntries size second → AreEntries size (first ++ second)
entries_join size [] second a b = b
entries_join size (entry ∷ first) second a b = (a.0, entries_join size first second a.1 b)

row_are : (size i : ℕ) (columns : List ℕ) (values : List ℤ) → i < size → All (λ j. j < size) columns → All (FitsSigned w128) values → AreEntries size (row_entries i columns values)
row_are size i [] values h c v = tt
row_are size i (j ∷ columns) [] h c v = tt
row_are size i (j ∷ columns) (value ∷ values) h c v =
    let P : ℕ → Type 0 = λ j. j < size in (
      record { row = h; column = All-head P j columns c; value = All-head (FitsSigned w128) value values v },
      row_are size i columns values h (All-tail P j columns c) (All-tail (FitsSigned w128) value values v),
    )

rows_are : (size i : ℕ) (pattern : List (List ℕ)) (values : List (List ℤ)) → i + length pattern ≡ size → All (All (λ j. j < size)) pattern → All (All (FitsSigned w128)) values →
    AreEntries size (entries_from i pattern values)
rows_are size i [] values h c v = tt
rows_are size i (row ∷ rows) [] h c v = tt
rows_are size i (row ∷ rows) (first ∷ more) h c v =
    let P : List ℕ → Type 0 = All (λ j. j < size) in
    let Q : List ℤ → Type 0 = All (FitsSigned w128) in
    entries_join size (row_entries i row first) (entries_from (i + 1) rows more) (row_are size i row first (omega arith) (All-head P row rows c) (All-head Q first more v))
    (rows_are size (i + 1) rows more (omega arith) (All-tail P row rows c) (All-tail Q first more v))

row_count : (i : ℕ) (columns : List ℕ) (values : List ℤ) → length values ≡ length columns → length (row_entries i columns values) ≡ length columns
row_count i [] values h = refl
row_count i (j ∷ columns) [] h = absurd (omega arith)
row_count i (j ∷ columns) (value ∷ values) h = let rest = row_count i columns values (omega arith) in omega arith

other_rows : (first : List ℤ) (more : List (List ℤ)) (row : List ℕ) (rows : List (List ℕ)) → Fills (first ∷ more) (row ∷ rows) → Fills more rows
other_rows first more row rows fills = record { rows = (let all = fills.rows in omega arith); each = λ i h. fills.each (suc i) (omega arith) }

rows_count : (i : ℕ) (pattern : List (List ℕ)) (values : List (List ℤ)) → Fills values pattern → length (entries_from i pattern values) ≡ length (concat pattern)
rows_count i [] values fills = refl
rows_count i (row ∷ rows) [] fills = let all = fills.rows in absurd (omega arith)
rows_count i (row ∷ rows) (first ∷ more) fills =
    let here = row_count i row first (fills.each 0 (omega arith)) in
    let rest = rows_count (i + 1) rows more (other_rows first more row rows fills) in
    omega (arith, length-append (row_entries i row first) (entries_from (i + 1) rows more), length-append row (concat rows))

entry_words : (size : ℕ) (entry : Triple) → size < 2 ^ 32 → IsEntry size entry → AreWords (decimal (entry.0 + 1) ∷ decimal (entry.1 + 1) ∷ signed_decimal entry.2 ∷ [])
entry_words size entry h is =
    let row = is.row in
    let column = is.column in
    (decimal_word (entry.0 + 1) (omega arith), (decimal_word (entry.1 + 1) (omega arith), (signed_word entry.2 is.value, tt)))

entry_is_line : (size : ℕ) (entry : Triple) → size < 2 ^ 32 → IsEntry size entry → IsLine (entry_line entry)
entry_is_line size entry h is =
    let are = entry_words size entry h is in
    let rest = decimal (entry.1 + 1) ∷ signed_decimal entry.2 ∷ [] in
    record { shown = line_is_shown (decimal (entry.0 + 1)) rest are.0 are.1; words = line_has_words (decimal (entry.0 + 1)) rest are.0 are.1 }

entry_lines_are : (size : ℕ) (entries : List Triple) → size < 2 ^ 32 → AreEntries size entries → AreLines (map entry_line entries)
entry_lines_are size [] h are = tt
entry_lines_are size (entry ∷ entries) h are = (entry_is_line size entry h are.0, entry_lines_are size entries h are.1)

index_within : (size index : ℕ) → index < size → from_zero size (index + 1) ≡ Ok index
index_within size index h =
    let low : nat_lt 0 (index + 1) ≡ true = grind (arith, nat_tests) in
    let high : nat_le (index + 1) size ≡ true = grind (arith, nat_tests) in
    let back : (index + 1) - 1 ≡ index = omega arith in
    rw (low, high) (ap Ok back)

-- the line of an entry gives it back
entry_given : (size : MatrixSize) (entry : Triple) → size.columns ≡ size.rows → size.rows < 2 ^ 32 → IsEntry size.rows entry → matrix_entry size (words_of (entry_line entry)) ≡ Ok entry
unfolding matrix_entry index_at value_at id_at
entry_given size entry square h is =
    let are = entry_words size.rows entry h is in
    let row = is.row in
    let column = is.column in
    rw (
      words_of_line (decimal (entry.0 + 1)) (decimal (entry.1 + 1) ∷ signed_decimal entry.2 ∷ []) are.0 are.1,
      id_of_decimal (entry.0 + 1) (omega arith),
      id_of_decimal (entry.1 + 1) (omega arith),
      index_within size.rows entry.0 row,
      index_within size.columns entry.1 (omega arith),
      value_of_signed entry.2 is.value,
    ) refl

entries_given : (size : MatrixSize) (entries : List Triple) → size.columns ≡ size.rows → size.rows < 2 ^ 32 → AreEntries size.rows entries → GiveBack (matrix_entry size) entry_line entries
entries_given size [] square h are = tt
entries_given size (entry ∷ entries) square h are = (entry_given size entry square h are.0, entries_given size entries square h are.1)

size_words : (size count : ℕ) → size < 2 ^ 32 → count ≤ 33554432 → AreWords (decimal size ∷ decimal size ∷ decimal count ∷ [])
size_words size count h few = (decimal_word size (omega arith), (decimal_word size (omega arith), (decimal_word count (omega arith), tt)))

size_given : (size count : ℕ) → size < 2 ^ 32 → count ≤ 33554432 → matrix_size (words_of (size_line size count)) ≡ Ok (record { rows = size; columns = size; count = count })
unfolding matrix_size id_at
size_given size count h few =
    let are = size_words size count h few in
    rw (words_of_line (decimal size) (decimal size ∷ decimal count ∷ []) are.0 are.1, id_of_decimal size h, count_of_decimal count few) refl

size_is_line : (size count : ℕ) → size < 2 ^ 32 → count ≤ 33554432 → IsLine (size_line size count)
size_is_line size count h few =
    let are = size_words size count h few in
    let rest = decimal size ∷ decimal count ∷ [] in
    record { shown = line_is_shown (decimal size) rest are.0 are.1; words = line_has_words (decimal size) rest are.0 are.1 }

size_no_comment : (size count : ℕ) → size < 2 ^ 32 → starts_with 37 (size_line size count) ≡ false
size_no_comment size count h =
    let are = decimal_digits size (omega arith) in
    no_first_mark (decimal size) (32 ∷ line_of (decimal size ∷ decimal count ∷ [])) 37 are.digits are.some (omega arith)

abbrev banner : List ℕ
banner = codes "%%MatrixMarket matrix coordinate integer general"

banner_is : banner_line (codes "coordinate") (words_of banner) ≡ Ok tt
unfolding banner_line this_word
banner_is = refl

banner_is_line : IsLine banner
banner_is_line = record { shown = refl; words = refl }

pub unit_is_line : IsLine unit_line
unit_is_line = record { shown = refl; words = refl }

matrix_parts : (pattern : List (List ℕ)) (values : List (List ℤ)) → IsReadable pattern values →
    IsText matrix_form banner (size_line (length pattern) (length (concat pattern))) entry_line (record { rows = length pattern; columns = length pattern; count = length (concat pattern) }) (entries_of pattern values)
matrix_parts pattern values is =
    let size = length pattern in
    let count = length (concat pattern) in
    let are = rows_are size 0 pattern values (omega arith) is.square is.range in
    record {
      lines = (banner_is_line, (unit_is_line, (size_is_line size count is.size is.few, entry_lines_are size (entries_of pattern values) is.size are)));
      banner_is = banner_is;
      no_comment = size_no_comment size count is.size;
      size_is = size_given size count is.size is.few;
      count = sym (rows_count 0 pattern values is.fills);
      given = entries_given (record { rows = size; columns = size; count = count }) (entries_of pattern values) refl is.size are;
    }

pub matrix_read_back : (pattern : List (List ℕ)) (values : List (List ℤ)) → IsReadable pattern values →
    MatrixText (matrix_text pattern values) (record { rows = length pattern; columns = length pattern; entries = entries_of pattern values })
unfolding matrix_text matrix_front
matrix_read_back pattern values is =
    let size : MatrixSize = record { rows = length pattern; columns = length pattern; count = length (concat pattern) } in
    record {
      size = size;
      entries = entries_of pattern values;
      says = says_back matrix_form banner (size_line (length pattern) (length (concat pattern))) entry_line size (entries_of pattern values) (matrix_parts pattern values is);
      matrix_is = refl;
    }
