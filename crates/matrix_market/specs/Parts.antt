-- The texts in parts, as they are written one behind the other.
use Rattle.std.specs.Prelude.{ℕ, ◌^◌, ◌-◌, ℤ, List, length, map, min}
use Rattle.std.specs.Fmt.{signed_decimal}
use Rattle.matrix_market.specs.Entries.{row_entries, entries_from}
use Rattle.fem_text.specs.Written.{text_of}
use Rattle.matrix_market.specs.Texts.{entry_line, pair_line, pair_lines}

-- the entries of a row
abbrev pub row_text : ℕ → List ℕ → List ℤ → List ℕ
row_text i columns values = text_of (map entry_line (row_entries i columns values))

-- the entries of the rows from row i on
abbrev pub rows_text : ℕ → List (List ℕ) → List (List ℤ) → List ℕ
rows_text i pattern values = text_of (map entry_line (entries_from i pattern values))

-- the values of a right side
abbrev pub values_text : List ℤ → List ℕ
values_text values = text_of (map signed_decimal values)

-- the pairs of a row
abbrev pub row_pairs_text : ℕ → List ℕ → List ℕ
row_pairs_text i columns = text_of (map (pair_line i) columns)

-- the pairs of the rows from row i on
abbrev pub pairs_text : ℕ → List (List ℕ) → List ℕ
pairs_text i pattern = text_of (pair_lines i pattern)

-- how many bytes a text has, where a word of 64 bits can tell
abbrev pub size_of : List ℕ → ℕ
size_of text = min (length text) (2 ^ 64 - 1)
