-- The written texts, in the Matrix Market exchange format.
use Rattle.std.specs.Prelude.{ℕ, ◌+◌, ℤ, List, [], ◌∷◌, ◌++◌, length, map, codes, decimal}
use Rattle.std.specs.Fmt.{signed_decimal}
use Rattle.std.specs.List.{concat}
use Rattle.fem_text.specs.Written.{text_of, line_of}
use Rattle.matrix_market.specs.Entries.{Triple, entries_of}

-- values are in units of 2^-32
abbrev pub unit_line : List ℕ
unit_line = codes "% unit 2^-32"

-- how many rows and columns a square matrix has, and how many entries
abbrev pub size_line : ℕ → ℕ → List ℕ
size_line size count = line_of (decimal size ∷ decimal size ∷ decimal count ∷ [])

-- the line of an entry: its row and its column, counted from 1, and its value
abbrev pub entry_line : Triple → List ℕ
entry_line entry = line_of (decimal (entry.0 + 1) ∷ decimal (entry.1 + 1) ∷ signed_decimal entry.2 ∷ [])

-- the first lines of a square matrix: its size and how many entries it has
unfoldable pub matrix_front : ℕ → ℕ → List (List ℕ)
matrix_front size count = codes "%%MatrixMarket matrix coordinate integer general" ∷ unit_line ∷ size_line size count ∷ []

-- the lines of a square matrix: its entries stand by row and then by column
abbrev pub matrix_lines : List (List ℕ) → List (List ℤ) → List (List ℕ)
matrix_lines pattern values = matrix_front (length pattern) (length (concat pattern)) ++ map entry_line (entries_of pattern values)

-- the text of a matrix, by its rows of columns and its rows of values
unfoldable pub matrix_text : List (List ℕ) → List (List ℤ) → List ℕ
matrix_text pattern values = text_of (matrix_lines pattern values)

-- how many values a right side has, in one column
abbrev pub vector_size_line : ℕ → List ℕ
vector_size_line size = line_of (decimal size ∷ codes "1" ∷ [])

-- the first lines of a right side
unfoldable pub vector_front : ℕ → List (List ℕ)
vector_front size = codes "%%MatrixMarket matrix array integer general" ∷ unit_line ∷ vector_size_line size ∷ []

-- the text of a right side
unfoldable pub vector_text : List ℤ → List ℕ
vector_text values = text_of (vector_front (length values) ++ map signed_decimal values)

-- the line of a pair of a pattern: its row and its column, counted from 1
abbrev pub pair_line : ℕ → ℕ → List ℕ
pair_line i j = line_of (decimal (i + 1) ∷ decimal (j + 1) ∷ [])

-- the lines of the rows of a pattern, from row i on
abbrev pub pair_lines : ℕ → List (List ℕ) → List (List ℕ)
pair_lines i [] = []
pair_lines i (row ∷ rows) = map (pair_line i) row ++ pair_lines (i + 1) rows

-- the first lines of a pattern: its size and how many pairs it has
unfoldable pub pattern_front : ℕ → ℕ → List (List ℕ)
pattern_front size count = codes "%%MatrixMarket matrix coordinate pattern general" ∷ size_line size count ∷ []

-- the text of a pattern: its pairs stand by row and then by column
unfoldable pub pattern_text : List (List ℕ) → List ℕ
pattern_text pattern = text_of (pattern_front (length pattern) (length (concat pattern)) ++ pair_lines 0 pattern)
