-- The entries of a matrix over a pattern.
use Rattle.std.specs.Prelude.{◌≡◌, ◌<◌, ℕ, ◌+◌, ℤ, List, [], ◌∷◌, ◌++◌, length, map, slice_index_or}
use Rattle.sparsity.specs.declared.rows.Row.{Row}

-- a row and a column, each counted from 0, and the value there
abbrev pub Triple : Type 0
Triple = ℕ × ℕ × ℤ

-- a row's entries: each of its columns with its value
abbrev pub row_entries : ℕ → List ℕ → List ℤ → List Triple
row_entries i [] values = []
row_entries i (j ∷ columns) [] = []
row_entries i (j ∷ columns) (value ∷ values) = (i, j, value) ∷ row_entries i columns values

-- the entries of the rows from row i on
abbrev pub entries_from : ℕ → List (List ℕ) → List (List ℤ) → List Triple
entries_from i [] values = []
entries_from i (row ∷ rows) [] = []
entries_from i (row ∷ rows) (values ∷ more) = row_entries i row values ++ entries_from (i + 1) rows more

-- all entries, by row and within a row by column
abbrev pub entries_of : List (List ℕ) → List (List ℤ) → List Triple
entries_of pattern values = entries_from 0 pattern values

-- the values of rows
abbrev pub values_of : List Row → List (List ℤ)
values_of rows = map (λ (row : Row). row.values) rows

-- the right sides of rows
abbrev pub right_sides : List Row → List ℤ
right_sides rows = map (λ (row : Row). row.rhs) rows

-- a row of values for each row of the pattern, with a value for each column
pub record Fills (values : List (List ℤ)) (pattern : List (List ℕ)) : Type 0 where
  pub rows : length values ≡ length pattern
  pub each : (i : ℕ) → i < length pattern → length (slice_index_or values i []) ≡ length (slice_index_or pattern i [])
