-- The summary of a system: how large it is, and sums of its values.
use Rattle.std.specs.Prelude.{ℕ, ◌+◌, ◌%◌, ◌^◌, ◌==◌, ◌≤◌, Bool, ℤ, pos, ◌+ℤ◌, ◌*ℤ◌, unsigned_abs, List, [], ◌∷◌, All, codes, decimal, filter, fold, length, map}
use Rattle.std.specs.Fmt.{signed_decimal}
use Rattle.std.specs.List.{concat, enumerate_from}
use Rattle.matrix_market.specs.Entries.{Triple, Fills, entries_of}
use Rattle.fem_text.specs.Written.{line_of, text_of}

-- the sum of numbers
abbrev pub sum_of : List ℤ → ℤ
sum_of values = fold ◌+ℤ◌ (pos 0) values

-- a number with the weight of place k, which is 1, 2, .. 7, 1, 2, .. for the places 0, 1, ..
abbrev pub weighted : ℕ → ℤ → ℤ
weighted k value = value *ℤ pos (1 + k % 7)

-- the sum of numbers in their order, each with the weight of its place
abbrev pub weighted_sum : List ℤ → ℤ
weighted_sum values = sum_of (map (λ (place : ℕ × ℤ). weighted place.0 place.1) (enumerate_from 0 values))

-- the entry is on the diagonal
abbrev pub is_diagonal : Triple → Bool
is_diagonal entry = entry.0 == entry.1

-- the values of entries
abbrev pub values_in : List Triple → List ℤ
values_in entries = map (λ (entry : Triple). entry.2) entries

-- the sum of the values of a matrix on its diagonal
unfoldable pub diagonal_sum : List (List ℕ) → List (List ℤ) → ℤ
diagonal_sum pattern values = sum_of (values_in (filter is_diagonal (entries_of pattern values)))

-- the weighted sum of all values of a matrix, in the order of its text: by row and then by column
unfoldable pub matrix_sum : List (List ℕ) → List (List ℤ) → ℤ
matrix_sum pattern values = weighted_sum (values_in (entries_of pattern values))

-- the weighted sum of a right side
unfoldable pub vector_sum : List ℤ → ℤ
vector_sum values = weighted_sum values

-- the line of a number under its name
abbrev pub number_line : List ℕ → List ℕ → List ℕ
number_line name digits = line_of (name ∷ digits ∷ [])

-- the text of a summary, by the number of active cells, the rows of columns, the rows of values and the right side
unfoldable pub summary_text : ℕ → List (List ℕ) → List (List ℤ) → List ℤ → List ℕ
summary_text cells pattern values rhs = text_of (
    number_line (codes "cells") (decimal cells)
    ∷ number_line (codes "dofs") (decimal (length pattern))
    ∷ number_line (codes "entries") (decimal (length (concat pattern)))
    ∷ number_line (codes "diagonal") (signed_decimal (diagonal_sum pattern values))
    ∷ number_line (codes "weighted") (signed_decimal (matrix_sum pattern values))
    ∷ number_line (codes "rhs") (signed_decimal (vector_sum rhs))
    ∷ [])

-- a number of a system is at most 2 ^ 80 in size
abbrev pub IsSmall : ℤ → Type 0
IsSmall value = unsigned_abs value ≤ 2 ^ 80

-- the values fill the pattern, which is within its limit, and all numbers are small
pub record IsSummable (pattern : List (List ℕ)) (values : List (List ℤ)) (rhs : List ℤ) : Type 0 where
  pub fills : Fills values pattern
  pub few : length (concat pattern) ≤ 33554432
  pub small : All (All IsSmall) values
  pub small_rhs : All IsSmall rhs
