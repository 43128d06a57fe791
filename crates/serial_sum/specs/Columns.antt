-- The columns of the rows.
use Rattle.std.specs.Prelude.{ℕ, ◌<◌, Bool, List, [], length, slice_index_or, ◌==◌}
use Rattle.std.specs.List.{position_or_len, list_any}

-- the columns of a row
abbrev pub columns_at : List (List ℕ) → ℕ → List ℕ
columns_at pattern i = slice_index_or pattern i []

-- the column is among these
abbrev pub has_column : List ℕ → ℕ → Bool
has_column columns j = list_any (λ k. k == j) columns

-- its place
abbrev pub place : List ℕ → ℕ → ℕ
place columns j = position_or_len (λ k. k == j) columns

-- each column is above those before it
abbrev pub IsRising : List ℕ → Type 0
IsRising columns = (i j : ℕ) → i < j → j < length columns → slice_index_or columns i 0 < slice_index_or columns j 0

abbrev pub AreRising : List (List ℕ) → Type 0
AreRising pattern = (i : ℕ) → i < length pattern → IsRising (columns_at pattern i)
