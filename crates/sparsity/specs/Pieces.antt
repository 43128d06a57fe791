-- The rows in pieces of 1024 rows, as threads make them.
use Rattle.std.specs.Prelude.{ℕ, ◌+◌, ◌-◌, ◌*◌, ◌/◌, min, List, map}
use Rattle.std.specs.List.{range_with_len}
use Rattle.sparsity.specs.Coupled.{row_of}

-- how many pieces there are; the last may be empty
abbrev pub pieces_in : ℕ → ℕ
pieces_in size = size / 1024 + 1

-- the rows of piece p
unfoldable pub piece_of : ℕ → List (List ℕ) → ℕ → List (List ℕ)
piece_of size lists p = map (row_of size lists) (range_with_len (p * 1024) (min 1024 (size - p * 1024)))
