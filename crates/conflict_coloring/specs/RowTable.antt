-- The cells of each row, in one list.
use Rattle.std.specs.Prelude.{ℕ, ◌+◌, ◌<◌, ◌≤◌, ◌≡◌, true, List, length, map, flat_map, slice_index}
use Rattle.std.specs.List.{range_with_len}
use Rattle.conflict_coloring.specs.Conflict.{has, rows_of}
use Rattle.conflict_coloring.specs.Cut.{part}

-- the pairs (row, cell) of the first n cells
abbrev pub pairs : List (List ℕ) → ℕ → List (ℕ × ℕ)
pairs cells n = flat_map (λ c. map (λ r. (r, c)) (rows_of cells c)) (range_with_len 0 n)

-- the cells of row r stand from starts[r] to starts[r + 1]
pub record IsByRow (cells : List (List ℕ)) (starts items : List ℕ) : Type 0 where
  pub some : 0 < length starts
  pub rows : (c r : ℕ) → has (rows_of cells c) r ≡ true → r + 1 < length starts
  pub rising : (r : ℕ) → r + 1 < length starts → slice_index starts r ≤ slice_index starts (r + 1)
  pub within : (r : ℕ) → r + 1 < length starts → slice_index starts (r + 1) ≤ length items
  pub each : (r d : ℕ) → r + 1 < length starts → has (part items (slice_index starts r) (slice_index starts (r + 1))) d ≡ has (rows_of cells d) r
