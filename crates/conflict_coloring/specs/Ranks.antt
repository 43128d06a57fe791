-- Rows by their rank, where they lie far above the number of entries.
use Rattle.std.specs.Prelude.{ℕ, nat_lt, List, length, map, filter}
use Rattle.conflict_coloring.specs.RowTable.{pairs}

-- the rows of all cells, one cell after another
abbrev pub entries_of : List (List ℕ) → List ℕ
entries_of cells = map (λ p. p.0) (pairs cells (length cells))

-- how many numbers of a list are below a row
abbrev pub rank_in : List ℕ → ℕ → ℕ
rank_in numbers row = length (filter (λ n. nat_lt n row) numbers)

-- the cells with the ranks of their rows
abbrev pub ranked_by : List ℕ → List (List ℕ) → List (List ℕ)
ranked_by numbers cells = map (map (rank_in numbers)) cells
