-- The cells of a round, with what each gives and the rows that it writes.
use Rattle.std.specs.Prelude.{ℕ, List, map, slice_index}
use Rattle.serial_sum.specs.Columns.{columns_at}
use Rattle.serial_sum.specs.Marks.{RoundItem, row_after}
use Rattle.serial_sum.specs.SerialSum.{part_at}
use Rattle.sparsity.specs.declared.rows.Row.{Row}
use Rattle.mesh_loop.specs.Setup.{MeshProblem, pattern_of, written_rows}
use Rattle.mesh_loop.specs.Sum.{part_of, parts_of}

-- a cell with its part and its rows
abbrev pub item_of : MeshProblem → ℕ → RoundItem
item_of s cell = record { part = part_of s cell; rows = written_rows s cell }

abbrev pub items_of : MeshProblem → List ℕ → List RoundItem
items_of s cells = map (item_of s) cells

-- the rows of item k, which is the cell at k
abbrev pub rows_at : MeshProblem → List ℕ → ℕ → List ℕ
rows_at s cells k = written_rows s (slice_index cells k)

-- row i after item k
abbrev pub row_with : MeshProblem → List ℕ → ℕ → Row → ℕ → ℕ → Row
row_with s cells digits row k i = row_after digits (columns_at (pattern_of s) i) i row (part_at (parts_of s cells) k)
