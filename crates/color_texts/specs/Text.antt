-- The text of a colouring of cells.
use Rattle.std.specs.Prelude.{ℕ, List, [], ◌∷◌, codes, decimal, length, map, slice_index}
use Rattle.std.specs.List.{range_with_len}
use Rattle.fem_text.specs.Written.{line_of, text_of}
use Rattle.conflict_coloring.specs.Coloring.{Coloring, color_count}

-- how many colours there are
abbrev pub count_line : ℕ → List ℕ
count_line count = line_of (codes "colors" ∷ decimal count ∷ [])

-- a cell, its zone and its colour
abbrev pub cell_line : ℕ → ℕ → ℕ → List ℕ
cell_line cell zone color = line_of (decimal cell ∷ decimal zone ∷ decimal color ∷ [])

-- the lines of the first cells, in their order
abbrev pub cell_lines : Coloring → ℕ → List (List ℕ)
cell_lines c cells = map (λ cell. cell_line cell (slice_index c.zones cell) (slice_index c.colors cell)) (range_with_len 0 cells)

-- the text up to the line of a cell
unfoldable pub text_before : Coloring → ℕ → List ℕ
text_before c cell = text_of (count_line (color_count c) ∷ cell_lines c cell)

-- the text of a colouring: how many colours there are, and a line for each cell
abbrev pub colors_text : Coloring → List ℕ
colors_text c = text_before c (length c.zones)
