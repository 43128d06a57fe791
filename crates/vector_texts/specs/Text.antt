-- The text of marked cells.
use Rattle.std.specs.Prelude.{ℕ, List, [], ◌∷◌, codes, decimal, length, map, slice_index}
use Rattle.fem_text.specs.Written.{line_of, text_of}

-- how many cells are marked
abbrev pub marks_line : ℕ → List ℕ
marks_line count = line_of (codes "marks" ∷ decimal count ∷ [])

-- a cell and its indicator
abbrev pub pair_line : ℕ → ℕ → List ℕ
pair_line cell eta = line_of (decimal cell ∷ decimal eta ∷ [])

abbrev pub mark_line : List ℕ → ℕ → List ℕ
mark_line etas cell = pair_line cell (slice_index etas cell)

-- how many cells are marked, and then a line for each, in their order
unfoldable pub marks_text : List ℕ → List ℕ → List ℕ
marks_text etas cells = text_of (marks_line (length cells) ∷ map (mark_line etas) cells)
