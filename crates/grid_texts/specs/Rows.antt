-- The rows of a grid, by the state of the draws in front of them.
use Rattle.std.specs.Prelude.{ℕ, ◌+◌, ◌-◌, ◌*◌, ◌%◌, List, Bool, ◌&&◌, nat_lt, min, if◌then◌else◌}
use Rattle.std.specs.List.{flat_map, range_with_len}
use Rattle.grid_texts.specs.Draws.{state_after, draw}
use Rattle.grid_texts.specs.Grid.{is_interior, node_line, cell_line}

-- the shift that a node takes with this draw, if it takes any
abbrev pub shift : Bool → ℕ → ℕ → ℕ
shift inside state k = if inside then draw state k % 3 else 0

-- the rows of which some nodes are interior
abbrev pub is_inner_row : ℕ → ℕ → Bool
is_inner_row n j = nat_lt 0 j && nat_lt j n

-- how many draws a row takes for its first nodes
abbrev pub draws_in_row : ℕ → ℕ → ℕ → ℕ
draws_in_row n j count = if is_inner_row n j then 2 * (min count n - 1) else 0

-- a row of nodes
unfoldable pub node_row : ℕ → ℕ → ℕ → ℕ → List ℕ
node_row n j state count =
    flat_map (λ i. node_line n i j (shift (is_interior n i j) state (2 * (i - 1) + 1)) (shift (is_interior n i j) state (2 * (i - 1) + 2))) (range_with_len 0 count)

-- a row of cells
unfoldable pub cell_row : ℕ → ℕ → ℕ → ℕ → List ℕ
cell_row n j state count = flat_map (λ i. cell_line n i j (1 + draw state (1 + i) % 4)) (range_with_len 0 count)

-- rows of cells, each behind the draws of those before
unfoldable pub cell_rows : ℕ → ℕ → ℕ → List ℕ
cell_rows n state count = flat_map (λ j. cell_row n j (state_after state (n * j)) n) (range_with_len 0 count)

-- rows of nodes
unfoldable pub node_rows : ℕ → ℕ → ℕ → List ℕ
node_rows n state count = flat_map (λ j. node_row n j (state_after state (2 * ((min j n - 1) * (n - 1)))) (n + 1)) (range_with_len 0 count)
