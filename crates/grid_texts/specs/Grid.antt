-- The mesh text and the problem text of a grid.
use Rattle.std.specs.Prelude.{ℕ, ◌+◌, ◌-◌, ◌*◌, ◌%◌, List, ◌++◌, codes, decimal, Bool, ◌&&◌, nat_eq, nat_lt, if◌then◌else◌}
use Rattle.std.specs.List.{flat_map, range_with_len}
use Rattle.grid_texts.specs.Draws.{draw}

-- the nodes of a grid of n cells in a row and in a column: (i, j) with i and j from 0 to n, row by row
abbrev pub node_id : ℕ → ℕ → ℕ → ℕ
node_id n i j = 1 + i + (n + 1) * j

abbrev pub is_interior : ℕ → ℕ → ℕ → Bool
is_interior n i j = nat_lt 0 i && nat_lt i n && nat_lt 0 j && nat_lt j n

-- the interior nodes are counted from 0, and number m takes the draws 2 m + 1 and 2 m + 2
abbrev pub interior_number : ℕ → ℕ → ℕ → ℕ
interior_number n i j = (j - 1) * (n - 1) + (i - 1)

-- how many quarters a node is shifted along x
abbrev pub shift_along_x : ℕ → ℕ → ℕ → ℕ → ℕ
shift_along_x n seed i j = if is_interior n i j then draw seed (2 * interior_number n i j + 1) % 3 else 0

-- the same along y
abbrev pub shift_along_y : ℕ → ℕ → ℕ → ℕ → ℕ
shift_along_y n seed i j = if is_interior n i j then draw seed (2 * interior_number n i j + 2) % 3 else 0

-- none, one or two quarters behind the point
unfoldable pub quarters : ℕ → List ℕ
quarters shift = if nat_eq shift 0 then codes "" else if nat_eq shift 1 then codes ".25" else codes ".5"

-- a coordinate of a node: twice its place, shifted
abbrev pub coordinate : ℕ → ℕ → List ℕ
coordinate place shift = decimal (2 * place) ++ quarters shift

-- the line of a node with these shifts
unfoldable pub node_line : ℕ → ℕ → ℕ → ℕ → ℕ → List ℕ
node_line n i j x_shift y_shift = decimal (node_id n i j) ++ codes " " ++ coordinate i x_shift ++ codes " " ++ coordinate j y_shift ++ codes " 0\n"

abbrev pub node_lines : ℕ → ℕ → List ℕ
node_lines n seed =
    flat_map (λ j. flat_map (λ i. node_line n i j (shift_along_x n seed i j) (shift_along_y n seed i j)) (range_with_len 0 (n + 1)))
    (range_with_len 0 (n + 1))

-- the draws that the nodes take, two for each interior one
abbrev pub draws_of_nodes : ℕ → ℕ
draws_of_nodes n = 2 * ((n - 1) * (n - 1))

-- the cells (i, j) follow row by row, each with one draw
abbrev pub material : ℕ → ℕ → ℕ → ℕ → ℕ
material n seed i j = 1 + draw seed (draws_of_nodes n + 1 + (i + n * j)) % 4

-- the line of a cell of a material, with its corners anticlockwise
unfoldable pub cell_line : ℕ → ℕ → ℕ → ℕ → List ℕ
cell_line n i j material_id =
    decimal (1 + i + n * j) ++ codes " " ++ decimal material_id ++ codes " quad "
    ++ decimal (node_id n i j) ++ codes " " ++ decimal (node_id n (i + 1) j) ++ codes " "
    ++ decimal (node_id n (i + 1) (j + 1)) ++ codes " " ++ decimal (node_id n i (j + 1)) ++ codes "\n"

abbrev pub cell_lines : ℕ → ℕ → List ℕ
cell_lines n seed = flat_map (λ j. flat_map (λ i. cell_line n i j (material n seed i j)) (range_with_len 0 n)) (range_with_len 0 n)

-- how many nodes and cells
unfoldable pub head_line : ℕ → List ℕ
head_line n = decimal ((n + 1) * (n + 1)) ++ codes " " ++ decimal (n * n) ++ codes " 0 0 0\n"

unfoldable pub mesh_text : ℕ → ℕ → List ℕ
mesh_text n seed = head_line n ++ node_lines n seed ++ cell_lines n seed

unfoldable pub problem_head : List ℕ
problem_head = codes "diffusion 1 1\ndiffusion 2 0.5\ndiffusion 3 3\ndiffusion 4 0.001\nsource 1 1\nsource 3 2\ndirichlet 0 0\npenalty 0.01\nrefine 0 "

-- the coefficients, and one refinement of the first and of the last cell
unfoldable pub problem_text : ℕ → List ℕ
problem_text n = problem_head ++ decimal (n * n - 1) ++ codes "\n"
