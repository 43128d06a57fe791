-- Which dofs couple, and the rows of the pattern.
use Rattle.std.specs.Prelude.{ℕ, ◌*◌, ◌^◌, ◌<◌, ◌≤◌, Bool, ◌==◌, ◌||◌, ◌&&◌, List, All, map, filter, length}
use Rattle.std.specs.List.{list_any, range_with_len, concat, sum_by}
use Rattle.std.specs.List.Sorted.{IsStrictlyIncreasing}

-- how many dofs there are, and the lists of dofs that couple
pub record CoupledDofs : Type 0 where
  pub size : ℕ
  pub lists : List (List ℕ)

-- whether a list has a number
unfoldable pub has : List ℕ → ℕ → Bool
has list j = list_any (λ x. x == j) list

-- whether some list has both
abbrev pub share_list : List (List ℕ) → ℕ → ℕ → Bool
share_list lists i j = list_any (λ list. has list i && has list j) lists

-- whether the pattern has the pair
unfoldable pub is_coupled : List (List ℕ) → ℕ → ℕ → Bool
is_coupled lists i j = i == j || share_list lists i j

-- the columns of a row, rising
unfoldable pub row_of : ℕ → List (List ℕ) → ℕ → List ℕ
row_of size lists i = filter (is_coupled lists i) (range_with_len 0 size)

-- all rows
unfoldable pub rows_of : CoupledDofs → List (List ℕ)
rows_of couplings = map (row_of couplings.size couplings.lists) (range_with_len 0 couplings.size)

-- how many pairs the pattern has
abbrev pub pairs_of : CoupledDofs → ℕ
pairs_of couplings = length (concat (rows_of couplings))

-- the squares of the lists' lengths, together
abbrev pub squares_of : List (List ℕ) → ℕ
squares_of lists = sum_by (λ list. length list * length list) lists

-- what the rows of each pattern keep: columns rise and are numbers of rows, and there are no more pairs than the limit
pub record IsPattern (rows : List (List ℕ)) : Type 0 where
  pub rising : All IsStrictlyIncreasing rows
  pub square : All (All (λ j. j < length rows)) rows
  pub few : length (concat rows) ≤ 33554432
  pub size : length rows < 2 ^ 32
