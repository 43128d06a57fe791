-- A forest as the list of its active cells, and its next step.
use Rattle.std.specs.Prelude.{◌≡◌, ℕ, zero, suc, ◌+◌, ◌<◌, Bool, true, false, cond, ◌==◌, ◌||◌, ◌&&◌, List, [], ◌∷◌, ◌++◌}
use Rattle.corner_names.specs.Names.{Cell, root, child}
use Rattle.corner_names.specs.Cells.{Corners, level}
use Rattle.corner_names.specs.Forest.{IsActive, IsBalanced, MeetAt}

abbrev pub same_cell : Cell → Cell → Bool
same_cell (root c) (root d) = c == d
same_cell (root c) (child q l) = false
same_cell (child p k) (root d) = false
same_cell (child p k) (child q l) = same_cell p q && k == l

-- p is a cell above z
abbrev pub is_above : Cell → Cell → Bool
is_above p (root c) = false
is_above p (child q k) = same_cell p q || is_above p q

-- a cell is refined where it is above an active cell
abbrev pub refined_by : List Cell → Cell → Bool
refined_by [] p = false
refined_by (z ∷ zs) p = is_above p z || refined_by zs p

abbrev pub has_cell : List Cell → Cell → Bool
has_cell [] p = false
has_cell (z ∷ zs) p = same_cell p z || has_cell zs p

-- the step's next cells in place of one
abbrev pub replaced : (Cell → Bool) → Cell → List Cell
replaced chosen x = cond (chosen x) (child x 0 ∷ child x 1 ∷ child x 2 ∷ child x 3 ∷ []) (x ∷ [])

abbrev pub next_active : (Cell → Bool) → List Cell → List Cell
next_active chosen [] = []
next_active chosen (x ∷ xs) = replaced chosen x ++ next_active chosen xs

-- the active cells are the leaves of a balanced forest over n coarse cells
pub record IsForest (n : ℕ) (m : Corners) (bd : ℕ → ℕ → Bool) (active : List Cell) : Type 0 where
  pub leaves : (z : Cell) → has_cell active z ≡ true → IsActive n (refined_by active) z
  pub all : (z : Cell) → IsActive n (refined_by active) z → has_cell active z ≡ true
  pub balanced : IsBalanced n m bd (refined_by active)

-- a set of active cells that has with each cell each active cell one level lower that meets it
pub record IsClosedSet (m : Corners) (active : List Cell) (chosen : Cell → Bool) : Type 0 where
  pub active_only : (p : Cell) → chosen p ≡ true → has_cell active p ≡ true
  pub closed : (x z : Cell) (f e : ℕ) → chosen x ≡ true → has_cell active z ≡ true → level z + 1 ≡ level x → f < 4 → e < 4 → MeetAt m x f z e → chosen z ≡ true

-- the coarse cells
abbrev pub coarse_cells : ℕ → List Cell
coarse_cells zero = []
coarse_cells (suc n) = coarse_cells n ++ (root n ∷ [])

-- no cell stands twice
abbrev pub AreOnce : List Cell → Type 0
AreOnce [] = Unit {0}
AreOnce (z ∷ zs) = (has_cell zs z ≡ false) × AreOnce zs
