-- A step of refinement, by the names of corners.
use Rattle.std.specs.Prelude.{◌≡◌, ℕ, ◌+◌, ◌*◌, ◌<◌, ◌≤◌, ◌^◌, ◌==◌, ◌&&◌, Bool, true, List, length, slice_index, Some, None}
use Rattle.corner_names.specs.Forest.{MeetAt}
use Rattle.hanging_refine.specs.declared.fault.RefineFault.{RefineFault}
use Rattle.hanging_refine.specs.declared.fault.RefineFault.TheVariants.{NoSuchCell, Level, Limit, Flat, NoMemory}
use Rattle.hanging_refine.specs.Coarse.{corner_at}
use Rattle.hanging_refine.specs.Refined.{RefinedMesh, active_cells, active_at, cell_at}
use Rattle.hanging_refine.specs.Numbered.{corner_name, corner_number}
use Rattle.hanging_refine.specs.Points.{cell_points, has_flat_child}
use Rattle.hanging_refine.specs.Closure.{IsFirstPast}
use Rattle.hanging_refine.specs.Step.{refined_below, count_below, first_where}

-- how often a coarse cell was divided for an active cell
abbrev pub level_of : RefinedMesh → ℕ → ℕ
level_of forest i = length (active_at forest i).path

-- the set has with each cell each active cell one level lower that meets it
abbrev pub IsClosedUnder : RefinedMesh → (ℕ → Bool) → Type 0
IsClosedUnder forest set =
    (i z f e : ℕ) → i < length forest.cells → z < length forest.cells → f < 4 → e < 4 → set i ≡ true → level_of forest z + 1 ≡ level_of forest i →
    MeetAt (corner_at forest.mesh) (cell_at forest i) f (cell_at forest z) e → set z ≡ true

-- the least such set that has each asked cell
pub record IsStepSet (forest : RefinedMesh) (asked : List ℕ) (set : ℕ → Bool) : Type 0 where
  pub within : (i : ℕ) → set i ≡ true → i < length forest.cells
  pub has_asked : (k : ℕ) → k < length asked → set (slice_index asked k) ≡ true
  pub closed : IsClosedUnder forest set
  pub least : (other : ℕ → Bool) → ((k : ℕ) → k < length asked → other (slice_index asked k) ≡ true) → IsClosedUnder forest other → (i : ℕ) → set i ≡ true → other i ≡ true

-- the cell has level 12; a child of the cell would be flat or not convex
abbrev pub is_lowest : RefinedMesh → (ℕ → Bool) → ℕ → Bool
is_lowest forest set i = set i && level_of forest i == 12

abbrev pub has_flat : RefinedMesh → (ℕ → Bool) → ℕ → Bool
has_flat forest set i = set i && has_flat_child (cell_points forest.mesh (cell_at forest i))

-- how many cells would be active
abbrev pub next_count : RefinedMesh → (ℕ → Bool) → ℕ
next_count forest set = length forest.cells + 3 * count_below set (length forest.cells)

-- a corner that stood before the step has the number that it had
abbrev pub KeepsNumbers : RefinedMesh → RefinedMesh → Type 0
KeepsNumbers old new =
    (c d v w : ℕ) → c < length old.cells → d < length new.cells → v < 4 → w < 4 → corner_name old c v ≡ corner_name new d w →
    corner_number old c v ≡ corner_number new d w

-- the cells of the least set were replaced by their children, and nothing stood against it
pub record IsRefinedBy (old : RefinedMesh) (asked : List ℕ) (new : RefinedMesh) (count : ℕ) : Type 0 where
  pub set : ℕ → Bool
  pub is_set : IsStepSet old asked set
  pub low : first_where (is_lowest old set) (length old.cells) ≡ None
  pub few : next_count old set ≤ 2 ^ 20
  pub round : first_where (has_flat old set) (length old.cells) ≡ None
  pub counted : count ≡ count_below set (length old.cells)
  pub mesh : new.mesh ≡ old.mesh
  pub cells : active_cells new ≡ refined_below set (active_cells old) (length old.cells)
  pub numbers : KeepsNumbers old new

-- the first reason against it
abbrev pub IsRefusal : RefinedMesh → List ℕ → RefineFault → Type 0
IsRefusal old asked (NoSuchCell cell) = IsFirstPast asked (length old.cells) (NoSuchCell cell)
IsRefusal old asked (Level cell) = (set : ℕ → Bool) × (IsStepSet old asked set × (first_where (is_lowest old set) (length old.cells) ≡ Some cell))
IsRefusal old asked Limit =
    (set : ℕ → Bool) × (IsStepSet old asked set × ((first_where (is_lowest old set) (length old.cells) ≡ None) × (2 ^ 20 < next_count old set)))
IsRefusal old asked (Flat cell) =
    (set : ℕ → Bool) × (IsStepSet old asked set
    × ((first_where (is_lowest old set) (length old.cells) ≡ None) × ((next_count old set ≤ 2 ^ 20) × (first_where (has_flat old set) (length old.cells) ≡ Some cell))))
IsRefusal old asked NoMemory = ⊥
