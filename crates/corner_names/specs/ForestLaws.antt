-- Laws of forests.
use Rattle.std.specs.Prelude.{◌≡◌, ℕ, ◌<◌, Bool, true, List}
use Rattle.corner_names.specs.Names.{Cell}
use Rattle.corner_names.specs.Cells.{Corners}
use Rattle.corner_names.specs.Forest.{IsMesh, Covered}
use Rattle.corner_names.specs.Active.{refined_by, has_cell, next_active, coarse_cells, IsForest, IsClosedSet}

-- the coarse cells are a forest, and each step leads from a forest to a forest
pub record StepsKeepForests : Type 0 where
  pub start : (n : ℕ) (m : Corners) (bd : ℕ → ℕ → Bool) → IsForest n m bd (coarse_cells n)
  pub step : (n : ℕ) (m : Corners) (bd : ℕ → ℕ → Bool) (active : List Cell) (chosen : Cell → Bool) → IsMesh n m bd → IsForest n m bd active → IsClosedSet m active chosen →
      IsForest n m bd (next_active chosen active)

-- each face of an active cell of a forest is covered in one of the four ways
abbrev pub FacesAreCovered : Type 0
FacesAreCovered =
    (n : ℕ) (m : Corners) (bd : ℕ → ℕ → Bool) (active : List Cell) → IsMesh n m bd → IsForest n m bd active →
    (x : Cell) (f : ℕ) → has_cell active x ≡ true → f < 4 → Covered n m bd (refined_by active) x f
