-- The table of hanging dofs, while it is made.
use Rattle.std.specs.Prelude.{◌≡◌, ℕ, ◌-◌, ◌<◌, ◌⊎◌, ◌==◌, cond, List, length, slice_index_or, slice_set, Some, None}
use Rattle.std.specs.declared.option.Option.{Option}
use Rattle.corner_names.specs.Cells.{face_start, face_end}
use Rattle.affine_constraints.specs.Lines.{AffineLine}
use Rattle.hanging_refine.specs.Refined.{RefinedMesh}
use Rattle.hanging_refine.specs.Sides.{half_end}
use Rattle.dof_numbers.specs.declared.hanging.Masters.{Masters}
use Rattle.dof_numbers.specs.declared.hanging.Masters.TheVariants.{Ends, Points}
use Rattle.dof_numbers.specs.Dofs.{corner_dof, middle_dof}
use Rattle.dof_numbers.specs.Hanging.{IsHanging, half_line, quarter_line}

-- the dofs of which a hanging dof is made
abbrev pub masters_of : ℕ → RefinedMesh → ℕ → ℕ → ℕ → Masters
masters_of degree forest c f h =
    cond (degree == 2) (Points (corner_dof degree forest c (half_end f h)) (middle_dof forest c f) (corner_dof degree forest c (half_end f (1 - h))))
    (Ends (corner_dof degree forest c (face_start f)) (corner_dof degree forest c (face_end f)))

abbrev pub line_of : Masters → AffineLine
line_of (Ends start end) = half_line start end
line_of (Points near middle far) = quarter_line near middle far

abbrev pub masters_at : List (Option Masters) → ℕ → Option Masters
masters_at table dof = slice_index_or table dof None

-- the entry is that of a hanging dof
pub record IsOfFace (degree : ℕ) (forest : RefinedMesh) (dof : ℕ) (e : Masters) : Type 0 where
  pub c : ℕ
  pub f : ℕ
  pub h : ℕ
  pub hanging : IsHanging degree forest dof c f h
  pub masters : e ≡ masters_of degree forest c f h

-- each hanging dof has its masters, and no other dof has any
pub record HoldsMasters (degree : ℕ) (forest : RefinedMesh) (table : List (Option Masters)) : Type 0 where
  pub found : (dof c f h : ℕ) → IsHanging degree forest dof c f h → masters_at table dof ≡ Some (masters_of degree forest c f h)
  pub only : (dof : ℕ) (e : Masters) → masters_at table dof ≡ Some e → IsOfFace degree forest dof e

-- the face is before face j of cell i
abbrev pub IsDone : ℕ → ℕ → ℕ → ℕ → Type 0
IsDone i j c f = (c < i) ⊎ ((c ≡ i) × (f < j))

-- the same of the faces before one
pub record HoldsFirst (degree : ℕ) (forest : RefinedMesh) (i j : ℕ) (table : List (Option Masters)) : Type 0 where
  pub found : (dof c f h : ℕ) → IsDone i j c f → IsHanging degree forest dof c f h → masters_at table dof ≡ Some (masters_of degree forest c f h)
  pub only : (dof : ℕ) (e : Masters) → masters_at table dof ≡ Some e → IsOfFace degree forest dof e

-- what hangs as number h at a face was noted
pub data IsNotedAt (degree : ℕ) (forest : RefinedMesh) (c f h : ℕ) (old new : List (Option Masters)) : Type 0 where
  nothing : ((dof : ℕ) → IsHanging degree forest dof c f h → ⊥) → new ≡ old → IsNotedAt degree forest c f h old new
  noted : (dof : ℕ) → IsHanging degree forest dof c f h → dof < length old → new ≡ slice_set old dof (Some (masters_of degree forest c f h)) → IsNotedAt degree forest c f h old new

-- all that hangs at a face was noted
pub record IsNoted (degree : ℕ) (forest : RefinedMesh) (c f : ℕ) (old new : List (Option Masters)) : Type 0 where
  pub between : List (Option Masters)
  pub first : IsNotedAt degree forest c f 0 old between
  pub second : IsNotedAt degree forest c f 1 between new

-- the dofs of which a hanging dof is made are below the size
abbrev pub IsWithin : ℕ → Masters → Type 0
IsWithin size (Ends start end) = (start < size) × (end < size)
IsWithin size (Points near middle far) = (near < size) × (middle < size) × (far < size)

abbrev pub AreWithin : ℕ → List (Option Masters) → Type 0
AreWithin size table = (dof : ℕ) (e : Masters) → masters_at table dof ≡ Some e → IsWithin size e
