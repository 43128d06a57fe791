-- Which faces of active cells share a part, and which lie at the boundary, by the names of corners.
use Rattle.std.specs.Prelude.{ℕ, ◌<◌, length}
use Rattle.corner_names.specs.Forest.{OnBoundary, MeetAt, IsHalfAt}
use Rattle.hanging_refine.specs.Coarse.{corner_at, on_boundary}
use Rattle.hanging_refine.specs.Refined.{RefinedMesh, cell_at}
use Rattle.hanging_refine.specs.Sides.{half_end, IsSameFace}
use Rattle.mesh_visits.specs.Meeting.{Face, AreApart}

abbrev pub IsFaceOf : RefinedMesh → Face → Type 0
IsFaceOf forest face = (face.0 < length forest.cells) × (face.1 < 4)

-- the face is part of a boundary edge of the coarse mesh
abbrev pub IsOuter : RefinedMesh → Face → Type 0
IsOuter forest face = OnBoundary (on_boundary forest.mesh) (cell_at forest face.0) face.1

-- another face is the same two corners
abbrev pub IsOtherSide : RefinedMesh → Face → Face → Type 0
IsOtherSide forest a b = AreApart a b × IsSameFace (corner_at forest.mesh) (cell_at forest a.0) a.1 (cell_at forest b.0) b.1

-- the face is this half of the other
abbrev pub IsHalfOf : RefinedMesh → ℕ → Face → Face → Type 0
IsHalfOf forest half small large =
    IsHalfAt (corner_at forest.mesh) (cell_at forest small.0) small.1 (cell_at forest large.0) large.1 (half_end large.1 half)

-- two faces share a part of the interior: they are two, and they are one edge or one is a half of the other
abbrev pub SharePart : RefinedMesh → Face → Face → Type 0
SharePart forest a b = AreApart a b × MeetAt (corner_at forest.mesh) (cell_at forest a.0) a.1 (cell_at forest b.0) b.1
