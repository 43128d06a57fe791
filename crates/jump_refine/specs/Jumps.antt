-- The jump of a function across a part of an interior face, from one of its two sides. The function is given by
-- its values at the degrees of freedom of a refined mesh.
use Rattle.std.specs.Prelude.{◌≡◌, ℕ, ◌≤◌, ◌^◌, ◌*◌, List, [], ◌∷◌, ◌++◌, length, map, All, slice_index, slice_index_or, ℤ, pos, ◌*ℤ◌, unsigned_abs, Ok}
use Rattle.std.specs.declared.result.Result.{Result}
use Rattle.fem_fixed.specs.declared.mesh.Point.{Point}
use Rattle.fem_fixed.specs.Rounding.{nearest}
use Rattle.quad_mesh.specs.Geometry.{point_at}
use Rattle.corner_names.specs.Cells.{face_start, face_end}
use Rattle.hanging_refine.specs.Refined.{RefinedMesh, cell_at}
use Rattle.hanging_refine.specs.Points.{cell_points}
use Rattle.dof_numbers.specs.Dofs.{Numbering, IsNumberingOf}
use Rattle.fixed_q1.specs.declared.fault.LocalFault.{LocalFault}
use Rattle.fixed_q1.specs.declared.places.Part.{Part}
use Rattle.fixed_q1.specs.declared.places.Part.TheVariants.{Whole, Half0, Half1}
use Rattle.fixed_q1.specs.CellForm.{total}
use Rattle.fixed_q1.specs.JumpForm.{factors_form, factor_at, part_numbers}
use Rattle.fixed_q1.specs.Places.{reference_place}
use Rattle.mesh_visits.specs.declared.visit.Visit.{Visit}
use Rattle.mesh_visits.specs.declared.visit.Visit.TheVariants.{Cell as OnCell, Boundary as OnBoundary, Interior as OnPart}

-- one value for each dof of degree 1 of the refined mesh, each at most 2 ^ 31 in size
pub record IsFunctionOn (forest : RefinedMesh) (dofs : Numbering) (values : List ℤ) : Type 0 where
  pub numbered : IsNumberingOf forest dofs
  pub degree : dofs.degree ≡ 1
  pub count : length values ≡ dofs.size
  pub small : All (λ value. unsigned_abs value ≤ 2 ^ 31) values

-- the vertices of a cell, and their dofs
abbrev pub points_of : RefinedMesh → ℕ → List Point
points_of forest cell = cell_points forest.mesh (cell_at forest cell)

abbrev pub dofs_of : Numbering → ℕ → List ℕ
dofs_of dofs cell = slice_index_or dofs.cells cell []

-- the two ends of a face of a cell
abbrev pub end_points : RefinedMesh → ℕ → ℕ → List Point
end_points forest cell face = point_at (points_of forest cell) (face_start face) ∷ point_at (points_of forest cell) (face_end face) ∷ []

-- the ends of a part: those of the face that is the part whole, of the cell here where both are
abbrev pub part_ends : RefinedMesh → ℕ → ℕ → ℕ → ℕ → Part → List Point
part_ends forest cell face other other_face Whole = end_points forest cell face
part_ends forest cell face other other_face Half0 = end_points forest other other_face
part_ends forest cell face other other_face Half1 = end_points forest other other_face

-- the factors of the eight local functions of a part of an interior face, or their fault; a visit of a cell itself
-- or of a face at the boundary has none
unfoldable pub part_factors : RefinedMesh → ℕ → Visit → Result (List ℤ) LocalFault
part_factors forest cell OnCell = Ok []
part_factors forest cell (OnBoundary face id) = Ok []
part_factors forest cell (OnPart face other other_face here there) =
    factors_form (points_of forest cell) (reference_place face here) (points_of forest other) (reference_place other_face there) (part_ends forest cell face other other_face here)

-- the dofs of the eight local functions, those here and then those there
abbrev pub part_dofs : Numbering → ℕ → Visit → List ℕ
part_dofs dofs cell OnCell = []
part_dofs dofs cell (OnBoundary face id) = []
part_dofs dofs cell (OnPart face other other_face here there) = dofs_of dofs cell ++ dofs_of dofs other

abbrev pub value_at : List ℤ → ℕ → ℤ
value_at values dof = slice_index_or values dof (pos 0)

-- the sum of each factor times the value at its dof
unfoldable pub weighted_sum : List ℤ → List ℕ → List ℤ → ℤ
weighted_sum factors dofs values = total (map (λ k. factor_at factors k *ℤ value_at values (slice_index dofs k)) part_numbers)

-- the jump, in ticks, squared
unfoldable pub squared_jump : List ℤ → List ℕ → List ℤ → ℕ
squared_jump factors dofs values =
    let jump = nearest (weighted_sum factors dofs values) (pos 65536) in
    unsigned_abs jump * unsigned_abs jump
