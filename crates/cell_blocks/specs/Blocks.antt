-- The block of a visit, and the blocks of a cell.
use Rattle.std.specs.Prelude.{ℕ, ◌+◌, ◌==◌, cond, List, [], ◌∷◌, ◌++◌, length, map, slice_index, slice_index_or, Ok, Err}
use Rattle.std.specs.declared.result.Result.{Result}
use Rattle.std.specs.List.{range_with_len}
use Rattle.fem_fixed.specs.declared.mesh.Point.{Point}
use Rattle.quad_mesh.specs.Faces.{quad_at}
use Rattle.quad_mesh.specs.Geometry.{point_at}
use Rattle.corner_names.specs.Cells.{face_start, face_end}
use Rattle.hanging_refine.specs.Refined.{RefinedMesh, active_at, cell_at}
use Rattle.hanging_refine.specs.Points.{cell_points}
use Rattle.dof_numbers.specs.Dofs.{Numbering}
use Rattle.problem_read.specs.Entries.{ProblemParts}
use Rattle.problem_read.specs.LookUps.{diffusion_on, source_on, robin_on, penalty_in, subdomain_on}
use Rattle.fixed_q1.specs.declared.fault.LocalFault.{LocalFault}
use Rattle.fixed_q1.specs.declared.places.Part.{Part}
use Rattle.fixed_q1.specs.declared.places.Part.TheVariants.{Whole, Half0, Half1}
use Rattle.fixed_q1.specs.LocalForm.{LocalForm}
use Rattle.fixed_q1.specs.Places.{reference_place}
use Rattle.cell_blocks.specs.Forms.{cell_form, face_form, jump_form}
use Rattle.cell_blocks.specs.LocalBlocks.{LocalBlock}
use Rattle.mesh_visits.specs.declared.flags.Flags.{Flags}
use Rattle.mesh_visits.specs.declared.visit.Visit.{Visit}
use Rattle.mesh_visits.specs.declared.visit.Visit.TheVariants.{Cell as OnCell, Boundary as OnBoundary, Interior as OnPart}
use Rattle.mesh_visits.specs.Runs.{subdomain_in, visits_of}

-- what blocks are made of
pub record Given : Type 0 where
  pub forest : RefinedMesh
  pub dofs : Numbering
  pub problem : ProblemParts

abbrev pub material_of : Given → ℕ → ℕ
material_of given cell = (quad_at given.forest.mesh.cells (active_at given.forest cell).coarse).material

-- the vertices of a cell, and their dofs
abbrev pub points_of : Given → ℕ → List Point
points_of given cell = cell_points given.forest.mesh (cell_at given.forest cell)

abbrev pub dofs_of : Given → ℕ → List ℕ
dofs_of given cell = slice_index_or given.dofs.cells cell []

-- the two ends of a face, and their dofs
abbrev pub end_points : Given → ℕ → ℕ → List Point
end_points given cell face = point_at (points_of given cell) (face_start face) ∷ point_at (points_of given cell) (face_end face) ∷ []

abbrev pub end_dofs : Given → ℕ → ℕ → List ℕ
end_dofs given cell face = slice_index (dofs_of given cell) (face_start face) ∷ slice_index (dofs_of given cell) (face_end face) ∷ []

-- with degree 2, the dof of the middle of a face
abbrev pub middle_dof : Given → ℕ → ℕ → ℕ
middle_dof given cell face = slice_index (dofs_of given cell) (4 + face)

-- the dofs of a face: of its two ends, and with degree 2 of its middle
abbrev pub face_dofs : Given → ℕ → ℕ → List ℕ
face_dofs given cell face = end_dofs given cell face ++ cond (given.dofs.degree == 2) (middle_dof given cell face ∷ []) []

-- the ends of a part of an interior face: those of the face that is the part whole, of the cell here where both are
abbrev pub part_ends : Given → ℕ → ℕ → ℕ → ℕ → Part → List Point
part_ends given cell face other other_face Whole = end_points given cell face
part_ends given cell face other other_face Half0 = end_points given other other_face
part_ends given cell face other other_face Half1 = end_points given other other_face

-- the dofs of a visit of a cell; a dof may stand twice
abbrev pub visit_dofs : Given → ℕ → Visit → List ℕ
visit_dofs given cell OnCell = dofs_of given cell
visit_dofs given cell (OnBoundary face id) = face_dofs given cell face
visit_dofs given cell (OnPart face other other_face here there) = dofs_of given cell ++ dofs_of given other

abbrev pub own_form : Given → ℕ → Result LocalForm LocalFault
own_form given cell = cell_form given.dofs.degree (points_of given cell) (diffusion_on given.problem (material_of given cell)) (source_on given.problem (material_of given cell))

abbrev pub part_form : Given → ℕ → ℕ → ℕ → ℕ → Part → Part → Result LocalForm LocalFault
part_form given cell face other other_face here there =
    jump_form given.dofs.degree (points_of given cell) (reference_place face here) (points_of given other) (reference_place other_face there) (part_ends given cell face other other_face here) (penalty_in given.problem)

-- the local form of a visit, or its fault
abbrev pub visit_form : Given → ℕ → Visit → Result LocalForm LocalFault
visit_form given cell OnCell = own_form given cell
visit_form given cell (OnBoundary face id) = Ok (face_form given.dofs.degree (robin_on given.problem id) (end_points given cell face))
visit_form given cell (OnPart face other other_face here there) = part_form given cell face other other_face here there

abbrev pub with_dofs : List ℕ → Result LocalForm LocalFault → Result LocalBlock LocalFault
with_dofs dofs (Ok form) = Ok (record { dofs = dofs; form = form })
with_dofs dofs (Err fault) = Err fault

-- the block of a visit of a cell, or the fault of its local form
unfoldable pub block_of : Given → ℕ → Visit → Result LocalBlock LocalFault
block_of given cell visit = with_dofs (visit_dofs given cell visit) (visit_form given cell visit)

abbrev pub in_front : Result LocalBlock LocalFault → Result (List LocalBlock) LocalFault → Result (List LocalBlock) LocalFault
in_front (Ok block) (Ok blocks) = Ok (block ∷ blocks)
in_front (Ok block) (Err fault) = Err fault
in_front (Err fault) blocks = Err fault

-- all blocks, or the first fault
abbrev pub all_blocks : List (Result LocalBlock LocalFault) → Result (List LocalBlock) LocalFault
all_blocks [] = Ok []
all_blocks (block ∷ blocks) = in_front block (all_blocks blocks)

-- the blocks of these visits of a cell, in order, or the fault of the first visit that has one
unfoldable pub blocks_of : Given → ℕ → List Visit → Result (List LocalBlock) LocalFault
blocks_of given cell visits = all_blocks (map (block_of given cell) visits)

-- the subdomain of an active cell: that of its material
abbrev pub cell_subdomain : Given → ℕ → ℕ
cell_subdomain given cell = subdomain_on given.problem (material_of given cell)

unfoldable pub subdomains_of : Given → List ℕ
subdomains_of given = map (cell_subdomain given) (range_with_len 0 (length given.forest.cells))

-- the visits of a cell in the run of these flags
abbrev pub visits_in : Flags → Given → ℕ → List Visit
visits_in flags given cell = visits_of (subdomain_in (subdomains_of given)) flags given.forest cell

-- the blocks of a cell
abbrev pub cell_blocks : Flags → Given → ℕ → Result (List LocalBlock) LocalFault
cell_blocks flags given cell = blocks_of given cell (visits_in flags given cell)
