-- Dirichlet lines: which value the ends of boundary faces have, and with degree 2 their middles.
use Rattle.std.specs.Prelude.{ℕ, Bool, ◌==◌, ◌&&◌, cond, ℤ, min, fold, map, nat_eq, List, [], ◌∷◌, is_some, option_map}
use Rattle.std.specs.declared.option.Option.{Option}
use Rattle.std.specs.declared.option.Option.TheVariants.{Some, None}
use Rattle.std.specs.List.{filter}
use Rattle.corner_names.specs.Cells.{face_start, face_end}
use Rattle.hanging_refine.specs.Refined.{RefinedMesh}
use Rattle.affine_constraints.specs.Lines.{AffineLine}
use Rattle.fem_fixed.specs.Lists.{contains}
use Rattle.dof_numbers.specs.Dofs.{corner_dof, middle_dof}
use Rattle.problem_read.specs.Entries.{ProblemParts}
use Rattle.problem_read.specs.LookUps.{dirichlet_on}
use Rattle.mesh_visits.specs.Meeting.{Face, is_outer, all_faces}
use Rattle.mesh_visits.specs.Visits.{id_of}

-- the least of some numbers
abbrev pub lesser : Option ℕ → ℕ → ℕ
lesser None x = x
lesser (Some y) x = min y x

abbrev pub least : List ℕ → Option ℕ
least xs = fold (λ so_far x. Some (lesser so_far x)) None xs

-- the face is on the boundary, and its id has a value
unfoldable pub has_value : RefinedMesh → ProblemParts → Face → Bool
has_value forest problem face = is_outer forest face && is_some (dirichlet_on problem (id_of forest face))

-- the dofs of a face: those of its ends, and with degree 2 that of its middle
abbrev pub face_dofs : ℕ → RefinedMesh → Face → List ℕ
face_dofs degree forest face =
    corner_dof degree forest face.0 (face_start face.1) ∷ corner_dof degree forest face.0 (face_end face.1) ∷ cond (degree == 2) (middle_dof forest face.0 face.1 ∷ []) []

-- the dof is one of them
unfoldable pub lies_on : ℕ → RefinedMesh → ℕ → Face → Bool
lies_on degree forest dof face = contains nat_eq (face_dofs degree forest face) dof

-- of these faces, the ids of those with a value on which the dof lies
unfoldable pub ids_among : ℕ → RefinedMesh → ProblemParts → List Face → ℕ → List ℕ
ids_among degree forest problem faces dof = map (id_of forest) (filter (λ face. has_value forest problem face && lies_on degree forest dof face) faces)

-- the least id with a value of the faces of active cells on which the dof lies
unfoldable pub deciding_id : ℕ → RefinedMesh → ProblemParts → ℕ → Option ℕ
deciding_id degree forest problem dof = least (ids_among degree forest problem (all_faces forest) dof)

-- the line of a value: no terms, and the value
abbrev pub value_line : ℤ → AffineLine
value_line value = record { terms = []; constant = value }

-- the line of the value that is listed for an id
abbrev pub line_on : ProblemParts → Option ℕ → Option AffineLine
line_on problem None = None
line_on problem (Some id) = option_map value_line (dirichlet_on problem id)

-- the Dirichlet line of a dof, where it has one
abbrev pub dirichlet_line : ℕ → RefinedMesh → ProblemParts → ℕ → Option AffineLine
dirichlet_line degree forest problem dof = line_on problem (deciding_id degree forest problem dof)
