-- The table of the least ids, while it is made.
use Rattle.std.specs.Prelude.{◌≡◌, ℕ, ◌<◌, List, length, slice_index_or, None}
use Rattle.std.specs.declared.option.Option.{Option}
use Rattle.hanging_refine.specs.Refined.{RefinedMesh}
use Rattle.problem_read.specs.Entries.{ProblemParts}
use Rattle.mesh_visits.specs.Meeting.{Face}
use Rattle.constrained_mesh.specs.Dirichlet.{least, ids_among}

-- each dof has the least id with a value of these faces
unfoldable pub HoldsLeast : ℕ → RefinedMesh → ProblemParts → List Face → List (Option ℕ) → Type 0
HoldsLeast degree forest problem faces ids = (dof : ℕ) → dof < length ids → slice_index_or ids dof None ≡ least (ids_among degree forest problem faces dof)
