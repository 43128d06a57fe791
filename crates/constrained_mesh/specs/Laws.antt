-- Laws of the definitions.
use Rattle.std.specs.Prelude.{◌≡◌, ◌↔◌, ℕ, ◌<◌, ◌≤◌, true, length, Some, Err, IsSome}
use Rattle.hanging_refine.specs.Grown.{IsGrown}
use Rattle.hanging_refine.specs.Refined.{RefinedMesh}
use Rattle.dof_numbers.specs.Dofs.{IsDegree}
use Rattle.problem_read.specs.Entries.{ProblemParts}
use Rattle.problem_read.specs.LookUps.{dirichlet_on}
use Rattle.mesh_visits.specs.Meeting.{is_outer}
use Rattle.mesh_visits.specs.Visits.{id_of}
use Rattle.constrained_mesh.specs.declared.fault.ConstraintFault.TheVariants.{NoMemory}
use Rattle.constrained_mesh.specs.Dirichlet.{lies_on, deciding_id}
use Rattle.constrained_mesh.specs.Nodes.{Nodes}
use Rattle.constrained_mesh.specs.Constrained.{Answer, IsConstrained}

-- a refined mesh and a problem have one answer at most
abbrev pub HasOneAnswer : Type 0
HasOneAnswer = (nodes : Nodes) (problem : ProblemParts) → IsGrown nodes.forest → (a b : Answer) → IsConstrained nodes problem a → IsConstrained nodes problem b → a ≡ b

-- and at least one
abbrev pub HasAnAnswer : Type 0
HasAnAnswer = (nodes : Nodes) (problem : ProblemParts) → IsDegree nodes.degree → IsGrown nodes.forest → (answer : Answer) × IsConstrained nodes problem answer

-- no answer is that memory ran out
abbrev pub NeverForMemory : Type 0
NeverForMemory = (nodes : Nodes) (problem : ProblemParts) → IsConstrained nodes problem (Err NoMemory) → ⊥

-- an active cell has a face on the boundary with this id, and the dof lies on it: at an end, or with degree 2 in its middle
pub record LiesOnFace (degree : ℕ) (forest : RefinedMesh) (dof id : ℕ) : Type 0 where
  pub cell : ℕ
  pub face : ℕ
  pub is_cell : cell < length forest.cells
  pub is_face : face < 4
  pub outer : is_outer forest (cell, face) ≡ true
  pub is_id : id ≡ id_of forest (cell, face)
  pub lies : lies_on degree forest dof (cell, face) ≡ true

-- the dof lies on a boundary face with this id, which has a value; and no such id is less
pub record Decides (degree : ℕ) (forest : RefinedMesh) (problem : ProblemParts) (dof id : ℕ) : Type 0 where
  pub on : LiesOnFace degree forest dof id
  pub has : IsSome (dirichlet_on problem id)
  pub least : (other : ℕ) → LiesOnFace degree forest dof other → IsSome (dirichlet_on problem other) → id ≤ other

-- this id decides the Dirichlet line of a dof; where there is none, the dof has none
abbrev pub LeastIdDecides : Type 0
LeastIdDecides = (degree : ℕ) (forest : RefinedMesh) (problem : ProblemParts) (dof id : ℕ) → (Decides degree forest problem dof id ↔ (deciding_id degree forest problem dof ≡ Some id))
