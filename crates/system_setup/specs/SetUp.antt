-- The set-up of the system of a mesh and a problem, step after step.
use Rattle.std.specs.Prelude.{◌≡◌, ℕ, ◌<◌, ◌≤◌, List, length, Ok, Err}
use Rattle.std.specs.declared.option.Option.{Option}
use Rattle.std.specs.declared.result.Result.{Result}
use Rattle.fem_fixed.specs.Mesh.{Mesh}
use Rattle.fem_fixed.specs.declared.mesh.Point.{Point}
use Rattle.fem_fixed.specs.declared.mesh.QuadSpec.{QuadSpec}
use Rattle.fem_fixed.specs.declared.mesh.LineSpec.{LineSpec}
use Rattle.quad_mesh.specs.Mesh.{CoarseMesh, mesh_of}
use Rattle.hanging_refine.specs.Refined.{RefinedMesh, unrefined}
use Rattle.hanging_refine.specs.Refinement.{IsRefinedBy, IsRefusal}
use Rattle.affine_constraints.specs.Lines.{AffineLine, lines_in}
use Rattle.dof_numbers.specs.Dofs.{IsNumberingOf}
use Rattle.problem_read.specs.Entries.{ProblemParts}
use Rattle.constrained_mesh.specs.Steps.{RefinesBy}
use Rattle.constrained_mesh.specs.MeshLines.{dof_count}
use Rattle.constrained_mesh.specs.Nodes.{Nodes}
use Rattle.constrained_mesh.specs.Constrained.{IsConstrained}
use Rattle.sparsity.specs.Coupled.{pairs_of}
use Rattle.mesh_loop.specs.Setup.{MeshProblem, coupled_dofs}
use Rattle.diagnostics.specs.declared.refusal.Refusal.{Refusal}
use Rattle.diagnostics.specs.declared.refusal.Refusal.TheVariants.{Limit}
use Rattle.diagnostics.specs.declared.kinds.LimitKind.TheVariants.{Entries}
use Rattle.system_setup.specs.declared.scheme.Scheme.{Scheme}
use Rattle.system_setup.specs.Endings.{of_mesh, of_refining, of_constraints}
use Rattle.system_setup.specs.Scheme.{number_of}
use Rattle.diagnostics.specs.Stages.{Then, Says}

-- the coarse mesh, or its first fault
abbrev pub CoarseOf : List Point → List QuadSpec → List LineSpec → Result CoarseMesh Refusal → Type 0
CoarseOf points quads lines (Ok mesh) = mesh_of points quads lines ≡ Ok mesh
CoarseOf points quads lines (Err refusal) = Says of_mesh (λ fault. mesh_of points quads lines ≡ Err fault) refusal

-- the mesh after the problem's steps of refinement, or the fault of the first that is refused
abbrev pub RefinedFrom : CoarseMesh → ProblemParts → Result RefinedMesh Refusal → Type 0
RefinedFrom mesh problem (Ok forest) = RefinesBy problem.steps (unrefined mesh) (Ok forest)
RefinedFrom mesh problem (Err refusal) = Says of_refining (λ fault. RefinesBy problem.steps (unrefined mesh) (Err fault)) refusal

-- the refined mesh of a mesh and a problem
abbrev pub ForestOf : Mesh → ProblemParts → Result RefinedMesh Refusal → Type 0
ForestOf parts problem = Then (CoarseOf parts.points parts.quads parts.lines) (λ mesh. RefinedFrom mesh problem)

-- the mesh after one more step of refinement, of these cells, or why it is refused
abbrev pub RefinedFurther : RefinedMesh → List ℕ → Result RefinedMesh Refusal → Type 0
RefinedFurther forest cells (Ok finer) = (count : ℕ) × IsRefinedBy forest cells finer count
RefinedFurther forest cells (Err refusal) = Says of_refining (λ fault. IsRefusal forest cells fault) refusal

-- the node ids of a mesh text, by position, and the refined mesh, with dofs of this degree
abbrev pub nodes_of : ℕ → List ℕ → RefinedMesh → Nodes
nodes_of degree ids forest = record { ids = ids; degree = degree; forest = forest }

-- the closed lines of dofs of this degree, a place for each dof, or the first fault of the constraints
abbrev pub LinesFor : ℕ → List ℕ → ProblemParts → RefinedMesh → Result (List (Option AffineLine)) Refusal → Type 0
LinesFor degree ids problem forest (Ok table) = (length table ≡ dof_count degree forest) × IsConstrained (nodes_of degree ids forest) problem (Ok (lines_in table))
LinesFor degree ids problem forest (Err refusal) = Says of_constraints (λ fault. IsConstrained (nodes_of degree ids forest) problem (Err fault)) refusal

-- the set-up is made of these
pub record IsMadeOf (scheme : Scheme) (forest : RefinedMesh) (problem : ProblemParts) (table : List (Option AffineLine)) (s : MeshProblem) : Type 0 where
  pub forest_is : s.given.forest ≡ forest
  pub problem_is : s.given.problem ≡ problem
  pub degree_is : s.given.dofs.degree ≡ number_of scheme.degree
  pub numbered : IsNumberingOf forest s.given.dofs
  pub lines_are : s.closed ≡ table
  pub flags_are : s.flags ≡ scheme.flags

-- the set-up, or that its pattern has too many entries
abbrev pub PatternedFor : Scheme → ProblemParts → RefinedMesh → List (Option AffineLine) → Result MeshProblem Refusal → Type 0
PatternedFor scheme problem forest table (Ok s) = IsMadeOf scheme forest problem table s × (pairs_of (coupled_dofs s) ≤ 33554432)
PatternedFor scheme problem forest table (Err refusal) =
    (s : MeshProblem) × IsMadeOf scheme forest problem table s × (33554432 < pairs_of (coupled_dofs s)) × (refusal ≡ Limit Entries)

-- of a refined mesh
abbrev pub SetUpOn : Scheme → List ℕ → ProblemParts → RefinedMesh → Result MeshProblem Refusal → Type 0
SetUpOn scheme ids problem forest = Then (LinesFor (number_of scheme.degree) ids problem forest) (PatternedFor scheme problem forest)

-- of a mesh and a problem: the coarse mesh, its refinement, the lines, and the pattern
abbrev pub IsSetUp : Scheme → Mesh → ProblemParts → Result MeshProblem Refusal → Type 0
IsSetUp scheme parts problem = Then (CoarseOf parts.points parts.quads parts.lines) (λ mesh. Then (RefinedFrom mesh problem) (SetUpOn scheme parts.ids problem))
