-- Laws of set-ups.
use Rattle.std.specs.Prelude.{◌≡◌, ℕ, List, length, All, IfOk}
use Rattle.std.specs.declared.result.Result.{Result}
use Rattle.fem_fixed.specs.Mesh.{Mesh}
use Rattle.problem_read.specs.Entries.{ProblemParts}
use Rattle.mesh_loop.specs.Setup.{MeshProblem}
use Rattle.diagnostics.specs.declared.refusal.Refusal.{Refusal}
use Rattle.hanging_refine.specs.Refined.{RefinedMesh}
use Rattle.system_setup.specs.declared.scheme.Scheme.{Scheme}
use Rattle.system_setup.specs.SetUp.{ForestOf, RefinedFurther, SetUpOn, IsSetUp}
use Rattle.system_laws.specs.Same.{IsSameForest, AgreeOnForests, AgreeOn}

-- two outcomes of the set-up of a mesh and a problem agree
abbrev pub HasOneSystem : Type 0
HasOneSystem =
    (scheme : Scheme) (parts : Mesh) (problem : ProblemParts) (a b : Result MeshProblem Refusal) →
    IsSetUp scheme parts problem a → IsSetUp scheme parts problem b → AgreeOn a b

-- each quadrilateral has four corners
abbrev pub AreQuadrilaterals : Mesh → Type 0
AreQuadrilaterals parts = All (λ spec. length spec.corners ≡ 4) parts.quads

-- a mesh of quadrilaterals and a problem have an outcome of their set-up
abbrev pub HasASetUp : Type 0
HasASetUp = (scheme : Scheme) (parts : Mesh) (problem : ProblemParts) → AreQuadrilaterals parts → (outcome : Result MeshProblem Refusal) × IsSetUp scheme parts problem outcome

-- the meshes of texts of a format are of quadrilaterals
abbrev pub TextsHaveQuadrilaterals : (List ℕ → Mesh → Type 0) → Type 0
TextsHaveQuadrilaterals IsOf = (text : List ℕ) (parts : Mesh) → IsOf text parts → AreQuadrilaterals parts

-- two outcomes of the refinement of a mesh agree
abbrev pub HasOneForest : Type 0
HasOneForest = (parts : Mesh) (problem : ProblemParts) (a b : Result RefinedMesh Refusal) → ForestOf parts problem a → ForestOf parts problem b → AgreeOnForests a b

-- and two of one more step on meshes that are the same
abbrev pub HasOneFinerForest : Type 0
HasOneFinerForest =
    (a b : RefinedMesh) → IsSameForest a b → (cells : List ℕ) (x y : Result RefinedMesh Refusal) → RefinedFurther a cells x → RefinedFurther b cells y → AgreeOnForests x y

-- two outcomes of the set-up on meshes that are the same agree
abbrev pub HasOneSystemOn : Type 0
HasOneSystemOn =
    (a b : RefinedMesh) → IsSameForest a b → (scheme : Scheme) (ids : List ℕ) (problem : ProblemParts) (x y : Result MeshProblem Refusal) →
    SetUpOn scheme ids problem a x → SetUpOn scheme ids problem b y → AgreeOn x y

-- a problem has an outcome of its set-up on a refined mesh
abbrev pub CanBeSetUp : ProblemParts → RefinedMesh → Type 0
CanBeSetUp problem forest = (scheme : Scheme) (ids : List ℕ) → (outcome : Result MeshProblem Refusal) × SetUpOn scheme ids problem forest outcome

-- a step of refinement of these cells has an outcome, on which the problem can be set up
pub record CanBeRefined (problem : ProblemParts) (forest : RefinedMesh) (cells : List ℕ) : Type 0 where
  pub outcome : Result RefinedMesh Refusal
  pub is : RefinedFurther forest cells outcome
  pub goes_on : IfOk outcome (CanBeSetUp problem)

-- the refinement of a mesh of quadrilaterals has an outcome, and a refined mesh can be refined further
pub record HasAForestFor (parts : Mesh) (problem : ProblemParts) : Type 0 where
  pub outcome : Result RefinedMesh Refusal
  pub is : ForestOf parts problem outcome
  pub goes_on : IfOk outcome (λ forest. (cells : List ℕ) → CanBeRefined problem forest cells)

abbrev pub HasAForest : Type 0
HasAForest = (parts : Mesh) (problem : ProblemParts) → AreQuadrilaterals parts → HasAForestFor parts problem
