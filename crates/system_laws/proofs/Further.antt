-- Refined meshes of a mesh and a problem, and one more step on them.
use Rattle.std.proofs.Common.{◌≡◌, refl, sym, ap, subst, ℕ, List, [], ◌∷◌, Ok, Err, inl, inr}
use Rattle.std.specs.Prelude.{IfOk}
use Rattle.std.specs.declared.result.Result.{Result}
use Rattle.fem_fixed.specs.Mesh.{Mesh}
use Rattle.quad_mesh.specs.Mesh.{CoarseMesh, mesh_of}
use Rattle.hanging_refine.specs.Grown.{IsGrown}
use Rattle.hanging_refine.specs.Refined.{RefinedMesh, unrefined}
use Rattle.problem_read.specs.Entries.{ProblemParts}
use Rattle.constrained_mesh.specs.Steps.{Outcome, refused, refined, RefinesBy}
use Rattle.diagnostics.specs.declared.refusal.Refusal.{Refusal}
use Rattle.diagnostics.specs.Stages.{stops, goes}
use Rattle.system_setup.specs.Endings.{of_mesh, of_refining}
use Rattle.system_setup.specs.SetUp.{CoarseOf, RefinedFrom}
use Rattle.system_laws.specs.Same.{IsSameForest, AgreeOnForests}
use Rattle.system_laws.specs.Laws.{AreQuadrilaterals, HasOneForest, HasOneFinerForest, HasOneSystemOn, CanBeRefined, HasAForestFor, HasAForest}
use Rattle.system_laws.proofs.Coarse.{coarse_good}
use Rattle.system_laws.proofs.Grown.{start_grown, step_grown}
use Rattle.system_laws.proofs.One.{one_on, one_refusal, same_coarse_fault, same_coarse_mesh, not_coarse}
use Rattle.system_laws.proofs.Refining.{IsNodeNumbered, steps_end, step_ends, steps_grown, steps_told}
use Rattle.system_laws.proofs.Some.{some_on, coarse_of}
use Rattle.system_laws.proofs.Steps.{same_steps}

told : (x y : Result RefinedMesh Refusal) (r q : Refusal) → x ≡ Err r → y ≡ Err q → r ≡ q → AgreeOnForests x y
told x y r q e f s =
    let P : Result RefinedMesh Refusal → Type 0 = λ o. AgreeOnForests o y in
    let Q : Result RefinedMesh Refusal → Type 0 = λ o. AgreeOnForests (Err r) o in
    subst P (sym e) (subst Q (sym f) s)

same : (forest : RefinedMesh) → IsSameForest forest forest
same forest = record { mesh = refl; cells = refl }

-- the steps of a problem on one coarse mesh
one_from : (mesh : CoarseMesh) (problem : ProblemParts) (x y : Result RefinedMesh Refusal) → RefinedFrom mesh problem x → RefinedFrom mesh problem y → AgreeOnForests x y
one_from mesh problem (Ok a) (Ok b) w v = same_steps problem.steps (unrefined mesh) (unrefined mesh) (same (unrefined mesh)) (Ok a) (Ok b) w v
one_from mesh problem (Ok a) (Err q) w v = absurd (same_steps problem.steps (unrefined mesh) (unrefined mesh) (same (unrefined mesh)) (Ok a) (Err v.0) w v.1)
one_from mesh problem (Err r) (Ok b) w v = absurd (same_steps problem.steps (unrefined mesh) (unrefined mesh) (same (unrefined mesh)) (Err w.0) (Ok b) w.1 v)
one_from mesh problem (Err r) (Err q) w v =
    let s : w.0 ≡ v.0 = same_steps problem.steps (unrefined mesh) (unrefined mesh) (same (unrefined mesh)) (Err w.0) (Err v.0) w.1 v.1 in
    one_refusal (of_refining w.0) (of_refining v.0) r q (ap of_refining s) w.2 v.2

pub one_forest : HasOneForest
one_forest parts problem x y (stops r w e) (stops q v f) =
    told x y r q e f (one_refusal (of_mesh w.0) (of_mesh v.0) r q (ap of_mesh (same_coarse_fault (mesh_of parts.points parts.quads parts.lines) w.0 v.0 w.1 v.1)) w.2 v.2)
one_forest parts problem x y (stops r w e) (goes n v k) = absurd (not_coarse (mesh_of parts.points parts.quads parts.lines) n w.0 v w.1)
one_forest parts problem x y (goes m w h) (stops q v f) = absurd (not_coarse (mesh_of parts.points parts.quads parts.lines) m v.0 w v.1)
one_forest parts problem x y (goes m w h) (goes n v k) =
    let P : CoarseMesh → Type 0 = λ mesh. RefinedFrom mesh problem x in
    one_from n problem x y (subst P (same_coarse_mesh (mesh_of parts.points parts.quads parts.lines) m n w v) h) k

-- one more step
pub one_finer : HasOneFinerForest
one_finer a b s cells (Ok c) (Ok d) w v = same_steps (cells ∷ []) a b s (Ok c) (Ok d) (refined c w.0 w.1 refl) (refined d v.0 v.1 refl)
one_finer a b s cells (Ok c) (Err q) w v = absurd (same_steps (cells ∷ []) a b s (Ok c) (Err v.0) (refined c w.0 w.1 refl) (refused v.0 v.1 refl))
one_finer a b s cells (Err r) (Ok d) w v = absurd (same_steps (cells ∷ []) a b s (Err w.0) (Ok d) (refused w.0 w.1 refl) (refined d v.0 v.1 refl))
one_finer a b s cells (Err r) (Err q) w v =
    let f : w.0 ≡ v.0 = same_steps (cells ∷ []) a b s (Err w.0) (Err v.0) (refused w.0 w.1 refl) (refused v.0 v.1 refl) in
    one_refusal (of_refining w.0) (of_refining v.0) r q (ap of_refining f) w.2 v.2

pub one_system_on : HasOneSystemOn
one_system_on a b s scheme ids problem x y w v = one_on a b s scheme ids problem x y w v

-- a mesh with numbers of nodes can be refined
can_be_refined : (problem : ProblemParts) (forest : RefinedMesh) (cells : List ℕ) → IsGrown forest → IsNodeNumbered forest → CanBeRefined problem forest cells
can_be_refined problem forest cells g s = elim (step_ends forest cells s) [
  | inl stopped ↦ (let r = steps_told (cells ∷ []) forest stopped.0 (refused stopped.0 stopped.1 refl) in record { outcome = Err r.0; is = (stopped.0, stopped.1, r.1); goes_on = tt })
  | inr done ↦ record {
    outcome = Ok done.0;
    is = (done.1, done.2);
    goes_on = λ scheme ids. some_on scheme ids problem done.0 (step_grown forest cells done.0 done.1 g done.2);
  }
]

forest_from : (parts : Mesh) (problem : ProblemParts) (mesh : CoarseMesh) → mesh_of parts.points parts.quads parts.lines ≡ Ok mesh → IsGrown (unrefined mesh) → (outcome : Outcome) →
    RefinesBy problem.steps (unrefined mesh) outcome → IfOk outcome IsNodeNumbered → HasAForestFor parts problem
forest_from parts problem mesh m g (Ok forest) w s = record {
  outcome = Ok forest;
  is = goes mesh m w;
  goes_on = λ cells. can_be_refined problem forest cells (steps_grown problem.steps (unrefined mesh) forest g w) s;
}
forest_from parts problem mesh m g (Err fault) w s =
    (let r = steps_told problem.steps (unrefined mesh) fault w in record { outcome = Err r.0; is = goes mesh m (fault, w, r.1); goes_on = tt })

of_coarse : (parts : Mesh) (problem : ProblemParts) (outcome : Result CoarseMesh Refusal) → AreQuadrilaterals parts → CoarseOf parts.points parts.quads parts.lines outcome → HasAForestFor parts problem
of_coarse parts problem (Ok mesh) four m =
    let t = steps_end problem.steps mesh in
    forest_from parts problem mesh m (start_grown mesh (coarse_good parts.points parts.quads parts.lines mesh four m)) t.0 t.1 t.2
of_coarse parts problem (Err refusal) four m = record { outcome = Err refusal; is = stops refusal m refl; goes_on = tt }

pub some_forest : HasAForest
some_forest parts problem four =
    let c = coarse_of parts (mesh_of parts.points parts.quads parts.lines) refl in
    of_coarse parts problem c.0 four c.1
