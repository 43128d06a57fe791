-- A set-up has a pattern within its limit.
use Rattle.std.proofs.Common.{◌≤◌, ℕ, List, length}
use Rattle.std.specs.Prelude.{Ok, Err, IfOk}
use Rattle.std.specs.declared.result.Result.{Result}
use Rattle.std.specs.List.{concat}
use Rattle.fem_fixed.specs.Mesh.{Mesh}
use Rattle.problem_read.specs.Entries.{ProblemParts}
use Rattle.mesh_loop.specs.Setup.{MeshProblem, pattern_of}
use Rattle.diagnostics.specs.declared.ending.Ending.{Ending}
use Rattle.diagnostics.specs.Stages.{Then, stops, goes}
use Rattle.hanging_refine.specs.Refined.{RefinedMesh}
use Rattle.system_setup.specs.declared.scheme.Scheme.{Scheme}
use Rattle.system_setup.specs.SetUp.{SetUpOn, IsSetUp}
use Rattle.diagnostics.specs.declared.refusal.Refusal.{Refusal}

-- the last step of two that go well
last_goes : {X Y : Type 0} (P : Y → Type 0) (first : Result X Refusal → Type 0) (next : X → Result Y Refusal → Type 0) (y : Y) →
    ((x : X) → next x (Ok y) → P y) → Then first next (Ok y) → P y
last_goes P first next y h (stops refusal f e) = cc
last_goes P first next y h (goes x f n) = h x n

few_entries : (scheme : Scheme) (parts : Mesh) (problem : ProblemParts) (s : MeshProblem) → IsSetUp scheme parts problem (Ok s) → length (concat (pattern_of s)) ≤ 33554432
unfolding pattern_of
few_entries scheme parts problem s is =
    let P : MeshProblem → Type 0 = λ t. length (concat (pattern_of t)) ≤ 33554432 in
    last_goes P _ _ s (λ mesh. last_goes P _ _ s (λ forest. last_goes P _ _ s (λ table made. made.1))) is

pub few_result : (scheme : Scheme) (parts : Mesh) (problem : ProblemParts) (result : Result MeshProblem Ending) → IfOk result (λ s. IsSetUp scheme parts problem (Ok s)) →
    IfOk result (λ s. length (concat (pattern_of s)) ≤ 33554432)
few_result scheme parts problem (Ok s) is = few_entries scheme parts problem s is
few_result scheme parts problem (Err e) is = tt

few_on : (scheme : Scheme) (ids : List ℕ) (problem : ProblemParts) (forest : RefinedMesh) (s : MeshProblem) → SetUpOn scheme ids problem forest (Ok s) → length (concat (pattern_of s)) ≤ 33554432
unfolding pattern_of
few_on scheme ids problem forest s is =
    let P : MeshProblem → Type 0 = λ t. length (concat (pattern_of t)) ≤ 33554432 in
    last_goes P _ _ s (λ table made. made.1) is

-- the same on a refined mesh
pub few_result_on : (scheme : Scheme) (ids : List ℕ) (problem : ProblemParts) (forest : RefinedMesh) (result : Result MeshProblem Ending) →
    IfOk result (λ s. SetUpOn scheme ids problem forest (Ok s)) → IfOk result (λ s. length (concat (pattern_of s)) ≤ 33554432)
few_result_on scheme ids problem forest (Ok s) is = few_on scheme ids problem forest s is
few_result_on scheme ids problem forest (Err e) is = tt
