-- A mesh of quadrilaterals and a problem have an outcome of their set-up.
use Rattle.std.proofs.Common.{◌≡◌, refl, subst, ℕ, ◌<◌, ◌≤◌, ⊎_elim, List, Ok, Err}
use Rattle.std.specs.declared.option.Option.{Option}
use Rattle.std.specs.declared.result.Result.{Result}
use Rattle.std.proofs.lemmas.Bool.{cases_lt}
use Rattle.quad_mesh.specs.declared.fault.MeshFault.{MeshFault}
use Rattle.quad_mesh.specs.declared.fault.MeshFault.TheVariants as coarse
use Rattle.fem_fixed.specs.Mesh.{Mesh}
use Rattle.quad_mesh.specs.Mesh.{CoarseMesh, mesh_of}
use Rattle.hanging_refine.specs.Grown.{IsGrown}
use Rattle.hanging_refine.specs.Refined.{RefinedMesh, unrefined}
use Rattle.affine_constraints.specs.Lines.{AffineLine}
use Rattle.problem_read.specs.Entries.{ProblemParts}
use Rattle.sparsity.specs.Coupled.{pairs_of}
use Rattle.mesh_loop.specs.Setup.{MeshProblem, coupled_dofs}
use Rattle.constrained_mesh.specs.Steps.{Outcome, RefinesBy}
use Rattle.diagnostics.specs.declared.refusal.Refusal.{Refusal}
use Rattle.diagnostics.specs.declared.refusal.Refusal.TheVariants.{Limit}
use Rattle.diagnostics.specs.declared.kinds.LimitKind.TheVariants.{Entries}
use Rattle.diagnostics.specs.declared.ending.Ending.TheVariants.{Refused}
use Rattle.system_setup.specs.declared.scheme.Scheme.{Scheme}
use Rattle.system_setup.specs.Endings.{of_mesh}
use Rattle.system_setup.specs.Scheme.{number_of}
use Rattle.diagnostics.specs.Stages.{Then, stops, goes}
use Rattle.system_setup.specs.SetUp.{CoarseOf, RefinedFrom, LinesFor, IsMadeOf, PatternedFor, SetUpOn}
use Rattle.system_laws.specs.Laws.{HasASetUp}
use Rattle.system_laws.proofs.Degrees.{is_degree}
use Rattle.system_laws.proofs.Coarse.{coarse_good, never_memory}
use Rattle.system_laws.proofs.Grown.{start_grown}
use Rattle.system_laws.proofs.Refining.{steps_end, steps_grown, steps_told}
use Rattle.system_laws.proofs.Tables.{numbering_of, of_degree, numbering_is, some_lines}

set_up_of : Scheme → ProblemParts → RefinedMesh → List (Option AffineLine) → MeshProblem
set_up_of scheme problem forest table = record { given = record { forest = forest; dofs = numbering_of (number_of scheme.degree) forest; problem = problem }; closed = table; flags = scheme.flags }

is_made : (scheme : Scheme) (problem : ProblemParts) (forest : RefinedMesh) (table : List (Option AffineLine)) → IsMadeOf scheme forest problem table (set_up_of scheme problem forest table)
unfolding set_up_of
is_made scheme problem forest table = record { forest_is = refl; problem_is = refl; degree_is = of_degree (number_of scheme.degree) forest; numbered = numbering_is (number_of scheme.degree) (is_degree scheme.degree) forest; lines_are = refl; flags_are = refl }

some_pattern : (scheme : Scheme) (problem : ProblemParts) (forest : RefinedMesh) (table : List (Option AffineLine)) → (outcome : Result MeshProblem Refusal) × PatternedFor scheme problem forest table outcome
some_pattern scheme problem forest table =
    let s : MeshProblem = set_up_of scheme problem forest table in
    let R : Type 0 = (outcome : Result MeshProblem Refusal) × PatternedFor scheme problem forest table outcome in
    ⊎_elim
    (λ (h : 33554432 < pairs_of (coupled_dofs s)). let r : R = (Err (Limit Entries), (s, is_made scheme problem forest table, h, refl)) in r)
    (λ (h : pairs_of (coupled_dofs s) ≤ 33554432). let r : R = (Ok s, (is_made scheme problem forest table, h)) in r)
    (cases_lt 33554432 (pairs_of (coupled_dofs s)))

-- what two steps of work give together
both : {X Y : Type 0} (first : Result X Refusal → Type 0) (next : X → Result Y Refusal → Type 0) (outcome : Result X Refusal) → first outcome → ((value : X) → first (Ok value) → (o : Result Y Refusal) × next value o) →
    (o : Result Y Refusal) × Then first next o
both first next (Ok value) w more = let t = more value w in (t.0, goes value w t.1)
both first next (Err refusal) w more = (Err refusal, stops refusal w refl)

pub some_on : (scheme : Scheme) (ids : List ℕ) (problem : ProblemParts) (forest : RefinedMesh) → IsGrown forest → (outcome : Result MeshProblem Refusal) × SetUpOn scheme ids problem forest outcome
some_on scheme ids problem forest g =
    let t = some_lines (number_of scheme.degree) (is_degree scheme.degree) ids problem forest g in
    both (LinesFor (number_of scheme.degree) ids problem forest) (PatternedFor scheme problem forest) t.0 t.1 (λ table w. some_pattern scheme problem forest table)

refined_from : (mesh : CoarseMesh) (problem : ProblemParts) (outcome : Outcome) → RefinesBy problem.steps (unrefined mesh) outcome → (o : Result RefinedMesh Refusal) × RefinedFrom mesh problem o
refined_from mesh problem (Ok forest) w = (Ok forest, w)
refined_from mesh problem (Err fault) w = let r = steps_told problem.steps (unrefined mesh) fault w in (Err r.0, (fault, w, r.1))

refusal_by : (fault : MeshFault) → (fault ≡ coarse.NoMemory → ⊥) → (r : Refusal) × (of_mesh fault ≡ Refused r)
refusal_by (coarse.RepeatedCorner cell) n = (_, refl)
refusal_by (coarse.ZeroArea cell) n = (_, refl)
refusal_by (coarse.NotConvex cell) n = (_, refl)
refusal_by (coarse.EdgeShared cell) n = (_, refl)
refusal_by (coarse.LineOffEdge line) n = (_, refl)
refusal_by (coarse.BoundaryTwice line) n = (_, refl)
refusal_by coarse.NoMemory n = absurd (n refl)

pub coarse_of : (parts : Mesh) (made : Result CoarseMesh MeshFault) → mesh_of parts.points parts.quads parts.lines ≡ made → (o : Result CoarseMesh Refusal) × CoarseOf parts.points parts.quads parts.lines o
coarse_of parts (Ok mesh) e = (Ok mesh, e)
coarse_of parts (Err fault) e =
    let P : MeshFault → Type 0 = λ f. mesh_of parts.points parts.quads parts.lines ≡ Err f in
    let r = refusal_by fault (λ n. never_memory parts.points parts.quads parts.lines (subst P n e)) in (Err r.0, (fault, e, r.1))

pub some : HasASetUp
some scheme parts problem four =
    let c = coarse_of parts (mesh_of parts.points parts.quads parts.lines) refl in
    both (CoarseOf parts.points parts.quads parts.lines) (λ mesh. Then (RefinedFrom mesh problem) (SetUpOn scheme parts.ids problem)) c.0 c.1 (λ mesh m.
    let s = steps_end problem.steps mesh in
    let f = refined_from mesh problem s.0 s.1 in
    both (RefinedFrom mesh problem) (SetUpOn scheme parts.ids problem) f.0 f.1 (λ forest w.
    some_on scheme parts.ids problem forest (steps_grown problem.steps (unrefined mesh) forest (start_grown mesh (coarse_good parts.points parts.quads parts.lines mesh four m)) w)))
