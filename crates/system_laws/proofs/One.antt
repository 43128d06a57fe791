-- A mesh and a problem have one system at most.
use Rattle.std.proofs.Common.{◌≡◌, ◌∙◌, sym, ap, refl, subst, ℕ, ◌+◌, ◌<◌, ◌≤◌, inl, inr, ⊎_elim, List, [], length, slice_index_or, Ok, Err, arith}
use Rattle.std.specs.declared.option.Option.{Option}
use Rattle.std.specs.declared.result.Result.{Result}
use Rattle.std.specs.Prelude.{◌-◌}
use Rattle.std.proofs.lemmas.Bool.{cases_lt}
use Rattle.std.proofs.lemmas.List.{ext_get_or}
use Rattle.quad_mesh.specs.declared.fault.MeshFault.{MeshFault}
use Rattle.quad_mesh.specs.Mesh.{CoarseMesh, mesh_of}
use Rattle.hanging_refine.specs.Refined.{RefinedMesh, active_cells, unrefined}
use Rattle.affine_constraints.specs.Lines.{AffineLine}
use Rattle.dof_numbers.specs.Dofs.{IsDegree, Numbering, IsNumberingOf, names_each, cell_dof, corner_dof}
use Rattle.constrained_mesh.specs.MeshLines.{dof_count}
use Rattle.problem_read.specs.Entries.{ProblemParts}
use Rattle.sparsity.specs.Coupled.{pairs_of}
use Rattle.mesh_loop.specs.Setup.{MeshProblem, coupled_dofs}
use Rattle.diagnostics.specs.declared.refusal.Refusal.{Refusal}
use Rattle.diagnostics.specs.declared.ending.Ending.{Ending}
use Rattle.diagnostics.specs.declared.ending.Ending.TheVariants.{Refused}
use Rattle.system_setup.specs.declared.scheme.Scheme.{Scheme}
use Rattle.system_setup.specs.Endings.{of_mesh, of_refining}
use Rattle.system_setup.specs.Scheme.{number_of}
use Rattle.diagnostics.specs.Stages.{Then, stops, goes}
use Rattle.system_setup.specs.SetUp.{RefinedFrom, IsMadeOf, PatternedFor, SetUpOn}
use Rattle.system_laws.specs.Same.{IsSameForest, AgreeOn}
use Rattle.system_laws.specs.Laws.{HasOneSystem}
use Rattle.system_laws.proofs.Degrees.{is_degree}
use Rattle.system_laws.proofs.Forests.{same_count}
use Rattle.system_laws.proofs.Lines.{same_size, same_corner_dof, same_middle_dof, same_centre_dof, same_lines}
use Rattle.system_laws.proofs.Steps.{same_steps}
use Rattle.system_laws.proofs.System.{IsSameSetUp, one_system, same_couplings}

-- the dofs in the places of a cell: of a vertex, and with degree 2 of the middle of a face, and of the centre
same_vertex : (degree : ℕ) (a b : RefinedMesh) → IsSameForest a b → (d e : Numbering) → d.degree ≡ degree → e.degree ≡ degree → IsNumberingOf a d → IsNumberingOf b e → (c v : ℕ) → c < length a.cells → v < 4 → cell_dof d c v ≡ cell_dof e c v
same_vertex degree a b s d e x y n m c v h k =
    let l = same_count a b s in
    n.cells c v h k ∙ ap (λ j. corner_dof j a c v) x ∙ ap (λ dof. dof c v) (same_corner_dof degree a b s) ∙ sym (m.cells c v (omega arith) k ∙ ap (λ j. corner_dof j b c v) y)

same_middle : (a b : RefinedMesh) → IsSameForest a b → (d e : Numbering) → d.degree ≡ 2 → e.degree ≡ 2 → IsNumberingOf a d → IsNumberingOf b e → (c f : ℕ) → c < length a.cells → f < 4 → cell_dof d c (4 + f) ≡ cell_dof e c (4 + f)
same_middle a b s d e x y n m c f h k = let l = same_count a b s in n.middles c f x h k ∙ ap (λ dof. dof c f) (same_middle_dof a b s) ∙ sym (m.middles c f y (omega arith) k)

same_centre : (a b : RefinedMesh) → IsSameForest a b → (d e : Numbering) → d.degree ≡ 2 → e.degree ≡ 2 → IsNumberingOf a d → IsNumberingOf b e → (c : ℕ) → c < length a.cells → cell_dof d c 8 ≡ cell_dof e c 8
same_centre a b s d e x y n m c h = let l = same_count a b s in n.centres c x h ∙ ap (λ dof. dof c) (same_centre_dof a b s) ∙ sym (m.centres c y (omega arith))

same_place : (a b : RefinedMesh) → IsSameForest a b → (d e : Numbering) → d.degree ≡ 2 → e.degree ≡ 2 → IsNumberingOf a d → IsNumberingOf b e → (c place : ℕ) → c < length a.cells → place < 9 → cell_dof d c place ≡ cell_dof e c place
same_place a b s d e x y n m c place h k =
    let P : ℕ → Type 0 = λ p. cell_dof d c p ≡ cell_dof e c p in
    ⊎_elim (λ (i : place < 4). same_vertex 2 a b s d e x y n m c place h i)
    (λ (i : 4 ≤ place). ⊎_elim
    (λ (j : place < 8). let w : 4 + (place - 4) ≡ place = omega arith in subst P w (same_middle a b s d e x y n m c (place - 4) h (omega arith)))
    (λ (j : 8 ≤ place). let w : 8 ≡ place = omega arith in subst P w (same_centre a b s d e x y n m c h))
    (cases_lt place 8))
    (cases_lt place 4)

same_dof : (degree : ℕ) → IsDegree degree → (a b : RefinedMesh) → IsSameForest a b → (d e : Numbering) → d.degree ≡ degree → e.degree ≡ degree → IsNumberingOf a d → IsNumberingOf b e → (c place : ℕ) → c < length a.cells → place < names_each degree →
    cell_dof d c place ≡ cell_dof e c place
same_dof degree (inl one) a b s d e x y n m c place h k = (let i : place < names_each 1 = subst (λ j. place < names_each j) one k in same_vertex degree a b s d e x y n m c place h i)
same_dof degree (inr two) a b s d e x y n m c place h k = (let i : place < names_each 2 = subst (λ j. place < names_each j) two k in same_place a b s d e (x ∙ two) (y ∙ two) n m c place h i)

same_row : (degree : ℕ) → IsDegree degree → (a b : RefinedMesh) → IsSameForest a b → (d e : Numbering) → d.degree ≡ degree → e.degree ≡ degree → IsNumberingOf a d → IsNumberingOf b e → (c : ℕ) → c < length a.cells →
    slice_index_or d.cells c [] ≡ slice_index_or e.cells c []
same_row degree is a b s d e x y n m c h =
    let l = same_count a b s in let ln = n.count in let lm = m.count in
    let all : length (slice_index_or d.cells c []) ≡ names_each degree = n.each c [] (omega arith) ∙ ap names_each x in
    let too : length (slice_index_or e.cells c []) ≡ names_each degree = m.each c [] (omega arith) ∙ ap names_each y in
    ext_get_or 0 (slice_index_or d.cells c []) (slice_index_or e.cells c []) (all ∙ sym too)
    (λ place k. same_dof degree is a b s d e x y n m c place h (subst (λ j. place < j) all k))

pub same_rows : (degree : ℕ) → IsDegree degree → (a b : RefinedMesh) → IsSameForest a b → (d e : Numbering) → d.degree ≡ degree → e.degree ≡ degree → IsNumberingOf a d → IsNumberingOf b e → d.cells ≡ e.cells
same_rows degree is a b s d e x y n m =
    ext_get_or [] d.cells e.cells (n.count ∙ same_count a b s ∙ sym m.count) (λ c h. same_row degree is a b s d e x y n m c (let l = n.count in omega arith))

same_forest : (a b c d : RefinedMesh) → c ≡ a → IsSameForest a b → d ≡ b → IsSameForest c d
same_forest a b c d e s f = record {
  mesh = ap (λ (m : RefinedMesh). m.mesh) e ∙ s.mesh ∙ sym (ap (λ (m : RefinedMesh). m.mesh) f);
  cells = ap active_cells e ∙ s.cells ∙ sym (ap active_cells f);
}

same_made : (a b : RefinedMesh) → IsSameForest a b → (scheme : Scheme) (problem : ProblemParts) (table : List (Option AffineLine)) (s t : MeshProblem) → IsMadeOf scheme a problem table s → IsMadeOf scheme b problem table t → IsSameSetUp s t
same_made a b same scheme problem table s t m n = record {
  given = record {
    forest = same_forest a b s.given.forest t.given.forest m.forest_is same n.forest_is;
    degree = m.degree_is ∙ sym n.degree_is;
    dofs = same_rows (number_of scheme.degree) (is_degree scheme.degree) a b same s.given.dofs t.given.dofs m.degree_is n.degree_is m.numbered n.numbered;
    problem = m.problem_is ∙ sym n.problem_is;
  };
  size = m.numbered.size ∙ ap (λ degree. dof_count degree a) (m.degree_is ∙ sym n.degree_is) ∙ same_size t.given.dofs.degree a b same ∙ sym n.numbered.size;
  closed = m.lines_are ∙ sym n.lines_are;
  flags = m.flags_are ∙ sym n.flags_are;
}

not_both : (n m k : ℕ) → n ≤ k → k < m → n ≡ m → ⊥
not_both n m k h l e = omega arith

one_pattern : (a b : RefinedMesh) → IsSameForest a b → (scheme : Scheme) (problem : ProblemParts) (table : List (Option AffineLine)) (x y : Result MeshProblem Refusal) →
    PatternedFor scheme problem a table x → PatternedFor scheme problem b table y → AgreeOn x y
one_pattern a b same scheme problem table (Ok s) (Ok t) w v = one_system s t (same_made a b same scheme problem table s t w.0 v.0)
one_pattern a b same scheme problem table (Ok s) (Err q) w v =
    not_both (pairs_of (coupled_dofs s)) (pairs_of (coupled_dofs v.0)) 33554432 w.1 v.2 (ap pairs_of (same_couplings s v.0 (same_made a b same scheme problem table s v.0 w.0 v.1)))
one_pattern a b same scheme problem table (Err r) (Ok t) w v =
    not_both (pairs_of (coupled_dofs t)) (pairs_of (coupled_dofs w.0)) 33554432 v.1 w.2 (sym (ap pairs_of (same_couplings w.0 t (same_made a b same scheme problem table w.0 t w.1 v.0))))
one_pattern a b same scheme problem table (Err r) (Err q) w v = w.3 ∙ sym v.3

told : (x y : Result MeshProblem Refusal) (r q : Refusal) → x ≡ Err r → y ≡ Err q → r ≡ q → AgreeOn x y
told x y r q e f s = (let P : Result MeshProblem Refusal → Type 0 = λ o. AgreeOn o y in let Q : Result MeshProblem Refusal → Type 0 = λ o. AgreeOn (Err r) o in subst P (sym e) (subst Q (sym f) s))

abbrev pub Lined : Type 0
Lined = Result (List (Option AffineLine)) Refusal

same_refusal : (r q : Refusal) → (let o : Lined = Err r in o) ≡ Err q → r ≡ q
same_refusal r q e = cc

same_value : (t u : List (Option AffineLine)) → (let o : Lined = Ok t in o) ≡ Ok u → t ≡ u
same_value t u e = cc

no_value : (t : List (Option AffineLine)) (r : Refusal) → (let o : Lined = Ok t in o) ≡ Err r → ⊥
no_value t r e = cc

pub one_on : (a b : RefinedMesh) → IsSameForest a b → (scheme : Scheme) (ids : List ℕ) (problem : ProblemParts) (x y : Result MeshProblem Refusal) → SetUpOn scheme ids problem a x → SetUpOn scheme ids problem b y → AgreeOn x y
one_on a b s scheme ids problem x y (stops r w e) (stops q v f) = told x y r q e f (same_refusal r q (same_lines (number_of scheme.degree) a b s ids problem (Err r) (Err q) w v))
one_on a b s scheme ids problem x y (stops r w e) (goes u v k) = absurd (no_value u r (sym (same_lines (number_of scheme.degree) a b s ids problem (Err r) (Ok u) w v)))
one_on a b s scheme ids problem x y (goes t w h) (stops q v f) = absurd (no_value t q (same_lines (number_of scheme.degree) a b s ids problem (Ok t) (Err q) w v))
one_on a b s scheme ids problem x y (goes t w h) (goes u v k) =
    let P : List (Option AffineLine) → Type 0 = λ table. PatternedFor scheme problem a table x in
    one_pattern a b s scheme problem u x y (subst P (same_value t u (same_lines (number_of scheme.degree) a b s ids problem (Ok t) (Ok u) w v)) h) k

-- one fault has one refusal
pub one_refusal : (e f : Ending) (r q : Refusal) → e ≡ f → e ≡ Refused r → f ≡ Refused q → r ≡ q
one_refusal e f r q s h k = let t : Refused r ≡ Refused q = sym h ∙ s ∙ k in cc

one_from : (mesh : CoarseMesh) (scheme : Scheme) (ids : List ℕ) (problem : ProblemParts) (x y : Result MeshProblem Refusal) →
    Then (RefinedFrom mesh problem) (SetUpOn scheme ids problem) x → Then (RefinedFrom mesh problem) (SetUpOn scheme ids problem) y → AgreeOn x y
one_from mesh scheme ids problem x y (stops r w e) (stops q v f) =
    let s : w.0 ≡ v.0 = same_steps problem.steps (unrefined mesh) (unrefined mesh) (record { mesh = refl; cells = refl }) (Err w.0) (Err v.0) w.1 v.1 in
    told x y r q e f (one_refusal (of_refining w.0) (of_refining v.0) r q (ap of_refining s) w.2 v.2)
one_from mesh scheme ids problem x y (stops r w e) (goes b v k) = absurd (same_steps problem.steps (unrefined mesh) (unrefined mesh) (record { mesh = refl; cells = refl }) (Err w.0) (Ok b) w.1 v)
one_from mesh scheme ids problem x y (goes a w h) (stops q v f) = absurd (same_steps problem.steps (unrefined mesh) (unrefined mesh) (record { mesh = refl; cells = refl }) (Ok a) (Err v.0) w v.1)
one_from mesh scheme ids problem x y (goes a w h) (goes b v k) =
    one_on a b (same_steps problem.steps (unrefined mesh) (unrefined mesh) (record { mesh = refl; cells = refl }) (Ok a) (Ok b) w v) scheme ids problem x y h k

abbrev pub Meshed : Type 0
Meshed = Result CoarseMesh MeshFault

pub same_coarse_fault : (o : Meshed) (f g : MeshFault) → o ≡ Err f → o ≡ Err g → f ≡ g
same_coarse_fault o f g h k = cc

pub same_coarse_mesh : (o : Meshed) (m n : CoarseMesh) → o ≡ Ok m → o ≡ Ok n → m ≡ n
same_coarse_mesh o m n h k = cc

pub not_coarse : (o : Meshed) (m : CoarseMesh) (f : MeshFault) → o ≡ Ok m → o ≡ Err f → ⊥
not_coarse o m f h k = cc

pub one : HasOneSystem
one scheme parts problem x y (stops r w e) (stops q v f) =
    told x y r q e f (one_refusal (of_mesh w.0) (of_mesh v.0) r q (ap of_mesh (same_coarse_fault (mesh_of parts.points parts.quads parts.lines) w.0 v.0 w.1 v.1)) w.2 v.2)
one scheme parts problem x y (stops r w e) (goes n v k) = absurd (not_coarse (mesh_of parts.points parts.quads parts.lines) n w.0 v w.1)
one scheme parts problem x y (goes m w h) (stops q v f) = absurd (not_coarse (mesh_of parts.points parts.quads parts.lines) m v.0 w v.1)
one scheme parts problem x y (goes m w h) (goes n v k) =
    let P : CoarseMesh → Type 0 = λ mesh. Then (RefinedFrom mesh problem) (SetUpOn scheme parts.ids problem) x in
    one_from n scheme parts.ids problem x y (subst P (same_coarse_mesh (mesh_of parts.points parts.quads parts.lines) m n w v) h) k
