-- The lines of a mesh, dof by dof, and that boundary values and hanging dofs never meet.
use Rattle.std.proofs.Common.{◌≡◌, ◌∙◌, sym, ap, ℕ, ◌+◌, ◌<◌, ◌≤◌, inl, inr, ⊎_elim, Bool, true, false, ◌&&◌, ◌||◌, ◌==◌, List, [], ◌∷◌, length, map, replicate, slice_index_or, slice_set, get_or-set_same, get_or-set_other, arith}
use Rattle.std.specs.Prelude.{Some, None, IsSome, nat_eq, cond}
use Rattle.std.specs.declared.option.Option.{Option}
use Rattle.std.proofs.lemmas.List.{get_or-replicate, get_or_past, length-replicate}
use Rattle.std.proofs.lemmas.Bool.{cases_lt, cases_Bool}
use Rattle.std.proofs.lemmas.Bool.Decides.{nat_tests}
use Rattle.corner_names.specs.Cells.{face_start, face_end, is_on}
use Rattle.corner_names.proofs.Across.{nat_decides, start_less, end_less}
use Rattle.corner_names.specs.Forest.{OnBoundary}
use Rattle.hanging_refine.specs.Coarse.{on_boundary}
use Rattle.hanging_refine.specs.Refined.{RefinedMesh, cell_at}
use Rattle.hanging_refine.specs.Grown.{IsGrown}
use Rattle.affine_constraints.specs.Lines.{AffineLine, lines_in}
use Rattle.affine_constraints.specs.declared.fault.LineFault.TheVariants.{Twice, NoMemory}
use Rattle.fem_fixed.specs.Lists.{contains}
use Rattle.fem_fixed.proofs.Occurrences.{numbers_equal}
use Rattle.corner_names.proofs.Distinct.{eq_true}
use Rattle.corner_names.proofs.Active.{or_true}
use Rattle.dof_numbers.specs.Dofs.{IsDegree, corner_dof, middle_dof}
use Rattle.dof_numbers.specs.Hanging.{IsHanging, HangsSomewhere, AreHungBelow, HaveStopped}
use Rattle.dof_numbers.proofs.Inside.{inside}
use Rattle.dof_numbers.proofs.Hung.{hanging_small}
use Rattle.problem_read.specs.Entries.{ProblemParts}
use Rattle.mesh_visits.specs.Meeting.{is_outer, all_faces}
use Rattle.mesh_visits.specs.Visits.{id_of}
use Rattle.mesh_visits.proofs.BySide.{none}
use Rattle.mesh_visits.proofs.Meets.{and_true, outer_true}
use Rattle.constrained_mesh.specs.Dirichlet.{least, has_value, lies_on, ids_among, deciding_id, line_on, dirichlet_line}
use Rattle.constrained_mesh.specs.LeastIds.{HoldsLeast}
use Rattle.constrained_mesh.specs.MeshLines.{Table, dof_count, HangingHaveNone, AreMeshLines}

-- the dofs below a bound have their Dirichlet lines, and no other dof has a line
pub record AreDirichletBelow (degree : ℕ) (forest : RefinedMesh) (problem : ProblemParts) (bound : ℕ) (table : Table) : Type 0 where
  pub done : (dof : ℕ) → dof < bound → lines_in table dof ≡ dirichlet_line degree forest problem dof
  pub free : (dof : ℕ) → bound ≤ dof → lines_in table dof ≡ None

no_line : (n dof : ℕ) → lines_in (replicate n None) dof ≡ None
no_line n dof = ⊎_elim (λ (h : dof < n). get_or-replicate n dof None None h) (λ (h : n ≤ dof). get_or_past (replicate n None) dof None (omega (arith, h, length-replicate {A = Option AffineLine} n None))) (cases_lt dof n)

pub none_yet : (degree : ℕ) (forest : RefinedMesh) (problem : ProblemParts) (size : ℕ) (table : Table) → table ≡ replicate size None → AreDirichletBelow degree forest problem 0 table
none_yet degree forest problem size table e = record {
  done = λ dof h. absurd (omega arith);
  free = λ dof h. ap (λ t. lines_in t dof) e ∙ no_line size dof;
}

pub value_more : (degree : ℕ) (forest : RefinedMesh) (problem : ProblemParts) (ids : List (Option ℕ)) (old new : Table) (dof : ℕ) → HoldsLeast degree forest problem (all_faces forest) ids → dof < length ids → dof < length old →
    new ≡ slice_set old dof (line_on problem (slice_index_or ids dof None)) → AreDirichletBelow degree forest problem dof old → AreDirichletBelow degree forest problem (dof + 1) new
unfolding HoldsLeast deciding_id
value_more degree forest problem ids old new dof holds h within is w =
    let here : lines_in new dof ≡ dirichlet_line degree forest problem dof =
    ap (λ t. lines_in t dof) is ∙ get_or-set_same old dof (line_on problem (slice_index_or ids dof None)) None within ∙ ap (line_on problem) (holds dof h) in
    let there : (d : ℕ) → (d ≡ dof → ⊥) → lines_in new d ≡ lines_in old d = λ d e. ap (λ t. lines_in t d) is ∙ get_or-set_other old dof d (line_on problem (slice_index_or ids dof None)) None e in
    record {
      done = λ d b. ⊎_elim (λ (e : d ≡ dof). ap (lines_in new) e ∙ here ∙ ap (dirichlet_line degree forest problem) (sym e)) (λ (e : d ≡ dof → ⊥). there d e ∙ w.done d (below d dof b e)) (nat_decides d dof);
      free = λ d b. there d (λ e. omega arith) ∙ w.free d (omega arith);
    }
  where
    below : (a b : ℕ) → a < b + 1 → (a ≡ b → ⊥) → a < b
    below a b h e = grind arith

-- a face's ends are on it
start_on : (f : ℕ) → is_on (face_start f) f ≡ true
start_on f = grind (arith, nat_tests)

end_on : (f : ℕ) → is_on (face_end f) f ≡ true
end_on f = grind (arith, nat_tests)

-- which of the dofs of a face a dof is
data FaceDof (degree : ℕ) (forest : RefinedMesh) (dof z e : ℕ) : Type 0 where
  a_start : corner_dof degree forest z (face_start e) ≡ dof → FaceDof degree forest dof z e
  an_end : corner_dof degree forest z (face_end e) ≡ dof → FaceDof degree forest dof z e
  a_middle : degree ≡ 2 → middle_dof forest z e ≡ dof → FaceDof degree forest dof z e

face_dof : (degree : ℕ) (forest : RefinedMesh) (dof z e : ℕ) → lies_on degree forest dof (z, e) ≡ true → FaceDof degree forest dof z e
unfolding lies_on
face_dof degree forest dof z e h =
    let x : ℕ = corner_dof degree forest z (face_start e) in let y : ℕ = corner_dof degree forest z (face_end e) in
    let last : Bool → List ℕ = λ t. cond t (middle_dof forest z e ∷ []) [] in
    elim (or_true (nat_eq x dof) (nat_eq y dof || contains nat_eq (last (degree == 2)) dof) h) [
      | inl t ↦ a_start (numbers_equal.equal x dof t)
      | inr r ↦ elim (or_true (nat_eq y dof) (contains nat_eq (last (degree == 2)) dof) r) [
        | inl t ↦ an_end (numbers_equal.equal y dof t)
        | inr u ↦ elim (cases_Bool (degree == 2)) [
          | inl two ↦ (let k : contains nat_eq (middle_dof forest z e ∷ []) dof ≡ true = sym (ap (λ b. contains nat_eq (last b) dof) two) ∙ u in
              elim (or_true (nat_eq (middle_dof forest z e) dof) false k) [
                | inl t ↦ a_middle (eq_true degree 2 two) (numbers_equal.equal (middle_dof forest z e) dof t)
                | inr t ↦ absurd cc
              ])
          | inr two ↦ (let k : contains nat_eq [] dof ≡ true = sym (ap (λ b. contains nat_eq (last b) dof) two) ∙ u in absurd cc)
        ]
      ]
    ]

value_outer : (forest : RefinedMesh) (problem : ProblemParts) (z e : ℕ) → has_value forest problem (z, e) ≡ true → OnBoundary (on_boundary forest.mesh) (cell_at forest z) e
unfolding has_value is_outer
value_outer forest problem z e h = outer_true (on_boundary forest.mesh) (cell_at forest z) e (and_true _ _ h).0

-- a hanging dof is none of a boundary face
no_value : (degree : ℕ) → IsDegree degree → (forest : RefinedMesh) → IsGrown forest → (problem : ProblemParts) (dof c f p z e : ℕ) → IsHanging degree forest dof c f p → z < length forest.cells → e < 4 → (has_value forest problem (z, e) && lies_on degree forest dof (z, e)) ≡ true → ⊥
no_value degree ok forest g problem dof c f p z e h hz he t =
    let both = and_true (has_value forest problem (z, e)) (lies_on degree forest dof (z, e)) t in
    let outer : OnBoundary (on_boundary forest.mesh) (cell_at forest z) e = value_outer forest problem z e both.0 in
    let w = inside degree ok forest g in
    elim (face_dof degree forest dof z e both.1) [
      | a_start s ↦ w.no_end dof c f p z e (face_start e) h hz he (start_less e he) (start_on e) outer s
      | an_end s ↦ w.no_end dof c f p z e (face_end e) h hz he (end_less e he) (end_on e) outer s
      | a_middle two s ↦ w.no_middle dof c f p z e two h hz he outer s
    ]

pub hanging_no_value : (degree : ℕ) → IsDegree degree → (forest : RefinedMesh) (problem : ProblemParts) → IsGrown forest → HangingHaveNone degree forest problem
unfolding deciding_id ids_among
hanging_no_value degree ok forest problem g dof c f p h =
    ap (λ faces. line_on problem (least (map (id_of forest) faces)))
    (none forest (λ face. has_value forest problem face && lies_on degree forest dof face) (λ z e hz he t. no_value degree ok forest g problem dof c f p z e h hz he t))

-- adding the lines of hanging dofs never meets a line
pub never_twice : (degree : ℕ) (forest : RefinedMesh) (problem : ProblemParts) → HangingHaveNone degree forest problem → (size : ℕ) (old new : Table) (dof : ℕ) → length old ≡ size → ((d : ℕ) → d < size → lines_in old d ≡ dirichlet_line degree forest problem d) →
    HaveStopped degree forest (lines_in old) (lines_in new) (Twice dof) → ⊥
never_twice degree forest problem apart size old new dof len are w = ⊎_elim
    (λ (e : Twice dof ≡ NoMemory). not_memory dof e)
    (λ (t : (Twice dof ≡ Twice w.bound) × HangsSomewhere degree forest w.bound × IsSome (lines_in old w.bound)).
    no_some (lines_in old w.bound)
    (⊎_elim (λ (b : w.bound < size). are w.bound b ∙ apart w.bound t.1.c t.1.f t.1.h t.1.hanging) (λ (b : size ≤ w.bound). get_or_past old w.bound None (omega (arith, len, b))) (cases_lt w.bound size)) t.2)
    w.why
  where
    not_memory : (d : ℕ) → Twice d ≡ NoMemory → ⊥
    not_memory d e = cc

    no_some : (x : Option AffineLine) → x ≡ None → IsSome x → ⊥
    no_some None e h = cc
    no_some (Some line) e h = cc

pub lines_of_mesh : (degree : ℕ) → IsDegree degree → (forest : RefinedMesh) → IsGrown forest → (problem : ProblemParts) (size : ℕ) (old new : Table) → size ≡ dof_count degree forest → length new ≡ size → ((d : ℕ) → d < size → lines_in old d ≡ dirichlet_line degree forest problem d) →
    AreHungBelow degree forest size (lines_in old) (lines_in new) → AreMeshLines degree forest problem new
lines_of_mesh degree ok forest g problem size old new count len are w = record {
  size = len ∙ count;
  hanging = λ dof c f p h. w.hung dof c f p (hanging_small degree ok forest g size dof c f p count h) h;
  others = λ dof b nowhere. w.others dof (λ c f p _ h. nowhere c f p h) ∙ are dof (omega (arith, b, count));
}
