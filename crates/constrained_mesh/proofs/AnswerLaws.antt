-- A refined mesh and a problem have one answer.
use Rattle.std.proofs.Common.{◌≡◌, ◌∙◌, sym, ap, refl, subst, ℕ, ◌<◌, ◌⊎◌, inl, inr, ⊎_elim, map, Ok, Err, arith}
use Rattle.std.specs.Prelude.{Some, None}
use Rattle.std.specs.declared.option.Option.{Option}
use Rattle.std.specs.declared.result.Result.{Result}
use Rattle.std.specs.List.{range_with_len}
use Rattle.std.proofs.lemmas.List.{ext_get_or}
use Rattle.std.proofs.lemmas.List.FromFn.{length-map-range_with_len, get_or-map-range_with_len}
use Rattle.hanging_refine.specs.Refined.{RefinedMesh}
use Rattle.hanging_refine.specs.Grown.{IsGrown}
use Rattle.affine_constraints.specs.Lines.{AffineLine, lines_in}
use Rattle.affine_constraints.proofs.OneAnswer.{one_answer}
use Rattle.affine_constraints.proofs.Existence.{an_answer}
use Rattle.dof_numbers.specs.Hanging.{IsHanging, HangsSomewhere, hung_line}
use Rattle.dof_numbers.specs.Dofs.{IsDegree}
use Rattle.dof_numbers.proofs.Hung.{hanging_small, one_face}
use Rattle.problem_read.specs.Entries.{ProblemParts}
use Rattle.constrained_mesh.specs.declared.fault.ConstraintFault.{ConstraintFault}
use Rattle.constrained_mesh.specs.Dirichlet.{dirichlet_line}
use Rattle.constrained_mesh.specs.MeshLines.{Table, dof_count, HangsNowhere, AreMeshLines}
use Rattle.constrained_mesh.specs.Nodes.{dof_of_id}
use Rattle.constrained_mesh.specs.Ties.{with_ties}
use Rattle.constrained_mesh.specs.Constrained.{Answer, answer_of, ClosesOrFails}
use Rattle.constrained_mesh.specs.Laws.{HasOneAnswer, HasAnAnswer}
use Rattle.constrained_mesh.proofs.Decided.{hangs}

-- there is one table of the lines of a mesh
same_lines : (degree : ℕ) (forest : RefinedMesh) (problem : ProblemParts) → IsGrown forest → (a b : Table) → AreMeshLines degree forest problem a → AreMeshLines degree forest problem b → a ≡ b
same_lines degree forest problem g a b w v = ext_get_or None a b (w.size ∙ sym v.size) (λ dof h. ⊎_elim
    (λ (t : HangsSomewhere degree forest dof). w.hanging dof t.c t.f t.h t.hanging ∙ sym (v.hanging dof t.c t.f t.h t.hanging))
    (λ (t : HangsNowhere degree forest dof). let s = w.size in let k : dof < dof_count degree forest = omega arith in w.others dof k t ∙ sym (v.others dof k t))
    (hangs degree forest g dof))

same_outcome : (outcome : Result Table ConstraintFault) (a b : Answer) → ClosesOrFails outcome a → ClosesOrFails outcome b → a ≡ b
same_outcome (Ok table) a b w v = w.answer_is ∙ ap answer_of (one_answer table w.closing v.closing w.is_answer v.is_answer) ∙ sym v.answer_is
same_outcome (Err fault) a b w v = w ∙ sym v

pub one : HasOneAnswer
one nodes problem g a b w v =
    let P : Table → Type 0 = λ lines. ClosesOrFails (with_ties (dof_of_id nodes) lines problem.ties) b in
    same_outcome (with_ties (dof_of_id nodes) w.lines problem.ties) a b w.outcome (subst P (sym (same_lines nodes.degree nodes.forest problem g w.lines v.lines w.of_mesh v.of_mesh)) v.outcome)

-- the line of a dof
line_by : (degree : ℕ) (forest : RefinedMesh) (problem : ProblemParts) (dof : ℕ) → HangsSomewhere degree forest dof ⊎ HangsNowhere degree forest dof → Option AffineLine
line_by degree forest problem dof (inl t) = Some (hung_line degree forest t.c t.f t.h)
line_by degree forest problem dof (inr t) = dirichlet_line degree forest problem dof

line_hangs : (degree : ℕ) → IsDegree degree → (forest : RefinedMesh) (problem : ProblemParts) (dof c f h : ℕ) → IsGrown forest → IsHanging degree forest dof c f h → (t : HangsSomewhere degree forest dof ⊎ HangsNowhere degree forest dof) →
    line_by degree forest problem dof t ≡ Some (hung_line degree forest c f h)
unfolding line_by
line_hangs degree ok forest problem dof c f h g k (inl t) =
    let s = one_face degree ok forest g dof t.c t.f t.h c f h t.hanging k in
    let L : ℕ → ℕ → ℕ → Option AffineLine = λ x y z. Some (hung_line degree forest x y z) in
    ap (λ x. L x t.f t.h) s.0 ∙ ap (λ y. L c y t.h) s.1 ∙ ap (L c f) s.2
line_hangs degree ok forest problem dof c f h g k (inr t) = absurd (t c f h k)

line_free : (degree : ℕ) (forest : RefinedMesh) (problem : ProblemParts) (dof : ℕ) → HangsNowhere degree forest dof → (t : HangsSomewhere degree forest dof ⊎ HangsNowhere degree forest dof) → line_by degree forest problem dof t ≡ dirichlet_line degree forest problem dof
unfolding line_by
line_free degree forest problem dof n (inl t) = absurd (n t.c t.f t.h t.hanging)
line_free degree forest problem dof n (inr t) = refl

line_at : (degree : ℕ) (forest : RefinedMesh) → IsGrown forest → ProblemParts → ℕ → Option AffineLine
line_at degree forest g problem dof = line_by degree forest problem dof (hangs degree forest g dof)

table_of : (degree : ℕ) (forest : RefinedMesh) → IsGrown forest → ProblemParts → Table
table_of degree forest g problem = map (line_at degree forest g problem) (range_with_len 0 (dof_count degree forest))

table_at : (degree : ℕ) (forest : RefinedMesh) (g : IsGrown forest) (problem : ProblemParts) (dof : ℕ) → dof < dof_count degree forest → lines_in (table_of degree forest g problem) dof ≡ line_by degree forest problem dof (hangs degree forest g dof)
unfolding table_of line_at
table_at degree forest g problem dof h = get_or-map-range_with_len (line_at degree forest g problem) 0 (dof_count degree forest) dof dof None h (omega arith)

-- there is a table
table_is : (degree : ℕ) → IsDegree degree → (forest : RefinedMesh) (g : IsGrown forest) (problem : ProblemParts) → AreMeshLines degree forest problem (table_of degree forest g problem)
unfolding table_of
table_is degree ok forest g problem = record {
  size = length-map-range_with_len (line_at degree forest g problem) 0 (dof_count degree forest);
  hanging = λ dof c f h k. table_at degree forest g problem dof (hanging_small degree ok forest g (dof_count degree forest) dof c f h refl k) ∙ line_hangs degree ok forest problem dof c f h g k (hangs degree forest g dof);
  others = λ dof b n. table_at degree forest g problem dof b ∙ line_free degree forest problem dof n (hangs degree forest g dof);
}

outcome_of : (outcome : Result Table ConstraintFault) → (answer : Answer) × ClosesOrFails outcome answer
outcome_of (Ok table) = let t = an_answer table in (answer_of t.0, record { closing = t.0; is_answer = t.1; answer_is = refl })
outcome_of (Err fault) = (Err fault, refl)

pub some : HasAnAnswer
some nodes problem ok g =
    let lines = table_of nodes.degree nodes.forest g problem in
    let t = outcome_of (with_ties (dof_of_id nodes) lines problem.ties) in
    (t.0, record { lines = lines; of_mesh = table_is nodes.degree ok nodes.forest g problem; outcome = t.1 })
