-- A refined mesh and a problem have one table of lines, and one answer.
use Rattle.std.proofs.Common.{◌≡◌, ◌∙◌, sym, ap, ap₂, refl, subst, ℕ, ◌<◌, ◌⊎◌, inl, inr, ⊎_elim, true, false, List, [], ◌∷◌, Ok, Err, arith}
use Rattle.std.specs.Prelude.{ℤ, Some, None}
use Rattle.std.specs.declared.option.Option.{Option}
use Rattle.std.specs.declared.result.Result.{Result}
use Rattle.std.specs.Ordering.{int_eq}
use Rattle.std.proofs.lemmas.Bool.{cases_Bool}
use Rattle.std.proofs.lemmas.Bool.Decides.{Decides-int_eq}
use Rattle.std.proofs.lemmas.List.{ext_get_or}
use Rattle.corner_names.proofs.Across.{nat_decides}
use Rattle.corner_names.proofs.Active.{clash}
use Rattle.hanging_refine.specs.Refined.{RefinedMesh}
use Rattle.affine_constraints.specs.declared.term.Term.{Term}
use Rattle.affine_constraints.specs.Lines.{AffineLine, lines_in}
use Rattle.affine_constraints.proofs.OneAnswer.{one_answer as one_closing}
use Rattle.problem_read.specs.Entries.{ProblemParts}
use Rattle.constrained_mesh.specs.declared.fault.ConstraintFault.{ConstraintFault}
use Rattle.constrained_mesh.specs.MeshLines.{Table, dof_count, HangsNowhere, AreMeshLines}
use Rattle.constrained_mesh.specs.Nodes.{Nodes, dof_of_id}
use Rattle.constrained_mesh.specs.Ties.{with_ties}
use Rattle.constrained_mesh.specs.Constrained.{Answer, answer_of, ClosesOrFails, IsConstrained}

-- whether two values are one
abbrev pub Decided : {A : Type 0} → A → A → Type 0
Decided x y = (x ≡ y) ⊎ (x ≡ y → ⊥)

by_parts : {A B C : Type 0} (p : C → A) (q : C → B) (x y : C) → (p x ≡ p y → q x ≡ q y → x ≡ y) → Decided (p x) (p y) → Decided (q x) (q y) → Decided x y
by_parts p q x y join (inl e) (inl f) = inl (join e f)
by_parts p q x y join (inl e) (inr g) = inr (λ s. g (ap q s))
by_parts p q x y join (inr g) b = inr (λ s. g (ap p s))

int_decides : (x y : ℤ) → Decided x y
int_decides x y = let d = Decides-int_eq x y in ⊎_elim (λ (h : int_eq x y ≡ true). inl (d.0 h)) (λ (h : int_eq x y ≡ false). inr (λ e. clash (int_eq x y) (d.1 e) h)) (cases_Bool (int_eq x y))

term_decides : (x y : Term) → Decided x y
term_decides x y = by_parts (λ (t : Term). t.dof) (λ (t : Term). t.weight) x y (λ e f. ap₂ (λ (d : ℕ) (w : ℤ). record { dof = d; weight = w }) e f) (nat_decides x.dof y.dof) (int_decides x.weight y.weight)

same_head : (x y : Term) (xs ys : List Term) → x ∷ xs ≡ y ∷ ys → x ≡ y
same_head x y xs ys e = cc

same_tail : (x y : Term) (xs ys : List Term) → x ∷ xs ≡ y ∷ ys → xs ≡ ys
same_tail x y xs ys e = cc

more_decides : (x y : Term) (xs ys : List Term) → Decided x y → Decided xs ys → Decided (x ∷ xs) (y ∷ ys)
more_decides x y xs ys (inl e) (inl f) = inl (ap₂ (λ (t : Term) (ts : List Term). t ∷ ts) e f)
more_decides x y xs ys (inl e) (inr g) = inr (λ s. g (same_tail x y xs ys s))
more_decides x y xs ys (inr g) b = inr (λ s. g (same_head x y xs ys s))

terms_decide : (xs ys : List Term) → Decided xs ys
terms_decide [] [] = inl refl
terms_decide [] (y ∷ ys) = inr (λ e. cc)
terms_decide (x ∷ xs) [] = inr (λ e. cc)
terms_decide (x ∷ xs) (y ∷ ys) = more_decides x y xs ys (term_decides x y) (terms_decide xs ys)

line_decides : (x y : AffineLine) → Decided x y
line_decides x y =
    by_parts (λ (l : AffineLine). l.terms) (λ (l : AffineLine). l.constant) x y (λ e f. ap₂ (λ (ts : List Term) (k : ℤ). record { terms = ts; constant = k }) e f) (terms_decide x.terms y.terms) (int_decides x.constant y.constant)

same_some : (x y : AffineLine) → Some x ≡ Some y → x ≡ y
same_some x y e = cc

some_decides : (x y : AffineLine) → Decided x y → Decided (Some x) (Some y)
some_decides x y (inl e) = inl (ap Some e)
some_decides x y (inr g) = inr (λ s. g (same_some x y s))

place_decides : (x y : Option AffineLine) → Decided x y
place_decides None None = inl refl
place_decides None (Some y) = inr (λ e. cc)
place_decides (Some x) None = inr (λ e. cc)
place_decides (Some x) (Some y) = some_decides x y (line_decides x y)

-- a dof has one line: were there two, it would hang nowhere, and have its Dirichlet line in both tables
same_line : (degree : ℕ) (forest : RefinedMesh) (problem : ProblemParts) (t u : Table) → AreMeshLines degree forest problem t → AreMeshLines degree forest problem u → (dof : ℕ) → dof < dof_count degree forest → lines_in t dof ≡ lines_in u dof
same_line degree forest problem t u w v dof h = ⊎_elim
    (λ (e : lines_in t dof ≡ lines_in u dof). e)
    (λ (n : lines_in t dof ≡ lines_in u dof → ⊥).
    let nowhere : HangsNowhere degree forest dof = λ c f h k. n (w.hanging dof c f h k ∙ sym (v.hanging dof c f h k)) in w.others dof h nowhere ∙ sym (v.others dof h nowhere))
    (place_decides (lines_in t dof) (lines_in u dof))

same_table : (degree : ℕ) (forest : RefinedMesh) (problem : ProblemParts) (t u : Table) → AreMeshLines degree forest problem t → AreMeshLines degree forest problem u → t ≡ u
same_table degree forest problem t u w v = ext_get_or None t u (w.size ∙ sym v.size) (λ dof h. same_line degree forest problem t u w v dof (let s = w.size in omega arith))

same_outcome : (outcome : Result Table ConstraintFault) (x y : Answer) → ClosesOrFails outcome x → ClosesOrFails outcome y → x ≡ y
same_outcome (Ok table) x y w v = w.answer_is ∙ ap answer_of (one_closing table w.closing v.closing w.is_answer v.is_answer) ∙ sym v.answer_is
same_outcome (Err fault) x y w v = w ∙ sym v

-- one answer, also of a mesh that no steps lead to
pub same_answer : (nodes : Nodes) (problem : ProblemParts) (x y : Answer) → IsConstrained nodes problem x → IsConstrained nodes problem y → x ≡ y
same_answer nodes problem x y w v =
    let P : Table → Type 0 = λ lines. ClosesOrFails (with_ties (dof_of_id nodes) lines problem.ties) y in
    same_outcome (with_ties (dof_of_id nodes) w.lines problem.ties) x y w.outcome (subst P (sym (same_table nodes.degree nodes.forest problem w.lines v.lines w.of_mesh v.of_mesh)) v.outcome)
