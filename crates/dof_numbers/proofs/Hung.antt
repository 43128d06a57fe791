-- The names that hang, and their dofs.
use Rattle.std.proofs.Common.{◌≡◌, ◌∙◌, sym, ap, ap₂, refl, subst, ℕ, zero, suc, ◌<◌, inl, inr, ⊎_elim, Bool, true, false, cond, length, arith}
use Rattle.std.proofs.lemmas.Bool.{cases_Bool}
use Rattle.std.specs.Prelude.{◌==◌}
use Rattle.corner_names.specs.Names.{Name, name_size}
use Rattle.corner_names.specs.Cells.{Corners, face_start, face_end}
use Rattle.corner_names.proofs.Names.{middle_of-inj}
use Rattle.corner_names.proofs.Distinct.{vertex_one}
use Rattle.corner_names.proofs.Across.{start_less, end_less, end_smaller}
use Rattle.corner_names.proofs.Cover.{half_mid}
use Rattle.hanging_refine.specs.Coarse.{corner_at, on_boundary}
use Rattle.hanging_refine.specs.Refined.{RefinedMesh, active_cells, cell_at}
use Rattle.hanging_refine.specs.Numbered.{corner_name}
use Rattle.hanging_refine.specs.Sides.{half_end}
use Rattle.hanging_refine.specs.Grown.{IsGrown}
use Rattle.hanging_refine.proofs.Only.{cell_is, half_on}
use Rattle.fem_fixed.specs.Lists.{contains, different}
use Rattle.fem_fixed.proofs.Occurrences.{numbered}
use Rattle.dof_numbers.specs.Dofs.{IsDegree, same_name, name_list, middle_name}
use Rattle.dof_numbers.specs.Hanging.{IsHangingName, IsHanging, quarter_name, hung_name}
use Rattle.dof_numbers.proofs.Names.{names_equal}
use Rattle.dof_numbers.proofs.Rows.{corner_listed, middle_listed}
use Rattle.dof_numbers.proofs.Finer.{stands, is_active, HalfAt, both_halves, one_middle}

pub by_degree : (P : ℕ → Type 0) → P 1 → P 2 → (degree : ℕ) → IsDegree degree → P degree
by_degree P one two degree d = ⊎_elim (λ (e : degree ≡ 1). subst P (sym e) one) (λ (e : degree ≡ 2). subst P (sym e) two) d

-- the middle of a half is the middle of a face of a smaller cell
pub quarter_is : (forest : RefinedMesh) (c f h : ℕ) (t : HalfAt forest c f h) → middle_name forest t.cell t.face ≡ quarter_name forest c f h
quarter_is forest c f h t = half_mid (corner_at forest.mesh) (cell_at forest t.cell) (cell_at forest c) t.face f (half_end f h) t.half_at

-- what hangs is listed
pub hung_listed : (degree : ℕ) → IsDegree degree → (forest : RefinedMesh) → IsGrown forest → (dof c f h : ℕ) → IsHanging degree forest dof c f h → contains same_name (name_list degree forest) (hung_name degree forest c f h) ≡ true
hung_listed degree d forest w = by_degree P one two degree d
  where
    P : ℕ → Type 0
    P degree = (dof c f h : ℕ) → IsHanging degree forest dof c f h → contains same_name (name_list degree forest) (hung_name degree forest c f h) ≡ true

    one : P 1
    one dof c f h k =
        let t = k.hanging in
        ap (contains same_name (name_list 1 forest)) (sym t.middle ∙ t.corner) ∙ corner_listed 1 forest t.other t.v t.is_other t.is_vertex

    two : P 2
    two dof c f h k =
        let t = both_halves forest w k.name c f h k.is_one k.hanging in
        ap (contains same_name (name_list 2 forest)) (sym (quarter_is forest c f h t)) ∙ middle_listed forest t.cell t.face t.is_cell t.is_face

-- so its dof is below the count
pub hanging_small : (degree : ℕ) → IsDegree degree → (forest : RefinedMesh) → IsGrown forest → (size dof c f h : ℕ) → size ≡ different same_name (name_list degree forest) → IsHanging degree forest dof c f h → dof < size
hanging_small degree d forest w size dof c f h s k =
    let b = (numbered names_equal (name_list degree forest)).below (hung_name degree forest c f h) (hung_listed degree d forest w dof c f h k) in let e = k.is_dof in omega arith

-- one number at a face has one hanging dof
pub one_dof : (degree : ℕ) (forest : RefinedMesh) (d e c f h : ℕ) → IsHanging degree forest d c f h → IsHanging degree forest e c f h → d ≡ e
one_dof degree forest d e c f h a b = a.is_dof ∙ sym b.is_dof

half_one : (f h k : ℕ) → f < 4 → h < 2 → k < 2 → half_end f h ≡ half_end f k → h ≡ k
half_one f zero zero a b d e = refl
half_one zero zero (suc zero) a b d e = absurd (omega arith)
half_one (suc zero) zero (suc zero) a b d e = absurd (omega arith)
half_one (suc (suc zero)) zero (suc zero) a b d e = absurd (omega arith)
half_one (suc (suc (suc zero))) zero (suc zero) a b d e = absurd (omega arith)
half_one (suc (suc (suc (suc f)))) zero (suc zero) a b d e = absurd (omega arith)
half_one zero (suc zero) zero a b d e = absurd (omega arith)
half_one (suc zero) (suc zero) zero a b d e = absurd (omega arith)
half_one (suc (suc zero)) (suc zero) zero a b d e = absurd (omega arith)
half_one (suc (suc (suc zero))) (suc zero) zero a b d e = absurd (omega arith)
half_one (suc (suc (suc (suc f)))) (suc zero) zero a b d e = absurd (omega arith)
half_one f (suc zero) (suc zero) a b d e = refl
half_one f (suc (suc h)) k a b d e = absurd (omega arith)
half_one f zero (suc (suc k)) a b d e = absurd (omega arith)
half_one f (suc zero) (suc (suc k)) a b d e = absurd (omega arith)

pub half_less : (f h : ℕ) → f < 4 → half_end f h < 4
half_less f h b =
    let P : ℕ → Type 0 = λ v. v < 4 in
    let v : Bool → ℕ = λ t. cond t (face_start f) (face_end f) in
    ⊎_elim (λ (e : (h == 0) ≡ true). subst P (sym (ap v e)) (start_less f b)) (λ (e : (h == 0) ≡ false). subst P (sym (ap v e)) (end_less f b)) (cases_Bool (h == 0))

-- two halves with one middle are one
quarter_one : (forest : RefinedMesh) → IsGrown forest → (x y : Name) (c f h d e k : ℕ) → IsHangingName forest x c f → IsHangingName forest y d e → h < 2 → k < 2 → quarter_name forest c f h ≡ quarter_name forest d e k → (c ≡ d) × (f ≡ e) × (h ≡ k)
quarter_one forest w x y c f h d e k a b hh hk names =
    let m : Corners = corner_at forest.mesh in
    let v : Name = corner_name forest c (half_end f h) in let v' : Name = corner_name forest d (half_end e k) in
    ⊎_elim
    (λ (s : (v ≡ v') × (middle_name forest c f ≡ middle_name forest d e)).
    let t = one_middle forest w x c f d e a b.is_cell b.is_face s.1 in
    let same : corner_name forest c (half_end f h) ≡ corner_name forest c (half_end f k) = s.0 ∙ ap₂ (λ i g. corner_name forest i (half_end g k)) (sym t.0) (sym t.1) in
    let is = cell_is (length forest.mesh.cells) m (on_boundary forest.mesh) (active_cells forest) (stands forest w) (cell_at forest c) (is_active forest w c a.is_cell) in
    let one = vertex_one (length forest.mesh.cells) m w.coarse.distinct (cell_at forest c) is (half_end f h) (half_end f k) (half_less f h a.is_face) (half_less f k a.is_face) same in
    let R : (c ≡ d) × (f ≡ e) × (h ≡ k) = (t.0, t.1, half_one f h k a.is_face hh hk one) in R)
    (λ (s : (v ≡ middle_name forest d e) × (middle_name forest c f ≡ v')).
    let p : name_size v < name_size (middle_name forest c f) = end_smaller m (cell_at forest c) (half_end f h) f (half_on f h) in
    let q : name_size v' < name_size (middle_name forest d e) = end_smaller m (cell_at forest d) (half_end e k) e (half_on e k) in
    let i : name_size v ≡ name_size (middle_name forest d e) = ap name_size s.0 in
    let j : name_size (middle_name forest c f) ≡ name_size v' = ap name_size s.1 in
    absurd (omega arith))
    (middle_of-inj v (middle_name forest c f) v' (middle_name forest d e) names)

-- and a hanging dof has one face, and one number there
pub one_face : (degree : ℕ) → IsDegree degree → (forest : RefinedMesh) → IsGrown forest → (dof c f h d e k : ℕ) → IsHanging degree forest dof c f h → IsHanging degree forest dof d e k → (c ≡ d) × (f ≡ e) × (h ≡ k)
one_face degree d forest w = by_degree P one two degree d
  where
    P : ℕ → Type 0
    P degree = (dof c f h d e k : ℕ) → IsHanging degree forest dof c f h → IsHanging degree forest dof d e k → (c ≡ d) × (f ≡ e) × (h ≡ k)

    one : P 1
    one dof c f h d e k a b =
        let names = (numbered names_equal (name_list 1 forest)).one (middle_name forest c f) (middle_name forest d e)
        (hung_listed 1 (inl refl) forest w dof c f h a) (hung_listed 1 (inl refl) forest w dof d e k b) (sym a.is_dof ∙ b.is_dof) in
        let t = one_middle forest w a.name c f d e a.hanging b.hanging.is_cell b.hanging.is_face names in
        let first = a.is_one in let second = b.is_one in
        (t.0, t.1, omega arith)

    two : P 2
    two dof c f h d e k a b =
        let names = (numbered names_equal (name_list 2 forest)).one (quarter_name forest c f h) (quarter_name forest d e k)
        (hung_listed 2 (inr refl) forest w dof c f h a) (hung_listed 2 (inr refl) forest w dof d e k b) (sym a.is_dof ∙ b.is_dof) in
        quarter_one forest w a.name b.name c f h d e k a.hanging b.hanging a.is_one b.is_one names
