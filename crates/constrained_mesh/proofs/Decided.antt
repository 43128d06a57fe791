-- Whether a dof hangs: by what lies on the other sides of faces.
use Rattle.std.proofs.Common.{◌≡◌, subst, ℕ, zero, suc, ◌<◌, ◌≤◌, ◌⊎◌, inl, inr, ⊎_elim, length, slice_index, arith}
use Rattle.corner_names.specs.Names.{Name}
use Rattle.corner_names.specs.Cells.{vertex, face_start, face_end, mid}
use Rattle.corner_names.proofs.Across.{nat_decides, start_less, end_less}
use Rattle.hanging_refine.specs.declared.sides.ActiveSide.{ActiveSide}
use Rattle.hanging_refine.specs.declared.sides.ActiveSide.TheVariants.{Boundary, Equal, Coarser, Finer}
use Rattle.hanging_refine.specs.Coarse.{corner_at}
use Rattle.hanging_refine.specs.Refined.{RefinedMesh, cell_at}
use Rattle.hanging_refine.specs.Numbered.{corner_name}
use Rattle.hanging_refine.specs.Grown.{IsGrown}
use Rattle.hanging_refine.specs.Sides.{IsSideOf, MeetsOnly}
use Rattle.hanging_refine.proofs.OneSide.{covered_once}
use Rattle.dof_numbers.specs.Dofs.{name_dof}
use Rattle.dof_numbers.specs.Hanging.{IsHangingName, IsHanging, HangsSomewhere, hung_name}
use Rattle.dof_numbers.proofs.Finer.{not_boundary, not_equal, not_coarser, name_hangs}
use Rattle.constrained_mesh.specs.MeshLines.{HangsNowhere}

-- the middle of the face is a vertex of another cell, or isn't
abbrev pub AtFace : RefinedMesh → ℕ → ℕ → Type 0
AtFace forest c f = ((x : Name) × IsHangingName forest x c f) ⊎ ((x : Name) → IsHangingName forest x c f → ⊥)

by_side : (forest : RefinedMesh) → IsGrown forest → (c f : ℕ) → c < length forest.cells → f < 4 → (side : ActiveSide) → IsSideOf forest c f side → MeetsOnly forest c f side → AtFace forest c f
by_side forest g c f hc hf (Boundary id) is only = inr (not_boundary forest g c f id only)
by_side forest g c f hc hf (Equal j e) is only = inr (not_equal forest g c f j e is only)
by_side forest g c f hc hf (Coarser j e half) is only = inr (not_coarser forest g c f j e half is only)
by_side forest g c f hc hf (Finer js gs) is only =
    let y : ℕ = slice_index js 0 in let h : ℕ = slice_index gs 0 in
    let m = corner_at forest.mesh in
    ⊎_elim
    (λ (s : (vertex m (cell_at forest y) (face_start h) ≡ vertex m (cell_at forest c) (face_start f)) × (vertex m (cell_at forest y) (face_end h) ≡ mid m (cell_at forest c) f)).
    inl (corner_name forest y (face_end h), name_hangs forest g c f y (face_end h) hc hf is.0 (end_less h is.2) s.1))
    (λ (s : (vertex m (cell_at forest y) (face_start h) ≡ mid m (cell_at forest c) f) × (vertex m (cell_at forest y) (face_end h) ≡ vertex m (cell_at forest c) (face_start f))).
    inl (corner_name forest y (face_start h), name_hangs forest g c f y (face_start h) hc hf is.0 (start_less h is.2) s.0))
    is.4.1

at_face : (forest : RefinedMesh) → IsGrown forest → (c f : ℕ) → c < length forest.cells → f < 4 → AtFace forest c f
at_face forest g c f hc hf = let w = covered_once forest g c f hc hf in by_side forest g c f hc hf w.side w.covered.says w.covered.only

-- the dof hangs there with this number, or doesn't
abbrev pub DofAt : ℕ → RefinedMesh → ℕ → ℕ → ℕ → ℕ → Type 0
DofAt degree forest dof c f h = IsHanging degree forest dof c f h ⊎ (IsHanging degree forest dof c f h → ⊥)

dof_at : (degree : ℕ) (forest : RefinedMesh) → IsGrown forest → (dof c f h : ℕ) → c < length forest.cells → f < 4 → h < degree → DofAt degree forest dof c f h
dof_at degree forest g dof c f h hc hf hh = ⊎_elim
    (λ (t : (x : Name) × IsHangingName forest x c f). ⊎_elim
    (λ (e : dof ≡ name_dof degree forest (hung_name degree forest c f h)).
    let R : DofAt degree forest dof c f h = inl (record { name = t.0; hanging = t.1; is_one = hh; is_dof = e }) in R)
    (λ (e : dof ≡ name_dof degree forest (hung_name degree forest c f h) → ⊥). inr (λ (k : IsHanging degree forest dof c f h). e k.is_dof))
    (nat_decides dof (name_dof degree forest (hung_name degree forest c f h))))
    (λ (t : (x : Name) → IsHangingName forest x c f → ⊥). inr (λ (k : IsHanging degree forest dof c f h). t k.name k.hanging))
    (at_face forest g c f hc hf)

less_suc : (a b : ℕ) → a < suc b → (a ≡ b → ⊥) → a < b
less_suc a b h e = grind arith

-- with the first numbers at a face
first_numbers : (degree : ℕ) (forest : RefinedMesh) → IsGrown forest → (dof c f n : ℕ) → c < length forest.cells → f < 4 → n ≤ degree → HangsSomewhere degree forest dof ⊎ ((h : ℕ) → h < n → IsHanging degree forest dof c f h → ⊥)
first_numbers degree forest g dof c f zero hc hf b = inr (λ h l k. omega arith)
first_numbers degree forest g dof c f (suc n) hc hf b = ⊎_elim
    (λ (t : IsHanging degree forest dof c f n). inl (record { c = c; f = f; h = n; hanging = t }))
    (λ (t : IsHanging degree forest dof c f n → ⊥). ⊎_elim (λ (u : HangsSomewhere degree forest dof). inl u)
    (λ (u : (h : ℕ) → h < n → IsHanging degree forest dof c f h → ⊥). inr (λ h l k. ⊎_elim
    (λ (e : h ≡ n). t (let P : ℕ → Type 0 = λ x. IsHanging degree forest dof c f x in subst P e k)) (λ (e : h ≡ n → ⊥). u h (less_suc h n l e) k) (nat_decides h n)))
    (first_numbers degree forest g dof c f n hc hf (omega (arith, b))))
    (dof_at degree forest g dof c f n hc hf (omega (arith, b)))

-- at the first faces of a cell
first_faces : (degree : ℕ) (forest : RefinedMesh) → IsGrown forest → (dof c n : ℕ) → c < length forest.cells → n ≤ 4 → HangsSomewhere degree forest dof ⊎ ((f h : ℕ) → f < n → IsHanging degree forest dof c f h → ⊥)
first_faces degree forest g dof c zero hc b = inr (λ f h l k. omega arith)
first_faces degree forest g dof c (suc n) hc b = ⊎_elim
    (λ (t : HangsSomewhere degree forest dof). inl t)
    (λ (t : (h : ℕ) → h < degree → IsHanging degree forest dof c n h → ⊥). ⊎_elim (λ (u : HangsSomewhere degree forest dof). inl u)
    (λ (u : (f h : ℕ) → f < n → IsHanging degree forest dof c f h → ⊥). inr (λ f h l k. ⊎_elim
    (λ (e : f ≡ n). t h k.is_one (let P : ℕ → Type 0 = λ x. IsHanging degree forest dof c x h in subst P e k)) (λ (e : f ≡ n → ⊥). u f h (less_suc f n l e) k) (nat_decides f n)))
    (first_faces degree forest g dof c n hc (omega (arith, b))))
    (first_numbers degree forest g dof c n degree hc (omega (arith, b)) (omega arith))

-- at the faces of the first cells
first_cells : (degree : ℕ) (forest : RefinedMesh) → IsGrown forest → (dof n : ℕ) → n ≤ length forest.cells → HangsSomewhere degree forest dof ⊎ ((c f h : ℕ) → c < n → IsHanging degree forest dof c f h → ⊥)
first_cells degree forest g dof zero b = inr (λ c f h l k. omega arith)
first_cells degree forest g dof (suc n) b = ⊎_elim
    (λ (t : HangsSomewhere degree forest dof). inl t)
    (λ (t : (f h : ℕ) → f < 4 → IsHanging degree forest dof n f h → ⊥). ⊎_elim (λ (u : HangsSomewhere degree forest dof). inl u)
    (λ (u : (c f h : ℕ) → c < n → IsHanging degree forest dof c f h → ⊥). inr (λ c f h l k. ⊎_elim
    (λ (e : c ≡ n). t f h k.hanging.is_face (let P : ℕ → Type 0 = λ x. IsHanging degree forest dof x f h in subst P e k)) (λ (e : c ≡ n → ⊥). u c f h (less_suc c n l e) k) (nat_decides c n)))
    (first_cells degree forest g dof n (omega (arith, b))))
    (first_faces degree forest g dof n 4 (omega (arith, b)) (omega arith))

-- a dof hangs at a face, or nowhere
pub hangs : (degree : ℕ) (forest : RefinedMesh) → IsGrown forest → (dof : ℕ) → HangsSomewhere degree forest dof ⊎ HangsNowhere degree forest dof
hangs degree forest g dof = ⊎_elim (λ (t : HangsSomewhere degree forest dof). inl t)
    (λ (t : (c f h : ℕ) → c < length forest.cells → IsHanging degree forest dof c f h → ⊥). inr (λ c f h k. t c f h k.hanging.is_cell k))
    (first_cells degree forest g dof (length forest.cells) (omega arith))
