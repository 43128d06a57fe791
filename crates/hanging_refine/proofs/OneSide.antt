-- Each face of an active cell has one side, and no other.
use Rattle.std.proofs.Common.{◌≡◌, ◌∙◌, sym, ap, ap₂, refl, subst, ℕ, zero, suc, ◌+◌, ◌<◌, ◌⊎◌, inl, inr, ⊎_elim, true, false, List, [], ◌∷◌, length, map, arith, slice_index}
use Rattle.corner_names.specs.Names.{Cell, Name, middle_of, SamePair, name_size}
use Rattle.corner_names.specs.Cells.{Corners, vertex, mid, face_start, face_end, is_on, IsCell, AreDistinct}
use Rattle.corner_names.proofs.Names.{middle_of-inj, middle_of-size}
use Rattle.corner_names.proofs.Across.{mid_pair, on_cases, end_smaller, start_less, end_less}
use Rattle.corner_names.proofs.Distinct.{vertex_one}
use Rattle.corner_names.specs.Forest.{IsActive, MeetAt, IsHalfAt, IsFace, Covered, boundary, equal, coarser, finer}
use Rattle.corner_names.specs.Active.{same_cell, has_cell, refined_by, IsForest, AreOnce}
use Rattle.corner_names.proofs.Active.{forest_covered, or_true, same_true}
use Rattle.corner_names.proofs.Balance.{start_on, end_on}
use Rattle.corner_names.proofs.Cover.{half_mid, pair_mid}
use Rattle.corner_names.proofs.Lower.{half_not_same}
use Rattle.hanging_refine.specs.declared.sides.ActiveSide.{ActiveSide}
use Rattle.hanging_refine.specs.declared.sides.ActiveSide.TheVariants.{Boundary, Equal, Coarser, Finer}
use Rattle.hanging_refine.specs.Coarse.{corner_at, on_boundary, boundary_id}
use Rattle.hanging_refine.specs.Refined.{RefinedMesh, named, active_cells, cell_in, cell_at, coarse_of}
use Rattle.hanging_refine.specs.Sides.{half_end, IsSameFace, IsSideOf, NamesFace, MeetsOnly}
use Rattle.hanging_refine.specs.Grown.{IsGrown}
use Rattle.hanging_refine.specs.Laws.{IsCoveredBy, HasBoth, IsCoveredOnce}
use Rattle.hanging_refine.proofs.Lists.{has_in, place_one, map_length}
use Rattle.hanging_refine.proofs.Only.{Stand, active_in, cell_is, half_on}

-- a cell that is there has a place
has_place : (cells : List Cell) (z : Cell) → has_cell cells z ≡ true → (i : ℕ) × ((i < length cells) × (cell_in cells i ≡ z))
has_place [] z h = absurd cc
has_place (x ∷ xs) z h = elim (or_true (same_cell z x) (has_cell xs z) h) [
  | inl e ↦ (0, (omega arith, sym (same_true z x e)))
  | inr e ↦ (let t = has_place xs z e in (suc t.0, (omega (arith, t.1.0), t.1.1)))
]

standing : (forest : RefinedMesh) → IsGrown forest → Stand (length forest.mesh.cells) (corner_at forest.mesh) (on_boundary forest.mesh) (active_cells forest)
standing forest g = record { mesh = g.coarse; forest = g.leaves; once = g.once }

names_length : (forest : RefinedMesh) → length (active_cells forest) ≡ length forest.cells
names_length forest = map_length named forest.cells

-- an active cell is there
cell_there : (forest : RefinedMesh) → IsGrown forest → (i : ℕ) → i < length forest.cells →
    IsActive (length forest.mesh.cells) (refined_by (active_cells forest)) (cell_at forest i)
cell_there forest g i h =
    let len = names_length forest in
    active_in (length forest.mesh.cells) (corner_at forest.mesh) (on_boundary forest.mesh) (active_cells forest) (standing forest g) i (omega arith)

-- and has one place
same_place : (forest : RefinedMesh) → IsGrown forest → (i j e f : ℕ) → i < length forest.cells → j < length forest.cells → IsFace (cell_at forest i) e (cell_at forest j) f → (i ≡ j) × (e ≡ f)
same_place forest g i j e f hi hj t =
    let len = names_length forest in (place_one (active_cells forest) g.once i j (omega arith) (omega arith) t.0, t.1)

-- where the active cell stands in the list
record Placed (forest : RefinedMesh) (y : Cell) : Type 0 where
  pub place : ℕ
  pub within : place < length forest.cells
  pub is : cell_at forest place ≡ y

placed : (forest : RefinedMesh) → IsGrown forest → (y : Cell) → IsActive (length forest.mesh.cells) (refined_by (active_cells forest)) y → Placed forest y
placed forest g y a =
    let t = has_place (active_cells forest) y (g.leaves.all y a) in
    let len = names_length forest in
    record { place = t.0; within = omega (arith, t.1.0); is = t.1.1 }

-- the half of a face at one of its ends
half_of : (v h : ℕ) → is_on v h ≡ true → (half : ℕ) × ((half < 2) × (half_end h half ≡ v))
half_of v h on = ⊎_elim
    (λ (e : v ≡ face_start h). let t : (half : ℕ) × ((half < 2) × (half_end h half ≡ v)) = (0, (omega arith, sym e)) in t)
    (λ (e : v ≡ face_end h). let t : (half : ℕ) × ((half < 2) × (half_end h half ≡ v)) = (1, (omega arith, sym e)) in t)
    (on_cases v h on)

one_way : (forest : RefinedMesh) → IsGrown forest → (i f : ℕ) → i < length forest.cells → f < 4 →
    Covered (length forest.mesh.cells) (corner_at forest.mesh) (on_boundary forest.mesh) (refined_by (active_cells forest)) (cell_at forest i) f →
    (side : ActiveSide) × (HasBoth side × IsCoveredBy forest i f side)
one_way forest g i f hi a w =
    let m : Corners = corner_at forest.mesh in
    let x : Cell = cell_at forest i in
    let R : Type 0 = (side : ActiveSide) × (HasBoth side × IsCoveredBy forest i f side) in
    elim w [
      | boundary b only ↦
          let side : ActiveSide = Boundary (boundary_id forest.mesh (coarse_of x) f) in
          let c : IsCoveredBy forest i f side = record {
            says = (b, refl);
            only = λ z e hz he meet. inl (same_place forest g z i e f hz hi (only (cell_at forest z) e (cell_there forest g z hz) he meet));
          } in
          let r : R = (side, (tt, c)) in r
      | equal y k ay b e apart only ↦
          let p = placed forest g y ay in
          let side : ActiveSide = Equal p.place k in
          let M : Cell → Type 0 = λ c. mid m x f ≡ mid m c k in
          let c : IsCoveredBy forest i f side = record {
            says = (p.within, b, (λ o h. apart (sym p.is ∙ ap (cell_at forest) o, h)), mid_pair m x (cell_at forest p.place) f k (subst M (sym p.is) e));
            only = λ z t hz ht meet. ⊎_elim
                (λ (s : IsFace (cell_at forest z) t x f). let l : ((z ≡ i) × (t ≡ f)) ⊎ NamesFace side z t = inl (same_place forest g z i t f hz hi s) in l)
                (λ (s : IsFace (cell_at forest z) t y k). let l : ((z ≡ i) × (t ≡ f)) ⊎ NamesFace side z t = inr (same_place forest g z p.place t k hz p.within (s.0 ∙ sym p.is, s.1)) in l)
                (only (cell_at forest z) t (cell_there forest g z hz) ht meet);
          } in
          let r : R = (side, (tt, c)) in r
      | coarser y k v ay b half only ↦
          let p = placed forest g y ay in
          let h = half_of v k half.0 in
          let side : ActiveSide = Coarser p.place k h.0 in
          let P : Cell → Type 0 = λ c. IsHalfAt m x f c k v in
          let Q : ℕ → Type 0 = λ w. IsHalfAt m x f (cell_at forest p.place) k w in
          let c : IsCoveredBy forest i f side = record {
            says = (p.within, b, h.1.0, subst Q (sym h.1.1) (subst P (sym p.is) half));
            only = λ z t hz ht meet. ⊎_elim
                (λ (s : IsFace (cell_at forest z) t x f). let l : ((z ≡ i) × (t ≡ f)) ⊎ NamesFace side z t = inl (same_place forest g z i t f hz hi s) in l)
                (λ (s : IsFace (cell_at forest z) t y k). let l : ((z ≡ i) × (t ≡ f)) ⊎ NamesFace side z t = inr (same_place forest g z p.place t k hz p.within (s.0 ∙ sym p.is, s.1)) in l)
                (only (cell_at forest z) t (cell_there forest g z hz) ht meet);
          } in
          let r : R = (side, (tt, c)) in r
      | finer y w k ay aw b first last only ↦
          let p = placed forest g y ay in
          let q = placed forest g w aw in
          let side : ActiveSide = Finer (p.place ∷ q.place ∷ []) (k ∷ k ∷ []) in
          let P : Cell → Type 0 = λ c. IsHalfAt m c k x f (face_start f) in
          let Q : Cell → Type 0 = λ c. IsHalfAt m c k x f (face_end f) in
          let c : IsCoveredBy forest i f side = record {
            says = (p.within, q.within, b, b, subst P (sym p.is) first, subst Q (sym q.is) last);
            only = λ z t hz ht meet. ⊎_elim
                (λ (s : IsFace (cell_at forest z) t x f). let l : ((z ≡ i) × (t ≡ f)) ⊎ NamesFace side z t = inl (same_place forest g z i t f hz hi s) in l)
                (λ (s : IsFace (cell_at forest z) t y k ⊎ IsFace (cell_at forest z) t w k). ⊎_elim
                (λ (o : IsFace (cell_at forest z) t y k). let l : ((z ≡ i) × (t ≡ f)) ⊎ NamesFace side z t = inr (inl (same_place forest g z p.place t k hz p.within (o.0 ∙ sym p.is, o.1))) in l)
                (λ (o : IsFace (cell_at forest z) t w k). let l : ((z ≡ i) × (t ≡ f)) ⊎ NamesFace side z t = inr (inr (same_place forest g z q.place t k hz q.within (o.0 ∙ sym q.is, o.1))) in l)
                s)
                (only (cell_at forest z) t (cell_there forest g z hz) ht meet);
          } in
          let r : R = (side, ((refl, refl), c)) in r
    ]

-- a face that a side names is met, and isn't the face itself
record IsMet (forest : RefinedMesh) (i f z e : ℕ) : Type 0 where
  pub within : z < length forest.cells
  pub is_face : e < 4
  pub meets : MeetAt (corner_at forest.mesh) (cell_at forest i) f (cell_at forest z) e
  pub apart : z ≡ i → e ≡ f → ⊥

not_own_half : (m : Corners) (x y : Cell) (f h v : ℕ) → x ≡ y → f ≡ h → IsHalfAt m x f y h v → ⊥
not_own_half m x y f h v e k s = half_not_same m x y f h v s (ap (λ c. mid m c f) e ∙ ap (mid m y) k)

equal_met : (forest : RefinedMesh) (i f j g : ℕ) → IsSideOf forest i f (Equal j g) → IsMet forest i f j g
equal_met forest i f j g s = record { within = s.0; is_face = s.1; meets = inl s.3; apart = s.2 }

coarser_met : (forest : RefinedMesh) (i f j g half : ℕ) → IsSideOf forest i f (Coarser j g half) → IsMet forest i f j g
coarser_met forest i f j g half s = record {
  within = s.0;
  is_face = s.1;
  meets = inr (inl (half_end g half, s.3));
  apart = λ e k. not_own_half (corner_at forest.mesh) (cell_at forest i) (cell_at forest j) f g (half_end g half) (ap (cell_at forest) (sym e)) (sym k) s.3;
}

finer_met : (forest : RefinedMesh) (i f j g v : ℕ) → j < length forest.cells → g < 4 → IsHalfAt (corner_at forest.mesh) (cell_at forest j) g (cell_at forest i) f v → IsMet forest i f j g
finer_met forest i f j g v h b s = record {
  within = h;
  is_face = b;
  meets = inr (inr (v, s));
  apart = λ e k. not_own_half (corner_at forest.mesh) (cell_at forest j) (cell_at forest i) g f v (ap (cell_at forest) e) k s;
}

-- each side of the face names what is met
names_met : (forest : RefinedMesh) (i f z e : ℕ) (side : ActiveSide) → IsMet forest i f z e → MeetsOnly forest i f side → NamesFace side z e
names_met forest i f z e side m only =
    ⊎_elim (λ (t : (z ≡ i) × (e ≡ f)). absurd (m.apart t.0 t.1)) (λ (t : NamesFace side z e). t) (only z e m.within m.is_face m.meets)

-- a face isn't a half of a half of itself
not_half_twice : (m : Corners) (x y : Cell) (f h v w : ℕ) → IsHalfAt m x f y h v → IsHalfAt m y h x f w → ⊥
not_half_twice m x y f h v w s t =
    let a : name_size (mid m x f) ≡ name_size (middle_of (vertex m y v) (mid m y h)) = ap name_size (half_mid m x y f h v s) in
    let b : name_size (mid m y h) ≡ name_size (middle_of (vertex m x w) (mid m x f)) = ap name_size (half_mid m y x h f w t) in
    omega (arith, middle_of-size (vertex m y v) (mid m y h), middle_of-size (vertex m x w) (mid m x f))

-- the end at which a half stands
part_one : (a b c : Name) → middle_of a c ≡ middle_of b c → a ≡ b
part_one a b c e = ⊎_elim (λ (h : (a ≡ b) × (c ≡ c)). h.0) (λ (h : (a ≡ c) × (c ≡ b)). h.0 ∙ h.1) (middle_of-inj a c b c e)

ends_differ : (f : ℕ) → face_start f ≡ face_end f → ⊥
ends_differ f e = grind arith

end_one : (g h k : ℕ) → h < 2 → k < 2 → half_end g h ≡ half_end g k → h ≡ k
end_one g zero zero a b e = refl
end_one g zero (suc zero) a b e = absurd (ends_differ g e)
end_one g zero (suc (suc k)) a b e = absurd (omega arith)
end_one g (suc zero) zero a b e = absurd (ends_differ g (sym e))
end_one g (suc zero) (suc zero) a b e = refl
end_one g (suc zero) (suc (suc k)) a b e = absurd (omega arith)
end_one g (suc (suc h)) k a b e = absurd (omega arith)

end_vertex : (g h : ℕ) → g < 4 → h < 2 → half_end g h < 4
end_vertex g zero a b = start_less g a
end_vertex g (suc zero) a b = end_less g a
end_vertex g (suc (suc h)) a b = absurd (omega arith)

two_same : (xs ys : List ℕ) → length xs ≡ 2 → length ys ≡ 2 → slice_index xs 0 ≡ slice_index ys 0 → slice_index xs 1 ≡ slice_index ys 1 → xs ≡ ys
two_same (a ∷ b ∷ []) (c ∷ d ∷ []) h k e f = cc
two_same [] ys h k e f = absurd (omega arith)
two_same (a ∷ []) ys h k e f = absurd (omega arith)
two_same (a ∷ b ∷ c ∷ xs) ys h k e f = absurd (omega arith)
two_same (a ∷ b ∷ []) [] h k e f = absurd (omega arith)
two_same (a ∷ b ∷ []) (c ∷ []) h k e f = absurd (omega arith)
two_same (a ∷ b ∷ []) (c ∷ d ∷ e' ∷ ys) h k e f = absurd (omega arith)

-- the same face isn't a half
equal_not_half : (forest : RefinedMesh) (i f j g : ℕ) (y : Cell) (h v : ℕ) → j < length forest.cells → cell_at forest j ≡ y → g ≡ h →
    IsSameFace (corner_at forest.mesh) (cell_at forest i) f (cell_at forest j) g → IsHalfAt (corner_at forest.mesh) (cell_at forest i) f y h v → ⊥
equal_not_half forest i f j g y h v hj e k s t =
    let m : Corners = corner_at forest.mesh in
    half_not_same m (cell_at forest i) y f h v t (pair_mid m (cell_at forest i) (cell_at forest j) f g s ∙ ap (λ c. mid m c g) e ∙ ap (mid m y) k)

equal_not_whole : (forest : RefinedMesh) (i f j g : ℕ) (y : Cell) (h v : ℕ) → cell_at forest j ≡ y → g ≡ h →
    IsSameFace (corner_at forest.mesh) (cell_at forest i) f (cell_at forest j) g → IsHalfAt (corner_at forest.mesh) y h (cell_at forest i) f v → ⊥
equal_not_whole forest i f j g y h v e k s t =
    let m : Corners = corner_at forest.mesh in
    half_not_same m y (cell_at forest i) h f v t (sym (pair_mid m (cell_at forest i) (cell_at forest j) f g s ∙ ap (λ c. mid m c g) e ∙ ap (mid m y) k))

equal_coarser : (forest : RefinedMesh) (i f j g k h half : ℕ) → IsCoveredBy forest i f (Equal j g) → IsCoveredBy forest i f (Coarser k h half) → ⊥
equal_coarser forest i f j g k h half s t =
    let n : (j ≡ k) × (g ≡ h) = names_met forest i f j g (Coarser k h half) (equal_met forest i f j g s.says) t.only in
    equal_not_half forest i f j g (cell_at forest k) h (half_end h half) s.says.0 (ap (cell_at forest) n.0) n.1 s.says.3 t.says.3

equal_finer : (forest : RefinedMesh) (i f j g : ℕ) (ks hs : List ℕ) → IsCoveredBy forest i f (Equal j g) → IsCoveredBy forest i f (Finer ks hs) → ⊥
equal_finer forest i f j g ks hs s t =
    let k : ℕ = slice_index ks 0 in let h : ℕ = slice_index hs 0 in
    let n : (k ≡ j) × (h ≡ g) = names_met forest i f k h (Equal j g) (finer_met forest i f k h (face_start f) t.says.0 t.says.2 t.says.4) s.only in
    equal_not_whole forest i f j g (cell_at forest k) h (face_start f) (ap (cell_at forest) (sym n.0)) (sym n.1) s.says.3 t.says.4

coarser_finer : (forest : RefinedMesh) (i f j g half : ℕ) (ks hs : List ℕ) → IsCoveredBy forest i f (Coarser j g half) → IsCoveredBy forest i f (Finer ks hs) → ⊥
coarser_finer forest i f j g half ks hs s t =
    let m : Corners = corner_at forest.mesh in
    let k : ℕ = slice_index ks 0 in let h : ℕ = slice_index hs 0 in
    let n : (k ≡ j) × (h ≡ g) = names_met forest i f k h (Coarser j g half) (finer_met forest i f k h (face_start f) t.says.0 t.says.2 t.says.4) s.only in
    let P : ℕ → Type 0 = λ o. IsHalfAt m (cell_at forest o) h (cell_at forest i) f (face_start f) in
    let Q : ℕ → Type 0 = λ o. IsHalfAt m (cell_at forest j) o (cell_at forest i) f (face_start f) in
    not_half_twice m (cell_at forest i) (cell_at forest j) f g (half_end g half) (face_start f) s.says.3 (subst Q n.1 (subst P n.0 t.says.4))

boundary_none : (forest : RefinedMesh) (i f id z e : ℕ) → IsMet forest i f z e → IsCoveredBy forest i f (Boundary id) → ⊥
boundary_none forest i f id z e m s = names_met forest i f z e (Boundary id) m s.only

two_coarser : (forest : RefinedMesh) → IsGrown forest → (i f j g half k h part : ℕ) → IsCoveredBy forest i f (Coarser j g half) → IsCoveredBy forest i f (Coarser k h part) → Coarser j g half ≡ Coarser k h part
two_coarser forest w i f j g half k h part s t =
    let m : Corners = corner_at forest.mesh in
    let n : (j ≡ k) × (g ≡ h) = names_met forest i f j g (Coarser k h part) (coarser_met forest i f j g half s.says) t.only in
    let a : mid m (cell_at forest i) f ≡ middle_of (vertex m (cell_at forest j) (half_end g half)) (mid m (cell_at forest j) g) = half_mid m (cell_at forest i) (cell_at forest j) f g (half_end g half) s.says.3 in
    let b : mid m (cell_at forest i) f ≡ middle_of (vertex m (cell_at forest k) (half_end h part)) (mid m (cell_at forest k) h) = half_mid m (cell_at forest i) (cell_at forest k) f h (half_end h part) t.says.3 in
    let P : ℕ → Type 0 = λ o. mid m (cell_at forest i) f ≡ middle_of (vertex m (cell_at forest o) (half_end h part)) (mid m (cell_at forest o) h) in
    let Q : ℕ → Type 0 = λ o. mid m (cell_at forest i) f ≡ middle_of (vertex m (cell_at forest j) (half_end o part)) (mid m (cell_at forest j) o) in
    let c = subst Q (sym n.1) (subst P (sym n.0) b) in
    let v : vertex m (cell_at forest j) (half_end g half) ≡ vertex m (cell_at forest j) (half_end g part) =
    part_one (vertex m (cell_at forest j) (half_end g half)) (vertex m (cell_at forest j) (half_end g part)) (mid m (cell_at forest j) g) (sym a ∙ c) in
    let is = cell_is (length forest.mesh.cells) m (on_boundary forest.mesh) (active_cells forest) (standing forest w) (cell_at forest j) (cell_there forest w j s.says.0) in
    let e : half_end g half ≡ half_end g part =
    vertex_one (length forest.mesh.cells) m w.coarse.distinct (cell_at forest j) is (half_end g half) (half_end g part) (end_vertex g half s.says.1 s.says.2) (end_vertex g part s.says.1 t.says.2) v in
    let o : half ≡ part = end_one g half part s.says.2 t.says.2 e in cc

-- one face isn't at both halves
not_both : (forest : RefinedMesh) → IsGrown forest → (i f k h l e : ℕ) → i < length forest.cells → f < 4 → k ≡ l → h ≡ e →
    IsHalfAt (corner_at forest.mesh) (cell_at forest k) h (cell_at forest i) f (face_start f) → IsHalfAt (corner_at forest.mesh) (cell_at forest l) e (cell_at forest i) f (face_end f) → ⊥
not_both forest w i f k h l e hi a kl he s t =
    let m : Corners = corner_at forest.mesh in
    let x : Cell = cell_at forest i in
    let b : mid m (cell_at forest k) h ≡ mid m (cell_at forest l) e = ap (λ o. mid m (cell_at forest o) h) kl ∙ ap (mid m (cell_at forest l)) he in
    let v : vertex m x (face_start f) ≡ vertex m x (face_end f) =
    part_one (vertex m x (face_start f)) (vertex m x (face_end f)) (mid m x f) (sym (half_mid m (cell_at forest k) x h f (face_start f) s) ∙ b ∙ half_mid m (cell_at forest l) x e f (face_end f) t) in
    let is = cell_is (length forest.mesh.cells) m (on_boundary forest.mesh) (active_cells forest) (standing forest w) x (cell_there forest w i hi) in
    ends_differ f (vertex_one (length forest.mesh.cells) m w.coarse.distinct x is (face_start f) (face_end f) (start_less f a) (end_less f a) v)

two_finer : (forest : RefinedMesh) → IsGrown forest → (i f : ℕ) (js gs ks hs : List ℕ) → i < length forest.cells → f < 4 → HasBoth (Finer js gs) → HasBoth (Finer ks hs) →
    IsCoveredBy forest i f (Finer js gs) → IsCoveredBy forest i f (Finer ks hs) → Finer js gs ≡ Finer ks hs
two_finer forest w i f js gs ks hs hi a bs bt s t =
    let j : ℕ = slice_index js 0 in let g : ℕ = slice_index gs 0 in let j' : ℕ = slice_index js 1 in let g' : ℕ = slice_index gs 1 in
    let k : ℕ = slice_index ks 0 in let h : ℕ = slice_index hs 0 in let k' : ℕ = slice_index ks 1 in let h' : ℕ = slice_index hs 1 in
    let n : ((j ≡ k) × (g ≡ h)) ⊎ ((j ≡ k') × (g ≡ h')) = names_met forest i f j g (Finer ks hs) (finer_met forest i f j g (face_start f) s.says.0 s.says.2 s.says.4) t.only in
    let o : ((j' ≡ k) × (g' ≡ h)) ⊎ ((j' ≡ k') × (g' ≡ h')) = names_met forest i f j' g' (Finer ks hs) (finer_met forest i f j' g' (face_end f) s.says.1 s.says.3 s.says.5) t.only in
    let first : (j ≡ k) × (g ≡ h) = ⊎_elim (λ (e : (j ≡ k) × (g ≡ h)). e) (λ (e : (j ≡ k') × (g ≡ h')). absurd (not_both forest w i f j g k' h' hi a e.0 e.1 s.says.4 t.says.5)) n in
    let last : (j' ≡ k') × (g' ≡ h') = ⊎_elim (λ (e : (j' ≡ k) × (g' ≡ h)). absurd (not_both forest w i f k h j' g' hi a (sym e.0) (sym e.1) t.says.4 s.says.5)) (λ (e : (j' ≡ k') × (g' ≡ h')). e) o in
    ap₂ (λ (xs ys : List ℕ). Finer xs ys) (two_same js ks bs.0 bt.0 first.0 last.0) (two_same gs hs bs.1 bt.1 first.1 last.1)

one_side : (forest : RefinedMesh) → IsGrown forest → (i f : ℕ) → i < length forest.cells → f < 4 → (s t : ActiveSide) → HasBoth s → HasBoth t → IsCoveredBy forest i f s → IsCoveredBy forest i f t → s ≡ t
one_side forest w i f hi a (Boundary id) (Boundary other) bs bt s t = ap Boundary (s.says.1 ∙ sym t.says.1)
one_side forest w i f hi a (Boundary id) (Equal k h) bs bt s t = absurd (boundary_none forest i f id k h (equal_met forest i f k h t.says) s)
one_side forest w i f hi a (Boundary id) (Coarser k h part) bs bt s t = absurd (boundary_none forest i f id k h (coarser_met forest i f k h part t.says) s)
one_side forest w i f hi a (Boundary id) (Finer ks hs) bs bt s t =
    absurd (boundary_none forest i f id (slice_index ks 0) (slice_index hs 0) (finer_met forest i f (slice_index ks 0) (slice_index hs 0) (face_start f) t.says.0 t.says.2 t.says.4) s)
one_side forest w i f hi a (Equal j g) (Boundary id) bs bt s t = absurd (boundary_none forest i f id j g (equal_met forest i f j g s.says) t)
one_side forest w i f hi a (Equal j g) (Equal k h) bs bt s t =
    let n : (j ≡ k) × (g ≡ h) = names_met forest i f j g (Equal k h) (equal_met forest i f j g s.says) t.only in
    let a : j ≡ k = n.0 in let b : g ≡ h = n.1 in cc
one_side forest w i f hi a (Equal j g) (Coarser k h part) bs bt s t = absurd (equal_coarser forest i f j g k h part s t)
one_side forest w i f hi a (Equal j g) (Finer ks hs) bs bt s t = absurd (equal_finer forest i f j g ks hs s t)
one_side forest w i f hi a (Coarser j g half) (Boundary id) bs bt s t = absurd (boundary_none forest i f id j g (coarser_met forest i f j g half s.says) t)
one_side forest w i f hi a (Coarser j g half) (Equal k h) bs bt s t = absurd (equal_coarser forest i f k h j g half t s)
one_side forest w i f hi a (Coarser j g half) (Coarser k h part) bs bt s t = two_coarser forest w i f j g half k h part s t
one_side forest w i f hi a (Coarser j g half) (Finer ks hs) bs bt s t = absurd (coarser_finer forest i f j g half ks hs s t)
one_side forest w i f hi a (Finer js gs) (Boundary id) bs bt s t =
    absurd (boundary_none forest i f id (slice_index js 0) (slice_index gs 0) (finer_met forest i f (slice_index js 0) (slice_index gs 0) (face_start f) s.says.0 s.says.2 s.says.4) t)
one_side forest w i f hi a (Finer js gs) (Equal k h) bs bt s t = absurd (equal_finer forest i f k h js gs t s)
one_side forest w i f hi a (Finer js gs) (Coarser k h part) bs bt s t = absurd (coarser_finer forest i f k h part js gs t s)
one_side forest w i f hi a (Finer js gs) (Finer ks hs) bs bt s t = two_finer forest w i f js gs ks hs hi a bs bt s t

pub covered_once : (forest : RefinedMesh) → IsGrown forest → (cell face : ℕ) → cell < length forest.cells → face < 4 → IsCoveredOnce forest cell face
covered_once forest w i f hi a =
    let len = names_length forest in
    let c = forest_covered (length forest.mesh.cells) (corner_at forest.mesh) (on_boundary forest.mesh) (active_cells forest) w.coarse w.leaves (cell_at forest i) f (has_in (active_cells forest) i (omega arith)) a in
    let t = one_way forest w i f hi a c in
    record { side = t.0; both = t.1.0; covered = t.1.1; once = λ other b d. one_side forest w i f hi a other t.0 b t.1.0 d t.1.1 }
