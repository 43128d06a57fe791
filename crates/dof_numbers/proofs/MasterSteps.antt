-- One face more in the table of hanging dofs.
use Rattle.std.proofs.Common.{◌≡◌, ◌∙◌, sym, ap, subst, ℕ, ◌+◌, ◌-◌, ◌<◌, ◌≤◌, ◌⊎◌, inl, inr, ⊎_elim, List, length, get_or-set_same, get_or-set_other, arith}
use Rattle.std.specs.Prelude.{Some, None}
use Rattle.std.specs.declared.option.Option.{Option}
use Rattle.corner_names.specs.Cells.{face_start, face_end}
use Rattle.corner_names.proofs.Across.{nat_decides, start_less, end_less}
use Rattle.hanging_refine.specs.Refined.{RefinedMesh}
use Rattle.hanging_refine.specs.Numbered.{corner_name}
use Rattle.hanging_refine.specs.Sides.{half_end}
use Rattle.hanging_refine.specs.Grown.{IsGrown}
use Rattle.dof_numbers.specs.declared.hanging.Masters.{Masters}
use Rattle.fem_fixed.specs.Lists.{different}
use Rattle.fem_fixed.proofs.Occurrences.{numbered}
use Rattle.dof_numbers.specs.Dofs.{IsDegree, same_name, name_list, corner_dof, middle_dof, middle_name}
use Rattle.dof_numbers.specs.Hanging.{IsHanging}
use Rattle.dof_numbers.specs.Masters.{masters_of, masters_at, HoldsMasters, IsOfFace, IsDone, HoldsFirst, IsNotedAt, nothing, noted, IsNoted, IsWithin, AreWithin}
use Rattle.dof_numbers.proofs.Names.{names_equal}
use Rattle.dof_numbers.proofs.Rows.{corner_listed, middle_listed}
use Rattle.dof_numbers.proofs.Hung.{one_dof, one_face, half_less}

same_some : (x y : Masters) → Some x ≡ Some y → x ≡ y
same_some x y e = cc

no_some : (x : Option Masters) (e : Masters) → x ≡ None → x ≡ Some e → ⊥
no_some x e n h = cc

-- the same of the faces before one, and of what hangs there with a number below n
record HoldsPart (degree : ℕ) (forest : RefinedMesh) (i j n : ℕ) (table : List (Option Masters)) : Type 0 where
  found : (dof c f h : ℕ) → IsDone i j c f ⊎ ((c ≡ i) × (f ≡ j) × (h < n)) → IsHanging degree forest dof c f h → masters_at table dof ≡ Some (masters_of degree forest c f h)
  only : (dof : ℕ) (e : Masters) → masters_at table dof ≡ Some e → IsOfFace degree forest dof e

less : (a b : ℕ) → a < b + 1 → (a ≡ b → ⊥) → a < b
less a b h e = grind arith

-- what hangs with the number n, or was there before
split : (i j n c f h : ℕ) → IsDone i j c f ⊎ ((c ≡ i) × (f ≡ j) × (h < n + 1)) → (IsDone i j c f ⊎ ((c ≡ i) × (f ≡ j) × (h < n))) ⊎ ((c ≡ i) × (f ≡ j) × (h ≡ n))
split i j n c f h d =
    ⊎_elim (λ (s : IsDone i j c f). inl (inl s))
    (λ (s : (c ≡ i) × (f ≡ j) × (h < n + 1)). ⊎_elim (λ (e : h ≡ n). inr (s.0, s.1, e)) (λ (e : h ≡ n → ⊥). inl (inr (s.0, s.1, less h n s.2 e))) (nat_decides h n)) d

moved : (degree : ℕ) (forest : RefinedMesh) (dof c f h i j n : ℕ) → c ≡ i → f ≡ j → h ≡ n → IsHanging degree forest dof c f h → IsHanging degree forest dof i j n
moved degree forest dof c f h i j n a b d k =
    let P : ℕ → Type 0 = λ x. IsHanging degree forest dof x f h in
    let Q : ℕ → Type 0 = λ x. IsHanging degree forest dof i x h in
    let R : ℕ → Type 0 = λ x. IsHanging degree forest dof i j x in
    subst R d (subst Q b (subst P a k))

same_masters : (degree : ℕ) (forest : RefinedMesh) (c f h i j n : ℕ) → c ≡ i → f ≡ j → h ≡ n → masters_of degree forest i j n ≡ masters_of degree forest c f h
same_masters degree forest c f h i j n a b d =
    let M : ℕ → ℕ → ℕ → Masters = masters_of degree forest in
    ap (λ x. M x j n) (sym a) ∙ ap (λ x. M c x n) (sym b) ∙ ap (M c f) (sym d)

part_step : (degree : ℕ) → IsDegree degree → (forest : RefinedMesh) → IsGrown forest → (i j n : ℕ) (old new : List (Option Masters)) → HoldsPart degree forest i j n old → IsNotedAt degree forest i j n old new → HoldsPart degree forest i j (n + 1) new
part_step degree ok forest w i j n old new h (nothing none e) = record {
  found = λ dof c f k d is. ⊎_elim (λ (s : IsDone i j c f ⊎ ((c ≡ i) × (f ≡ j) × (k < n))). ap (λ t. masters_at t dof) e ∙ h.found dof c f k s is)
      (λ (s : (c ≡ i) × (f ≡ j) × (k ≡ n)). absurd (none dof (moved degree forest dof c f k i j n s.0 s.1 s.2 is))) (split i j n c f k d);
  only = λ dof x k. h.only dof x (sym (ap (λ t. masters_at t dof) e) ∙ k);
}
part_step degree ok forest w i j n old new h (noted at k less e) =
    let here : masters_at new at ≡ Some (masters_of degree forest i j n) = ap (λ t. masters_at t at) e ∙ get_or-set_same old at (Some (masters_of degree forest i j n)) None less in
    let there : (dof : ℕ) → (dof ≡ at → ⊥) → masters_at new dof ≡ masters_at old dof = λ dof z. ap (λ t. masters_at t dof) e ∙ get_or-set_other old at dof (Some (masters_of degree forest i j n)) None z in
    record {
      found = λ dof c f p d l. ⊎_elim
          (λ (s : dof ≡ at).
          let P : ℕ → Type 0 = λ x. IsHanging degree forest x c f p in
          let t = one_face degree ok forest w at c f p i j n (subst P s l) k in
          ap (masters_at new) s ∙ here ∙ ap Some (same_masters degree forest c f p i j n t.0 t.1 t.2))
          (λ (s : dof ≡ at → ⊥). there dof s ∙ ⊎_elim (λ (u : IsDone i j c f ⊎ ((c ≡ i) × (f ≡ j) × (p < n))). h.found dof c f p u l)
          (λ (u : (c ≡ i) × (f ≡ j) × (p ≡ n)). absurd (s (one_dof degree forest dof at i j n (moved degree forest dof c f p i j n u.0 u.1 u.2 l) k))) (split i j n c f p d))
          (nat_decides dof at);
      only = λ dof x l. ⊎_elim
          (λ (s : dof ≡ at).
          let P : ℕ → Type 0 = λ z. IsHanging degree forest z i j n in
          record { c = i; f = j; h = n; hanging = subst P (sym s) k; masters = same_some x (masters_of degree forest i j n) (sym l ∙ ap (masters_at new) s ∙ here) })
          (λ (s : dof ≡ at → ⊥). h.only dof x (sym (there dof s) ∙ l)) (nat_decides dof at);
    }

pub none_first : (degree : ℕ) (forest : RefinedMesh) (table : List (Option Masters)) → ((dof : ℕ) → masters_at table dof ≡ None) → HoldsFirst degree forest 0 0 table
none_first degree forest table none = record {
  found = λ dof c f h d k. ⊎_elim (λ (s : c < 0). absurd (omega arith)) (λ (s : (c ≡ 0) × (f < 0)). absurd (omega (arith, s.1))) d;
  only = λ dof e h. absurd (no_some (masters_at table dof) e (none dof) h);
}

next_face : (i j c f : ℕ) → IsDone i (j + 1) c f → IsDone i j c f ⊎ ((c ≡ i) × (f ≡ j))
next_face i j c f d =
    ⊎_elim (λ (s : c < i). inl (inl s))
    (λ (s : (c ≡ i) × (f < j + 1)). ⊎_elim (λ (e : f ≡ j). inr (s.0, e)) (λ (e : f ≡ j → ⊥). inl (inr (s.0, less f j s.1 e))) (nat_decides f j)) d

two_at_most : (degree h : ℕ) → IsDegree degree → h < degree → h < 2
two_at_most degree h d b = ⊎_elim (λ (e : degree ≡ 1). omega arith) (λ (e : degree ≡ 2). omega arith) d

pub face_step : (degree : ℕ) → IsDegree degree → (forest : RefinedMesh) → IsGrown forest → (i j : ℕ) (old new : List (Option Masters)) → HoldsFirst degree forest i j old → IsNoted degree forest i j old new → HoldsFirst degree forest i (j + 1) new
face_step degree ok forest w i j old new h t =
    let start : HoldsPart degree forest i j 0 old = record {
      found = λ dof c f k d is. ⊎_elim (λ (s : IsDone i j c f). h.found dof c f k s is) (λ (s : (c ≡ i) × (f ≡ j) × (k < 0)). absurd (omega (arith, s.2))) d;
      only = h.only;
    } in
    let one = part_step degree ok forest w i j 0 old t.between start t.first in
    let two = part_step degree ok forest w i j 1 t.between new one t.second in
    record {
      found = λ dof c f k d is. two.found dof c f k (⊎_elim (λ (s : IsDone i j c f). inl s) (λ (s : (c ≡ i) × (f ≡ j)). inr (s.0, s.1, two_at_most degree k ok is.is_one)) (next_face i j c f d)) is;
      only = two.only;
    }

pub cell_step : (degree : ℕ) (forest : RefinedMesh) (i j : ℕ) (table : List (Option Masters)) → 4 ≤ j → HoldsFirst degree forest i j table → HoldsFirst degree forest (i + 1) 0 table
cell_step degree forest i j table b h = record {
  found = λ dof c f p d k. h.found dof c f p (before i j c f b k.hanging.is_face d) k;
  only = h.only;
}
  where
    before : (i j c f : ℕ) → 4 ≤ j → f < 4 → IsDone (i + 1) 0 c f → IsDone i j c f
    before i j c f b l d =
        ⊎_elim (λ (s : c < i + 1). ⊎_elim (λ (e : c ≡ i). inr (e, omega arith)) (λ (e : c ≡ i → ⊥). inl (less c i s e)) (nat_decides c i))
        (λ (s : (c ≡ i + 1) × (f < 0)). absurd (omega (arith, s.1))) d

pub whole_table : (degree : ℕ) (forest : RefinedMesh) (i : ℕ) (table : List (Option Masters)) → length forest.cells ≤ i → HoldsFirst degree forest i 0 table → HoldsMasters degree forest table
whole_table degree forest i table b h = record { found = λ dof c f p k. h.found dof c f p (inl (omega (arith, k.hanging.is_cell))) k; only = h.only }

below_one : (size c f h : ℕ) (forest : RefinedMesh) → c < length forest.cells → f < 4 → size ≡ different same_name (name_list 1 forest) → IsWithin size (masters_of 1 forest c f h)
below_one size c f h forest hc hf s =
    let g = numbered names_equal (name_list 1 forest) in
    let a : corner_dof 1 forest c (face_start f) < different same_name (name_list 1 forest) = g.below (corner_name forest c (face_start f)) (corner_listed 1 forest c (face_start f) hc (start_less f hf)) in
    let b : corner_dof 1 forest c (face_end f) < different same_name (name_list 1 forest) = g.below (corner_name forest c (face_end f)) (corner_listed 1 forest c (face_end f) hc (end_less f hf)) in
    (omega arith, omega arith)

below_two : (size c f h : ℕ) (forest : RefinedMesh) → c < length forest.cells → f < 4 → size ≡ different same_name (name_list 2 forest) → IsWithin size (masters_of 2 forest c f h)
below_two size c f h forest hc hf s =
    let g = numbered names_equal (name_list 2 forest) in
    let near : ℕ = half_end f h in let far : ℕ = half_end f (1 - h) in
    let a : corner_dof 2 forest c near < different same_name (name_list 2 forest) = g.below (corner_name forest c near) (corner_listed 2 forest c near hc (half_less f h hf)) in
    let m : middle_dof forest c f < different same_name (name_list 2 forest) = g.below (middle_name forest c f) (middle_listed forest c f hc hf) in
    let b : corner_dof 2 forest c far < different same_name (name_list 2 forest) = g.below (corner_name forest c far) (corner_listed 2 forest c far hc (half_less f (1 - h) hf)) in
    (omega arith, omega arith, omega arith)

-- the masters are dofs
pub all_within : (degree : ℕ) → IsDegree degree → (forest : RefinedMesh) (size : ℕ) (table : List (Option Masters)) → size ≡ different same_name (name_list degree forest) → HoldsMasters degree forest table → AreWithin size table
all_within degree ok forest size table s h dof e k =
    let t = h.only dof e k in
    let hc = t.hanging.hanging.is_cell in let hf = t.hanging.hanging.is_face in
    let W : ℕ → Type 0 = λ d. IsWithin size (masters_of d forest t.c t.f t.h) in
    let w : W degree = ⊎_elim
    (λ (one : degree ≡ 1). subst W (sym one) (below_one size t.c t.f t.h forest hc hf (s ∙ ap (λ d. different same_name (name_list d forest)) one)))
    (λ (two : degree ≡ 2). subst W (sym two) (below_two size t.c t.f t.h forest hc hf (s ∙ ap (λ d. different same_name (name_list d forest)) two))) ok in
    subst (IsWithin size) (sym t.masters) w
