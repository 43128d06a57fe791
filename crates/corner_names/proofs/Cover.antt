-- In a balanced forest each face of an active cell is covered as it should be.
use Rattle.std.proofs.Common.{◌≡◌, ℕ, zero, suc, ◌+◌, ◌/◌, ◌%◌, ◌<◌, ◌≤◌, ◌⊎◌, inl, inr, ⊎_elim, true, false, refl, sym, ap, ◌∙◌, arith, lit<, lit≤}
use Rattle.corner_names.specs.Names.{Cell, root, child, Name, node, middle_of, SamePair, name_size}
use Rattle.corner_names.specs.Cells.{Corners, vertex, face_start, face_end, is_on, mid, beside, IsCell, AreDistinct, Across, AreShared}
use Rattle.corner_names.specs.Forest.{IsHalfAt}
use Rattle.corner_names.proofs.Names.{middle_of-sym, middle_of-inj}
use Rattle.corner_names.proofs.Cells.{outer_mid, inner_mid}
use Rattle.corner_names.proofs.Distinct.{vertex_one, bool_cases}
use Rattle.corner_names.proofs.Across.{half_not_inner, end_smaller, mid_node, root_mid}

past : (n : ℕ) → suc (suc (suc (suc n))) < 4 → ⊥
past n h = omega arith

few_less : (x y : ℕ) → x ≡ y → x < 2 → 2 ≤ y → ⊥
few_less x y e a b = omega arith

-- the two axes of an inner edge, in numbers
InnerForm : ℕ → ℕ → Type 0
InnerForm k f =
    ((beside k f < 2) × (f + k / 2 ≡ 3) × (k % 2 ≡ beside k f)) ⊎ ((2 ≤ beside k f) × (f + k % 2 ≡ 1) × (2 + k / 2 ≡ beside k f))

inner_form : (k f : ℕ) → k < 4 → f < 4 → is_on k f ≡ false → InnerForm k f
unfolding InnerForm
inner_form zero zero a b h = cc
inner_form zero (suc zero) a b h = inr (lit≤ tt, refl, refl)
inner_form zero (suc (suc zero)) a b h = cc
inner_form zero (suc (suc (suc zero))) a b h = inl (lit< tt, refl, refl)
inner_form zero (suc (suc (suc (suc f)))) a b h = absurd (past f b)
inner_form (suc zero) zero a b h = inr (lit≤ tt, refl, refl)
inner_form (suc zero) (suc zero) a b h = cc
inner_form (suc zero) (suc (suc zero)) a b h = cc
inner_form (suc zero) (suc (suc (suc zero))) a b h = inl (lit< tt, refl, refl)
inner_form (suc zero) (suc (suc (suc (suc f)))) a b h = absurd (past f b)
inner_form (suc (suc zero)) zero a b h = cc
inner_form (suc (suc zero)) (suc zero) a b h = inr (lit≤ tt, refl, refl)
inner_form (suc (suc zero)) (suc (suc zero)) a b h = inl (lit< tt, refl, refl)
inner_form (suc (suc zero)) (suc (suc (suc zero))) a b h = cc
inner_form (suc (suc zero)) (suc (suc (suc (suc f)))) a b h = absurd (past f b)
inner_form (suc (suc (suc zero))) zero a b h = inr (lit≤ tt, refl, refl)
inner_form (suc (suc (suc zero))) (suc zero) a b h = cc
inner_form (suc (suc (suc zero))) (suc (suc zero)) a b h = inl (lit< tt, refl, refl)
inner_form (suc (suc (suc zero))) (suc (suc (suc zero))) a b h = cc
inner_form (suc (suc (suc zero))) (suc (suc (suc (suc f)))) a b h = absurd (past f b)
inner_form (suc (suc (suc (suc k)))) f a b h = absurd (past k a)

inner_face : (k f l h : ℕ) → InnerForm k f → InnerForm l h → beside k f ≡ beside l h → k ≡ l → f ≡ h
unfolding InnerForm
inner_face k f l h x y e q =
    let kk : k / 2 ≡ l / 2 = ap (λ v. v / 2) q in let mm : k % 2 ≡ l % 2 = ap (λ v. v % 2) q in
    ⊎_elim
    (λ (u : (beside k f < 2) × (f + k / 2 ≡ 3) × (k % 2 ≡ beside k f)). ⊎_elim
    (λ (v : (beside l h < 2) × (h + l / 2 ≡ 3) × (l % 2 ≡ beside l h)). omega arith)
    (λ (v : (2 ≤ beside l h) × (h + l % 2 ≡ 1) × (2 + l / 2 ≡ beside l h)). absurd (few_less (beside k f) (beside l h) e u.0 v.0)) y)
    (λ (u : (2 ≤ beside k f) × (f + k % 2 ≡ 1) × (2 + k / 2 ≡ beside k f)). ⊎_elim
    (λ (v : (beside l h < 2) × (h + l / 2 ≡ 3) × (l % 2 ≡ beside l h)). absurd (few_less (beside l h) (beside k f) (sym e) v.0 u.0))
    (λ (v : (2 ≤ beside l h) × (h + l % 2 ≡ 1) × (2 + l / 2 ≡ beside l h)). omega arith) y)
    x

-- of two children on one side of an inner edge that are not the first, both are one
third_half : (k l i : ℕ) → k < 4 → l < 4 → i < 4 → k / 2 ≡ l / 2 → k / 2 ≡ i / 2 → (k ≡ l → ⊥) → (k ≡ i → ⊥) → l ≡ i
third_half k l i a b c x y s t = omega arith

third_mod : (k l i : ℕ) → k < 4 → l < 4 → i < 4 → k % 2 ≡ l % 2 → k % 2 ≡ i % 2 → (k ≡ l → ⊥) → (k ≡ i → ⊥) → l ≡ i
third_mod k l i a b c x y s t = omega arith

inner_child : (k f l h : ℕ) → InnerForm k f → InnerForm l h → beside k f ≡ beside l h → ((beside k f < 2) × (k % 2 ≡ l % 2)) ⊎ ((2 ≤ beside k f) × (k / 2 ≡ l / 2))
unfolding InnerForm
inner_child k f l h x y e =
    ⊎_elim
    (λ (u : (beside k f < 2) × (f + k / 2 ≡ 3) × (k % 2 ≡ beside k f)). ⊎_elim
    (λ (v : (beside l h < 2) × (h + l / 2 ≡ 3) × (l % 2 ≡ beside l h)). inl (u.0, u.2 ∙ e ∙ sym v.2))
    (λ (v : (2 ≤ beside l h) × (h + l % 2 ≡ 1) × (2 + l / 2 ≡ beside l h)). absurd (few_less (beside k f) (beside l h) e u.0 v.0)) y)
    (λ (u : (2 ≤ beside k f) × (f + k % 2 ≡ 1) × (2 + k / 2 ≡ beside k f)). ⊎_elim
    (λ (v : (beside l h < 2) × (h + l / 2 ≡ 3) × (l % 2 ≡ beside l h)). absurd (few_less (beside l h) (beside k f) (sym e) v.0 u.0))
    (λ (v : (2 ≤ beside l h) × (h + l % 2 ≡ 1) × (2 + l / 2 ≡ beside l h)). let t : 2 + k / 2 ≡ 2 + l / 2 = u.2 ∙ e ∙ sym v.2 in inr (u.0, omega arith)) y)
    x

inner_one : (k f l h i g : ℕ) → k < 4 → f < 4 → l < 4 → h < 4 → i < 4 → g < 4 →
    is_on k f ≡ false → is_on l h ≡ false → is_on i g ≡ false → beside k f ≡ beside l h → beside k f ≡ beside i g →
    ((k ≡ l) → (f ≡ h) → ⊥) → ((k ≡ i) → (f ≡ g) → ⊥) → (l ≡ i) × (h ≡ g)
inner_one k f l h i g a b c d e j x y z u v s t =
    let K = inner_form k f a b x in let L = inner_form l h c d y in let I = inner_form i g e j z in
    let kl : k ≡ l → ⊥ = λ q. s q (inner_face k f l h K L u q) in
    let ki : k ≡ i → ⊥ = λ q. t q (inner_face k f i g K I v q) in
    let li : l ≡ i = ⊎_elim
    (λ (p : (beside k f < 2) × (k % 2 ≡ l % 2)). ⊎_elim
    (λ (q : (beside k f < 2) × (k % 2 ≡ i % 2)). third_mod k l i a c e p.1 q.1 kl ki)
    (λ (q : (2 ≤ beside k f) × (k / 2 ≡ i / 2)). absurd (few_less (beside k f) (beside k f) refl p.0 q.0)) (inner_child k f i g K I v))
    (λ (p : (2 ≤ beside k f) × (k / 2 ≡ l / 2)). ⊎_elim
    (λ (q : (beside k f < 2) × (k % 2 ≡ i % 2)). absurd (few_less (beside k f) (beside k f) refl q.0 p.0))
    (λ (q : (2 ≤ beside k f) × (k / 2 ≡ i / 2)). third_half k l i a c e p.1 q.1 kl ki) (inner_child k f i g K I v))
    (inner_child k f l h K L u) in
    (li, inner_face l h i g L I (sym u ∙ v) li)

-- a face has at most one other side
pub across_one : (n : ℕ) (m : Corners) → AreDistinct n m → AreShared n m → (p q r : Cell) → IsCell n p → IsCell n q → IsCell n r →
    (f h g : ℕ) → f < 4 → h < 4 → g < 4 → Across m p f q h → Across m p f r g → (q ≡ r) × (h ≡ g)
across_one n m d s (root c) (root q) (root r) ip iq ir f h g a b e x y =
    let t : (q ≡ r) × (h ≡ g) = s c q r f h g ip iq ir a b e x.0 y.0 x.1 y.1 in (ap root t.0, t.1)
across_one n m d s (root c) (root q) (child r i) ip iq ir f h g a b e x y = absurd y
across_one n m d s (root c) (child q l) r ip iq ir f h g a b e x y = absurd x
across_one n m d s (child p k) (root q) r ip iq ir f h g a b e x y = absurd x
across_one n m d s (child p k) (child q l) (root r) ip iq ir f h g a b e x y = absurd y
across_one n m d s (child p k) (child q l) (child r i) ip iq ir f h g a b e x y =
    let R : Type 0 = (child q l ≡ child r i) × (h ≡ g) in
    ⊎_elim
    (λ (u : (is_on k f ≡ true) × (is_on l h ≡ true) × (vertex m p k ≡ vertex m q l) × Across m p f q h). ⊎_elim
    (λ (v : (is_on k f ≡ true) × (is_on i g ≡ true) × (vertex m p k ≡ vertex m r i) × Across m p f r g).
    let t : (q ≡ r) × (h ≡ g) = across_one n m d s p q r ip.0 iq.0 ir.0 f h g a b e u.3 v.3 in
    let qr : q ≡ r = t.0 in
    let li : l ≡ i = vertex_one n m d r ir.0 l i iq.1 ir.1 (ap (λ c. vertex m c l) (sym qr) ∙ sym u.2 ∙ v.2) in
    let R1 : R = (cc, t.1) in R1)
    (λ (v : (is_on k f ≡ false) × (is_on i g ≡ false) × (p ≡ r) × (beside k f ≡ beside i g) × ((k ≡ i) → (f ≡ g) → ⊥)). let z : true ≡ false = sym u.0 ∙ v.0 in cc)
    y)
    (λ (u : (is_on k f ≡ false) × (is_on l h ≡ false) × (p ≡ q) × (beside k f ≡ beside l h) × ((k ≡ l) → (f ≡ h) → ⊥)). ⊎_elim
    (λ (v : (is_on k f ≡ true) × (is_on i g ≡ true) × (vertex m p k ≡ vertex m r i) × Across m p f r g). let z : true ≡ false = sym v.0 ∙ u.0 in cc)
    (λ (v : (is_on k f ≡ false) × (is_on i g ≡ false) × (p ≡ r) × (beside k f ≡ beside i g) × ((k ≡ i) → (f ≡ g) → ⊥)).
    let t : (l ≡ i) × (h ≡ g) = inner_one k f l h i g ip.1 a iq.1 b ir.1 e u.0 u.1 v.1 u.3 v.3 u.4 v.4 in
    let li : l ≡ i = t.0 in let pq : p ≡ q = u.2 in let pr : p ≡ r = v.2 in
    let R1 : R = (cc, t.1) in R1)
    y)
    x

pub pair_mid : (m : Corners) (x y : Cell) (f h : ℕ) →
    SamePair (vertex m x (face_start f)) (vertex m x (face_end f)) (vertex m y (face_start h)) (vertex m y (face_end h)) → mid m x f ≡ mid m y h
unfolding mid
pair_mid m x y f h s =
    ⊎_elim
    (λ (t : (vertex m x (face_start f) ≡ vertex m y (face_start h)) × (vertex m x (face_end f) ≡ vertex m y (face_end h))). ap (λ v. middle_of v (vertex m x (face_end f))) t.0 ∙ ap (middle_of (vertex m y (face_start h))) t.1)
    (λ (t : (vertex m x (face_start f) ≡ vertex m y (face_end h)) × (vertex m x (face_end f) ≡ vertex m y (face_start h))). ap (λ v. middle_of v (vertex m x (face_end f))) t.0 ∙ ap (middle_of (vertex m y (face_end h))) t.1 ∙ middle_of-sym (vertex m y (face_end h)) (vertex m y (face_start h)))
    s

pub half_mid : (m : Corners) (x y : Cell) (f h v : ℕ) → IsHalfAt m x f y h v → mid m x f ≡ middle_of (vertex m y v) (mid m y h)
unfolding mid
half_mid m x y f h v s =
    let M : Name = middle_of (vertex m y (face_start h)) (vertex m y (face_end h)) in
    ⊎_elim
    (λ (t : (vertex m x (face_start f) ≡ vertex m y v) × (vertex m x (face_end f) ≡ M)). ap (λ v. middle_of v (vertex m x (face_end f))) t.0 ∙ ap (middle_of (vertex m y v)) t.1)
    (λ (t : (vertex m x (face_start f) ≡ M) × (vertex m x (face_end f) ≡ vertex m y v)). ap (λ v. middle_of v (vertex m x (face_end f))) t.0 ∙ ap (middle_of M) t.1 ∙ middle_of-sym M (vertex m y v))
    s.1

pub mid_half : (m : Corners) (x y : Cell) (f h v : ℕ) → is_on v h ≡ true → mid m x f ≡ middle_of (vertex m y v) (mid m y h) → IsHalfAt m x f y h v
unfolding mid
mid_half m x y f h v on e = (on, middle_of-inj _ _ _ _ e)

-- a face that is a half of a face lies on the same face of the cell above
pub record HalfUp (m : Corners) (x : Cell) (f : ℕ) (y : Cell) (h v : ℕ) : Type 0 where
  pub above : Cell
  pub number : ℕ
  pub is : x ≡ child above number
  pub on : is_on number f ≡ true
  pub end : vertex m above number ≡ vertex m y v
  pub edge : mid m above f ≡ mid m y h

pub half_up : (n : ℕ) (m : Corners) (x y : Cell) → IsCell n x → IsCell n y → (f h v : ℕ) → f < 4 → h < 4 → is_on v h ≡ true →
    mid m x f ≡ middle_of (vertex m y v) (mid m y h) → HalfUp m x f y h v
half_up n m (root c) y ix iy f h v a b on e =
    let s = node (m c (face_start f)) in let t = node (m c (face_end f)) in
    ⊎_elim
    (λ (x : (s ≡ vertex m y v) × (t ≡ mid m y h)). absurd (mid_node m y h _ (sym x.1)))
    (λ (x : (s ≡ mid m y h) × (t ≡ vertex m y v)). absurd (mid_node m y h _ (sym x.0)))
    (middle_of-inj s t (vertex m y v) (mid m y h) (sym (root_mid m c f) ∙ e))
half_up n m (child p k) y ix iy f h v a b on e =
    ⊎_elim
    (λ (un : is_on k f ≡ true). ⊎_elim
    (λ (s : (vertex m p k ≡ vertex m y v) × (mid m p f ≡ mid m y h)). record { above = p; number = k; is = refl; on = un; end = s.0; edge = s.1 })
    (λ (s : (vertex m p k ≡ mid m y h) × (mid m p f ≡ vertex m y v)).
    let u : name_size (vertex m p k) ≡ name_size (mid m y h) = ap name_size s.0 in
    let w : name_size (mid m p f) ≡ name_size (vertex m y v) = ap name_size s.1 in
    absurd (omega (arith, end_smaller m p k f un, end_smaller m y v h on)))
    (middle_of-inj (vertex m p k) (mid m p f) (vertex m y v) (mid m y h) (sym (outer_mid m p k f ix.1 a un) ∙ e)))
    (λ (un : is_on k f ≡ false). absurd (half_not_inner m y p v h (beside k f) on (sym e ∙ inner_mid m p k f ix.1 a un)))
    (bool_cases (is_on k f))
