-- The step keeps a forest balanced.
use Rattle.std.proofs.Common.{◌≡◌, ℕ, zero, suc, ◌<◌, ◌⊎◌, inl, inr, ⊎_elim, Bool, true, false, refl, sym, ap, subst, ◌∙◌, arith, lit<}
use Rattle.std.specs.Prelude.{◌||◌}
use Rattle.corner_names.specs.Names.{Cell, root, child, Name, centre, middle_of}
use Rattle.corner_names.specs.Cells.{Corners, vertex, face_start, face_end, is_on, mid, beside, IsCell, Across}
use Rattle.corner_names.specs.Forest.{IsMesh, OnBoundary, Exists, Facing, IsBalanced, IsChoice, stepped}
use Rattle.corner_names.proofs.Cells.{outer_mid, inner_mid}
use Rattle.corner_names.proofs.Distinct.{bool_cases}
use Rattle.corner_names.proofs.Across.{mid_pair, start_less, end_less, on_cases}

-- the other child at an inner edge
pub record Sibling (k f : ℕ) : Type 0 where
  pub number : ℕ
  pub face : ℕ
  pub is_child : number < 4
  pub is_face : face < 4
  pub inside : is_on number face ≡ false
  pub same : beside k f ≡ beside number face
  pub apart : k ≡ number → ⊥

past : (n : ℕ) → suc (suc (suc (suc n))) < 4 → ⊥
past n h = omega arith

pub sibling : (k f : ℕ) → k < 4 → f < 4 → is_on k f ≡ false → Sibling k f
sibling zero zero a b h = cc
sibling zero (suc zero) a b h = record { number = 1; face = 0; is_child = lit< tt; is_face = lit< tt; inside = refl; same = refl; apart = λ e. omega arith }
sibling zero (suc (suc zero)) a b h = cc
sibling zero (suc (suc (suc zero))) a b h = record { number = 2; face = 2; is_child = lit< tt; is_face = lit< tt; inside = refl; same = refl; apart = λ e. omega arith }
sibling zero (suc (suc (suc (suc f)))) a b h = absurd (past f b)
sibling (suc zero) zero a b h = record { number = 0; face = 1; is_child = lit< tt; is_face = lit< tt; inside = refl; same = refl; apart = λ e. omega arith }
sibling (suc zero) (suc zero) a b h = cc
sibling (suc zero) (suc (suc zero)) a b h = cc
sibling (suc zero) (suc (suc (suc zero))) a b h = record { number = 3; face = 2; is_child = lit< tt; is_face = lit< tt; inside = refl; same = refl; apart = λ e. omega arith }
sibling (suc zero) (suc (suc (suc (suc f)))) a b h = absurd (past f b)
sibling (suc (suc zero)) zero a b h = cc
sibling (suc (suc zero)) (suc zero) a b h = record { number = 3; face = 0; is_child = lit< tt; is_face = lit< tt; inside = refl; same = refl; apart = λ e. omega arith }
sibling (suc (suc zero)) (suc (suc zero)) a b h = record { number = 0; face = 3; is_child = lit< tt; is_face = lit< tt; inside = refl; same = refl; apart = λ e. omega arith }
sibling (suc (suc zero)) (suc (suc (suc zero))) a b h = cc
sibling (suc (suc zero)) (suc (suc (suc (suc f)))) a b h = absurd (past f b)
sibling (suc (suc (suc zero))) zero a b h = record { number = 2; face = 1; is_child = lit< tt; is_face = lit< tt; inside = refl; same = refl; apart = λ e. omega arith }
sibling (suc (suc (suc zero))) (suc zero) a b h = cc
sibling (suc (suc (suc zero))) (suc (suc zero)) a b h = record { number = 1; face = 3; is_child = lit< tt; is_face = lit< tt; inside = refl; same = refl; apart = λ e. omega arith }
sibling (suc (suc (suc zero))) (suc (suc (suc zero))) a b h = cc
sibling (suc (suc (suc zero))) (suc (suc (suc (suc f)))) a b h = absurd (past f b)
sibling (suc (suc (suc (suc k)))) f a b h = absurd (past k a)

or_true : (a b : Bool) → (a || b) ≡ true → (a ≡ true) ⊎ (b ≡ true)
or_true true b h = inl refl
or_true false b h = inr h

or_left : (a b : Bool) → a ≡ true → (a || b) ≡ true
or_left true b h = refl
or_left false b h = cc

or_right : (a b : Bool) → b ≡ true → (a || b) ≡ true
or_right true b h = refl
or_right false b h = h

pub start_on : (f : ℕ) → is_on (face_start f) f ≡ true
start_on f = grind arith

pub end_on : (f : ℕ) → is_on (face_end f) f ≡ true
end_on f = grind arith

-- an edge across is one edge
pub across_mid : (m : Corners) (p q : Cell) (n : ℕ) → IsCell n p → IsCell n q → (f h : ℕ) → f < 4 → h < 4 → Across m p f q h → mid m p f ≡ mid m q h
across_mid m (root c) (root e) n is it f h a b x = x.0
across_mid m (root c) (child q l) n is it f h a b x = absurd x
across_mid m (child p k) (root c) n is it f h a b x = absurd x
across_mid m (child p k) (child q l) n is it f h a b x =
    ⊎_elim
    (λ (s : (is_on k f ≡ true) × (is_on l h ≡ true) × (vertex m p k ≡ vertex m q l) × Across m p f q h).
    outer_mid m p k f is.1 a s.0 ∙ ap (λ v. middle_of v (mid m p f)) s.2 ∙ ap (middle_of (vertex m q l)) (across_mid m p q n is.0 it.0 f h a b s.3) ∙ sym (outer_mid m q l h it.1 b s.1))
    (λ (s : (is_on k f ≡ false) × (is_on l h ≡ false) × (p ≡ q) × (beside k f ≡ beside l h) × ((k ≡ l) → (f ≡ h) → ⊥)).
    inner_mid m p k f is.1 a s.0 ∙ ap (λ c. middle_of (mid m c (beside k f)) (centre c)) s.2 ∙ ap (λ g. middle_of (mid m q g) (centre q)) s.3 ∙ sym (inner_mid m q l h it.1 b s.1))
    x

pub across_sym : (m : Corners) (p q : Cell) (f h : ℕ) → Across m p f q h → Across m q h p f
across_sym m (root c) (root e) f h x = (sym x.0, λ s t. x.1 (sym s) (sym t))
across_sym m (root c) (child q l) f h x = x
across_sym m (child p k) (root c) f h x = x
across_sym m (child p k) (child q l) f h x =
    ⊎_elim
    (λ (s : (is_on k f ≡ true) × (is_on l h ≡ true) × (vertex m p k ≡ vertex m q l) × Across m p f q h).
    inl (s.1, s.0, sym s.2, across_sym m p q f h s.3))
    (λ (s : (is_on k f ≡ false) × (is_on l h ≡ false) × (p ≡ q) × (beside k f ≡ beside l h) × ((k ≡ l) → (f ≡ h) → ⊥)).
    inr (s.1, s.0, sym s.2, sym s.3, λ u v. s.4 (sym u) (sym v)))
    x

-- a boundary face has no other side
pub boundary_alone : (n : ℕ) (m : Corners) (bd : ℕ → ℕ → Bool) → IsMesh n m bd → (p q : Cell) (f h : ℕ) → IsCell n p → IsCell n q → f < 4 → h < 4 → OnBoundary bd p f → Across m p f q h → ⊥
boundary_alone n m bd w (root c) (root d) f h ip iq a b on x = w.alone c f d h ip iq a b on x
boundary_alone n m bd w (root c) (child q l) f h ip iq a b on x = x
boundary_alone n m bd w (child p k) (root c) f h ip iq a b on x = x
boundary_alone n m bd w (child p k) (child q l) f h ip iq a b on x =
    ⊎_elim
    (λ (s : (is_on k f ≡ true) × (is_on l h ≡ true) × (vertex m p k ≡ vertex m q l) × Across m p f q h). boundary_alone n m bd w p q f h ip.0 iq.0 a b on.1 s.3)
    (λ (s : (is_on k f ≡ false) × (is_on l h ≡ false) × (p ≡ q) × (beside k f ≡ beside l h) × ((k ≡ l) → (f ≡ h) → ⊥)). let e : true ≡ false = sym on.0 ∙ s.0 in cc)
    x

-- the child at the same end of the same edge of the other cell
pub record Matching (m : Corners) (p q : Cell) (k g : ℕ) : Type 0 where
  pub number : ℕ
  pub is_child : number < 4
  pub is_on_it : is_on number g ≡ true
  pub same : vertex m p k ≡ vertex m q number

pub matching : (m : Corners) (p q : Cell) (k f g : ℕ) → f < 4 → g < 4 → is_on k f ≡ true → mid m p f ≡ mid m q g → Matching m p q k g
matching m p q k f g a b on e =
    let T : ℕ → Type 0 = λ v. Matching m p q v g in
    let V : ℕ → Name = vertex m p in let W : ℕ → Name = vertex m q in
    let by_start : (v : ℕ) → V v ≡ W (face_start g) → T v = λ v s. record { number = face_start g; is_child = start_less g b; is_on_it = start_on g; same = s } in
    let by_end : (v : ℕ) → V v ≡ W (face_end g) → T v = λ v s. record { number = face_end g; is_child = end_less g b; is_on_it = end_on g; same = s } in
    let pair = mid_pair m p q f g e in
    ⊎_elim (λ (x : k ≡ face_start f). subst T (sym x) (⊎_elim
    (λ (s : (V (face_start f) ≡ W (face_start g)) × (V (face_end f) ≡ W (face_end g))). by_start (face_start f) s.0)
    (λ (s : (V (face_start f) ≡ W (face_end g)) × (V (face_end f) ≡ W (face_start g))). by_end (face_start f) s.0) pair))
    (λ (x : k ≡ face_end f). subst T (sym x) (⊎_elim
    (λ (s : (V (face_start f) ≡ W (face_start g)) × (V (face_end f) ≡ W (face_end g))). by_end (face_end f) s.1)
    (λ (s : (V (face_start f) ≡ W (face_end g)) × (V (face_end f) ≡ W (face_start g))). by_start (face_end f) s.1) pair))
    (on_cases k f on)

-- what exists still exists
pub exists_more : (n : ℕ) (refined chosen : Cell → Bool) (p : Cell) → Exists n refined p → Exists n (stepped refined chosen) p
exists_more n refined chosen (root c) h = h
exists_more n refined chosen (child p k) h = (or_left (refined p) (chosen p) h.0, h.1)

-- what exists is a cell
pub exists_cell : (n : ℕ) (m : Corners) (bd : ℕ → ℕ → Bool) (refined : Cell → Bool) → IsBalanced n m bd refined → (p : Cell) → Exists n refined p → IsCell n p
exists_cell n m bd refined w (root c) h = h
exists_cell n m bd refined w (child p k) h = (exists_cell n m bd refined w p (w.exist p h.0), h.1)

facing_more : (n : ℕ) (m : Corners) (refined chosen : Cell → Bool) (p : Cell) (f : ℕ) → Facing n m refined p f → Facing n m (stepped refined chosen) p f
facing_more n m refined chosen p f h =
    record { other = h.other; face = h.face; is_face = h.is_face; there = exists_more n refined chosen h.other h.there; across = h.across }

-- the other side of a face of a chosen cell is there after the step
chosen_faced : (n : ℕ) (m : Corners) (bd : ℕ → ℕ → Bool) (refined chosen : Cell → Bool) → IsMesh n m bd → IsBalanced n m bd refined → IsChoice n m refined chosen →
    (p : Cell) (f : ℕ) → chosen p ≡ true → f < 4 → OnBoundary bd p f ⊎ Facing n m (stepped refined chosen) p f
chosen_faced n m bd refined chosen mesh w s (root c) f h a =
    ⊎_elim (λ (b : bd c f ≡ true). inl b)
    (λ (b : bd c f ≡ false).
    let j = mesh.joined c f (s.active (root c) h).0 a b in
    inr (record { other = root j.0; face = j.1.0; is_face = j.1.1.1; there = j.1.1.0; across = j.1.1.2 }))
    (bool_cases (bd c f))
chosen_faced n m bd refined chosen mesh w s (child p k) f h a =
    let there : Exists n refined (child p k) = (s.active (child p k) h).0 in
    let is : IsCell n p = exists_cell n m bd refined w p (w.exist p there.0) in
    ⊎_elim
    (λ (on : is_on k f ≡ true). ⊎_elim
    (λ (b : OnBoundary bd p f). inl (on, b))
    (λ (o : Facing n m refined p f).
    let it : IsCell n o.other = exists_cell n m bd refined w o.other o.there in
    let x = matching m p o.other k f o.face a o.is_face on (across_mid m p o.other n is it f o.face a o.is_face o.across) in
    let split : stepped refined chosen o.other ≡ true =
    ⊎_elim (λ (r : refined o.other ≡ true). or_left (refined o.other) (chosen o.other) r)
    (λ (r : refined o.other ≡ false). or_right (refined o.other) (chosen o.other) (s.closed p o.other k f o.face h a o.is_face on (o.there, r) o.across))
    (bool_cases (refined o.other)) in
    inr (record { other = child o.other x.number; face = o.face; is_face = o.is_face; there = (split, x.is_child); across = inl (on, x.is_on_it, x.same, o.across) }))
    (w.faced p f there.0 a))
    (λ (off : is_on k f ≡ false).
    let x = sibling k f there.1 a off in
    inr (record { other = child p x.number; face = x.face; is_face = x.is_face; there = (or_left (refined p) (chosen p) there.0, x.is_child); across = inr (off, x.inside, refl, x.same, λ e _. x.apart e) }))
    (bool_cases (is_on k f))

-- the step keeps the forest balanced
pub step_balanced : (n : ℕ) (m : Corners) (bd : ℕ → ℕ → Bool) (refined chosen : Cell → Bool) → IsMesh n m bd → IsBalanced n m bd refined → IsChoice n m refined chosen →
    IsBalanced n m bd (stepped refined chosen)
step_balanced n m bd refined chosen mesh w s = record {
  exist = λ p h. ⊎_elim (λ (r : refined p ≡ true). exists_more n refined chosen p (w.exist p r))
      (λ (r : chosen p ≡ true). exists_more n refined chosen p (s.active p r).0) (or_true (refined p) (chosen p) h);
  faced = λ p f h a. ⊎_elim
      (λ (r : refined p ≡ true). ⊎_elim (λ (b : OnBoundary bd p f). inl b) (λ (o : Facing n m refined p f). inr (facing_more n m refined chosen p f o)) (w.faced p f r a))
      (λ (r : chosen p ≡ true). chosen_faced n m bd refined chosen mesh w s p f r a) (or_true (refined p) (chosen p) h);
}
