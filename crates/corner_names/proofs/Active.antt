-- The step on the list of active cells.
use Rattle.std.proofs.Common.{◌≡◌, ℕ, zero, suc, ◌+◌, ◌<◌, ◌⊎◌, inl, inr, ⊎_elim, Bool, true, false, cond, List, [], ◌∷◌, ◌++◌, refl, sym, ap, subst, ◌∙◌, arith, lit<}
use Rattle.std.specs.Prelude.{◌==◌, ◌||◌, ◌&&◌}
use mathlib.Core.Path.{fun_ext}
use Rattle.corner_names.specs.Names.{Cell, root, child, middle_of}
use Rattle.corner_names.specs.Cells.{Corners, vertex, mid, is_on, level, beside, IsCell, Across}
use Rattle.corner_names.specs.Forest.{IsMesh, IsBalanced, IsActive, Exists, IsChoice, stepped, IsHalfAt, Covered}
use Rattle.corner_names.specs.Active.{same_cell, is_above, refined_by, has_cell, replaced, next_active, IsForest, IsClosedSet}
use Rattle.corner_names.proofs.Cells.{outer_mid}
use Rattle.corner_names.proofs.Distinct.{bool_cases, eq_true}
use Rattle.corner_names.proofs.Balance.{step_balanced, across_mid, matching, exists_cell}
use Rattle.corner_names.proofs.Cover.{mid_half}
use Rattle.corner_names.proofs.Covers.{covered}

and_true : (a b : Bool) → (a && b) ≡ true → (a ≡ true) × (b ≡ true)
and_true true b h = (refl, h)
and_true false b h = absurd cc

and_intro : (a b : Bool) → a ≡ true → b ≡ true → (a && b) ≡ true
and_intro true b h k = k
and_intro false b h k = absurd cc

pub or_true : (a b : Bool) → (a || b) ≡ true → (a ≡ true) ⊎ (b ≡ true)
or_true true b h = inl refl
or_true false b h = inr h

pub or_left : (a b : Bool) → a ≡ true → (a || b) ≡ true
or_left true b h = refl
or_left false b h = absurd cc

pub or_right : (a b : Bool) → b ≡ true → (a || b) ≡ true
or_right true b h = refl
or_right false b h = h

or_assoc : (a b c : Bool) → ((a || b) || c) ≡ (a || (b || c))
or_assoc true b c = refl
or_assoc false b c = refl

four : (a : Bool) → (a || (a || (a || (a || false)))) ≡ a
four true = refl
four false = refl

or_none : (a : Bool) → (a || false) ≡ a
or_none true = refl
or_none false = refl

eq_refl : (a : ℕ) → (a == a) ≡ true
eq_refl a = grind arith

pub same_true : (p q : Cell) → same_cell p q ≡ true → p ≡ q
same_true (root c) (root d) h = ap root (eq_true c d h)
same_true (root c) (child q l) h = absurd cc
same_true (child p k) (root d) h = absurd cc
same_true (child p k) (child q l) h =
    let t : (same_cell p q ≡ true) × ((k == l) ≡ true) = and_true (same_cell p q) (k == l) h in
    let a : p ≡ q = same_true p q t.0 in let b : k ≡ l = eq_true k l t.1 in cc

pub same_refl : (p : Cell) → same_cell p p ≡ true
same_refl (root c) = eq_refl c
same_refl (child p k) = and_intro (same_cell p p) (k == k) (same_refl p) (eq_refl k)

pub refined_append : (xs ys : List Cell) (p : Cell) → refined_by (xs ++ ys) p ≡ (refined_by xs p || refined_by ys p)
refined_append [] ys p = refl
refined_append (x ∷ xs) ys p = ap (λ b. is_above p x || b) (refined_append xs ys p) ∙ sym (or_assoc (is_above p x) (refined_by xs p) (refined_by ys p))

pub has_append : (xs ys : List Cell) (p : Cell) → has_cell (xs ++ ys) p ≡ (has_cell xs p || has_cell ys p)
has_append [] ys p = refl
has_append (x ∷ xs) ys p = ap (λ b. same_cell p x || b) (has_append xs ys p) ∙ sym (or_assoc (same_cell p x) (has_cell xs p) (has_cell ys p))

turn : (a b : Bool) → (a || b) ≡ (b || (true && a))
turn true true = refl
turn true false = refl
turn false true = refl
turn false false = refl

refined_replaced : (chosen : Cell → Bool) (x p : Cell) → refined_by (replaced chosen x) p ≡ (is_above p x || (chosen x && same_cell p x))
refined_replaced chosen x p =
    ⊎_elim
    (λ (h : chosen x ≡ true).
    ap (λ b. refined_by (cond b (child x 0 ∷ child x 1 ∷ child x 2 ∷ child x 3 ∷ []) (x ∷ [])) p) h ∙ four (same_cell p x || is_above p x)
    ∙ turn (same_cell p x) (is_above p x) ∙ ap (λ b. is_above p x || (b && same_cell p x)) (sym h))
    (λ (h : chosen x ≡ false).
    ap (λ b. refined_by (cond b (child x 0 ∷ child x 1 ∷ child x 2 ∷ child x 3 ∷ []) (x ∷ [])) p) h ∙ ap (λ b. is_above p x || (b && same_cell p x)) (sym h))
    (bool_cases (chosen x))

shuffle : (a b c d : Bool) → ((a || b) || (c || d)) ≡ ((a || c) || (b || d))
shuffle true b c d = refl
shuffle false true true d = refl
shuffle false true false d = refl
shuffle false false c d = refl

-- a chosen cell of the list
abbrev chosen_in : (Cell → Bool) → List Cell → Cell → Bool
chosen_in chosen [] p = false
chosen_in chosen (x ∷ xs) p = (chosen x && same_cell p x) || chosen_in chosen xs p

refined_next : (chosen : Cell → Bool) (xs : List Cell) (p : Cell) → refined_by (next_active chosen xs) p ≡ (refined_by xs p || chosen_in chosen xs p)
refined_next chosen [] p = refl
refined_next chosen (x ∷ xs) p =
    refined_append (replaced chosen x) (next_active chosen xs) p ∙ ap (λ b. b || refined_by (next_active chosen xs) p) (refined_replaced chosen x p)
    ∙ ap (λ b. (is_above p x || (chosen x && same_cell p x)) || b) (refined_next chosen xs p)
    ∙ shuffle (is_above p x) (chosen x && same_cell p x) (refined_by xs p) (chosen_in chosen xs p)

chosen_there : (chosen : Cell → Bool) (xs : List Cell) (p : Cell) → chosen_in chosen xs p ≡ true → (chosen p ≡ true) × (has_cell xs p ≡ true)
chosen_there chosen [] p h = absurd cc
chosen_there chosen (x ∷ xs) p h =
    ⊎_elim
    (λ (a : (chosen x && same_cell p x) ≡ true).
    let t : (chosen x ≡ true) × (same_cell p x ≡ true) = and_true (chosen x) (same_cell p x) a in
    (ap chosen (same_true p x t.1) ∙ t.0, or_left (same_cell p x) (has_cell xs p) t.1))
    (λ (a : chosen_in chosen xs p ≡ true). let t = chosen_there chosen xs p a in (t.0, or_right (same_cell p x) (has_cell xs p) t.1))
    (or_true (chosen x && same_cell p x) (chosen_in chosen xs p) h)

there_chosen : (chosen : Cell → Bool) (xs : List Cell) (p : Cell) → chosen p ≡ true → has_cell xs p ≡ true → chosen_in chosen xs p ≡ true
there_chosen chosen [] p c h = absurd cc
there_chosen chosen (x ∷ xs) p c h =
    ⊎_elim
    (λ (a : same_cell p x ≡ true). or_left (chosen x && same_cell p x) (chosen_in chosen xs p) (and_intro (chosen x) (same_cell p x) (ap chosen (sym (same_true p x a)) ∙ c) a))
    (λ (a : has_cell xs p ≡ true). or_right (chosen x && same_cell p x) (chosen_in chosen xs p) (there_chosen chosen xs p c a))
    (or_true (same_cell p x) (has_cell xs p) h)

pub refined_step : (chosen : Cell → Bool) (xs : List Cell) → ((p : Cell) → chosen p ≡ true → has_cell xs p ≡ true) → refined_by (next_active chosen xs) ≡ stepped (refined_by xs) chosen
refined_step chosen xs only =
    let one : (p : Cell) → chosen_in chosen xs p ≡ chosen p = λ p.
    ⊎_elim (λ (c : chosen p ≡ true). there_chosen chosen xs p c (only p c) ∙ sym c)
    (λ (c : chosen p ≡ false). ⊎_elim (λ (i : chosen_in chosen xs p ≡ true). let z : true ≡ false = sym (chosen_there chosen xs p i).0 ∙ c in absurd cc)
    (λ (i : chosen_in chosen xs p ≡ false). i ∙ sym c) (bool_cases (chosen_in chosen xs p))) (bool_cases (chosen p)) in
    fun_ext (λ p. refined_next chosen xs p ∙ ap (λ b. refined_by xs p || b) (one p))

pub data Next (chosen : Cell → Bool) (xs : List Cell) (z : Cell) : Type 0 where
  kept : has_cell xs z ≡ true → chosen z ≡ false → Next chosen xs z
  born : (q : Cell) (k : ℕ) → z ≡ child q k → k < 4 → has_cell xs q ≡ true → chosen q ≡ true → Next chosen xs z

four_children : (x z : Cell) → has_cell (child x 0 ∷ child x 1 ∷ child x 2 ∷ child x 3 ∷ []) z ≡ true → (k : ℕ) × ((k < 4) × (z ≡ child x k))
four_children x z h =
    let R : Type 0 = (k : ℕ) × ((k < 4) × (z ≡ child x k)) in
    ⊎_elim (λ (a : same_cell z (child x 0) ≡ true). let r : R = (0, (lit< tt, same_true z (child x 0) a)) in r)
    (λ (a : has_cell (child x 1 ∷ child x 2 ∷ child x 3 ∷ []) z ≡ true). ⊎_elim
    (λ (a : same_cell z (child x 1) ≡ true). let r : R = (1, (lit< tt, same_true z (child x 1) a)) in r)
    (λ (a : has_cell (child x 2 ∷ child x 3 ∷ []) z ≡ true). ⊎_elim
    (λ (a : same_cell z (child x 2) ≡ true). let r : R = (2, (lit< tt, same_true z (child x 2) a)) in r)
    (λ (a : has_cell (child x 3 ∷ []) z ≡ true). ⊎_elim
    (λ (a : same_cell z (child x 3) ≡ true). let r : R = (3, (lit< tt, same_true z (child x 3) a)) in r)
    (λ (a : false ≡ true). absurd cc)
    (or_true (same_cell z (child x 3)) false a))
    (or_true (same_cell z (child x 2)) (has_cell (child x 3 ∷ []) z) a))
    (or_true (same_cell z (child x 1)) (has_cell (child x 2 ∷ child x 3 ∷ []) z) a))
    (or_true (same_cell z (child x 0)) (has_cell (child x 1 ∷ child x 2 ∷ child x 3 ∷ []) z) h)

child_there : (x : Cell) (k : ℕ) → k < 4 → has_cell (child x 0 ∷ child x 1 ∷ child x 2 ∷ child x 3 ∷ []) (child x k) ≡ true
child_there x zero h = or_left (same_cell (child x 0) (child x 0)) _ (same_refl (child x 0))
child_there x (suc zero) h = or_right (same_cell (child x 1) (child x 0)) _ (or_left (same_cell (child x 1) (child x 1)) _ (same_refl (child x 1)))
child_there x (suc (suc zero)) h = or_right (same_cell (child x 2) (child x 0)) _ (or_right (same_cell (child x 2) (child x 1)) _ (or_left (same_cell (child x 2) (child x 2)) _ (same_refl (child x 2))))
child_there x (suc (suc (suc zero))) h =
    or_right (same_cell (child x 3) (child x 0)) _ (or_right (same_cell (child x 3) (child x 1)) _ (or_right (same_cell (child x 3) (child x 2)) _ (or_left (same_cell (child x 3) (child x 3)) _ (same_refl (child x 3)))))
child_there x (suc (suc (suc (suc k)))) h = absurd (omega arith)

pub next_of : (chosen : Cell → Bool) (xs : List Cell) (z : Cell) → has_cell (next_active chosen xs) z ≡ true → Next chosen xs z
next_of chosen [] z h = absurd cc
next_of chosen (x ∷ xs) z h =
    let R : Type 0 = Next chosen (x ∷ xs) z in
    let C : Bool → Type 0 = λ b. has_cell (cond b (child x 0 ∷ child x 1 ∷ child x 2 ∷ child x 3 ∷ []) (x ∷ [])) z ≡ true in
    let more : Next chosen xs z → R = λ t. elim t [
      | kept a b ↦ kept (or_right (same_cell z x) (has_cell xs z) a) b
      | born q k e l a b ↦ born q k e l (or_right (same_cell q x) (has_cell xs q) a) b
    ] in
    ⊎_elim
    (λ (a : C (chosen x)). ⊎_elim
    (λ (c : chosen x ≡ true).
    let t = four_children x z (subst C c a) in
    let r : R = born x t.0 t.1.1 t.1.0 (or_left (same_cell x x) (has_cell xs x) (same_refl x)) c in r)
    (λ (c : chosen x ≡ false).
    let s : same_cell z x ≡ true = sym (or_none (same_cell z x)) ∙ subst C c a in
    let r : R = kept (or_left (same_cell z x) (has_cell xs z) s) (ap chosen (same_true z x s) ∙ c) in r)
    (bool_cases (chosen x)))
    (λ (a : has_cell (next_active chosen xs) z ≡ true). more (next_of chosen xs z a))
    (or_true (has_cell (replaced chosen x) z) (has_cell (next_active chosen xs) z) (sym (has_append (replaced chosen x) (next_active chosen xs) z) ∙ h))

next_kept : (chosen : Cell → Bool) (xs : List Cell) (z : Cell) → has_cell xs z ≡ true → chosen z ≡ false → has_cell (next_active chosen xs) z ≡ true
next_kept chosen [] z h c = absurd cc
next_kept chosen (x ∷ xs) z h c =
    let C : Bool → Type 0 = λ b. has_cell (cond b (child x 0 ∷ child x 1 ∷ child x 2 ∷ child x 3 ∷ []) (x ∷ [])) z ≡ true in
    has_append (replaced chosen x) (next_active chosen xs) z ∙ ⊎_elim
    (λ (a : same_cell z x ≡ true).
    let cx : chosen x ≡ false = ap chosen (sym (same_true z x a)) ∙ c in
    or_left (has_cell (replaced chosen x) z) (has_cell (next_active chosen xs) z) (subst C (sym cx) (or_left (same_cell z x) false a)))
    (λ (a : has_cell xs z ≡ true). or_right (has_cell (replaced chosen x) z) (has_cell (next_active chosen xs) z) (next_kept chosen xs z a c))
    (or_true (same_cell z x) (has_cell xs z) h)

next_born : (chosen : Cell → Bool) (xs : List Cell) (q : Cell) (k : ℕ) → k < 4 → has_cell xs q ≡ true → chosen q ≡ true → has_cell (next_active chosen xs) (child q k) ≡ true
next_born chosen [] q k l h c = absurd cc
next_born chosen (x ∷ xs) q k l h c =
    let z : Cell = child q k in
    let C : Bool → Type 0 = λ b. has_cell (cond b (child x 0 ∷ child x 1 ∷ child x 2 ∷ child x 3 ∷ []) (x ∷ [])) z ≡ true in
    has_append (replaced chosen x) (next_active chosen xs) z ∙ ⊎_elim
    (λ (a : same_cell q x ≡ true).
    let e : q ≡ x = same_true q x a in
    let cx : chosen x ≡ true = ap chosen (sym e) ∙ c in
    let P : Cell → Type 0 = λ y. has_cell (child x 0 ∷ child x 1 ∷ child x 2 ∷ child x 3 ∷ []) (child y k) ≡ true in
    or_left (has_cell (replaced chosen x) z) (has_cell (next_active chosen xs) z) (subst C (sym cx) (subst P (sym e) (child_there x k l))))
    (λ (a : has_cell xs q ≡ true). or_right (has_cell (replaced chosen x) z) (has_cell (next_active chosen xs) z) (next_born chosen xs q k l a c))
    (or_true (same_cell q x) (has_cell xs q) h)

pub across_level : (m : Corners) (p q : Cell) (f h : ℕ) → Across m p f q h → level p ≡ level q
across_level m (root c) (root d) f h x = refl
across_level m (root c) (child q l) f h x = absurd x
across_level m (child p k) (root d) f h x = absurd x
across_level m (child p k) (child q l) f h x =
    ⊎_elim
    (λ (s : (is_on k f ≡ true) × (is_on l h ≡ true) × (vertex m p k ≡ vertex m q l) × Across m p f q h). ap (λ n. n + 1) (across_level m p q f h s.3))
    (λ (s : (is_on k f ≡ false) × (is_on l h ≡ false) × (p ≡ q) × (beside k f ≡ beside l h) × ((k ≡ l) → (f ≡ h) → ⊥)). ap (λ c. level c + 1) s.2)
    x

-- the set of a step, said by names, is a choice
pub closed_choice : (n : ℕ) (m : Corners) (bd : ℕ → ℕ → Bool) (active : List Cell) (chosen : Cell → Bool) → IsForest n m bd active → IsClosedSet m active chosen →
    IsChoice n m (refined_by active) chosen
closed_choice n m bd active chosen w s = record {
  active = λ p h. w.leaves p (s.active_only p h);
  closed = λ p q k f g h a b on aq t.
      let x = (w.leaves (child p k) (s.active_only (child p k) h)).0 in
      let ip : IsCell n p = exists_cell n m bd (refined_by active) w.balanced p (w.balanced.exist p x.0) in
      let iq : IsCell n q = exists_cell n m bd (refined_by active) w.balanced q aq.0 in
      let edge : mid m p f ≡ mid m q g = across_mid m p q n ip iq f g a b t in
      let l = matching m p q k f g a b on edge in
      let half : IsHalfAt m (child p k) f q g l.number =
      mid_half m (child p k) q f g l.number l.is_on_it
      (outer_mid m p k f x.1 a on ∙ ap (λ c. middle_of c (mid m p f)) l.same ∙ ap (middle_of (vertex m q l.number)) edge) in
      let lower : level p ≡ level q = across_level m p q f g t in
      s.closed (child p k) q f g h (w.all q aq) (omega arith) a b (inr (inl (l.number, half)));
}

pub false_or : (a b : Bool) → a ≡ false → b ≡ false → (a || b) ≡ false
false_or true b h k = absurd cc
false_or false b h k = k

pub or_false : (a b : Bool) → (a || b) ≡ false → (a ≡ false) × (b ≡ false)
or_false true b h = absurd cc
or_false false b h = (refl, h)

pub clash : (b : Bool) → b ≡ true → b ≡ false → ⊥
clash b h k = let e : true ≡ false = sym h ∙ k in cc

pub not_true : (b : Bool) → (b ≡ true → ⊥) → b ≡ false
not_true true h = absurd (h refl)
not_true false h = refl

exists_stepped : (n : ℕ) (r c : Cell → Bool) (z : Cell) → Exists n r z → Exists n (stepped r c) z
exists_stepped n r c (root d) h = h
exists_stepped n r c (child p k) h = (or_left (r p) (c p) h.0, h.1)

step_all : (n : ℕ) (m : Corners) (bd : ℕ → ℕ → Bool) (active : List Cell) (chosen : Cell → Bool) → IsForest n m bd active → IsClosedSet m active chosen →
    (z : Cell) → IsActive n (stepped (refined_by active) chosen) z → has_cell (next_active chosen active) z ≡ true
step_all n m bd active chosen w s (root c) h =
    let t = or_false (refined_by active (root c)) (chosen (root c)) h.1 in next_kept chosen active (root c) (w.all (root c) (h.0, t.0)) t.1
step_all n m bd active chosen w s (child p k) h =
    let t = or_false (refined_by active (child p k)) (chosen (child p k)) h.1 in
    ⊎_elim
    (λ (r : refined_by active p ≡ true). next_kept chosen active (child p k) (w.all (child p k) ((r, h.0.1), t.0)) t.1)
    (λ (c : chosen p ≡ true). next_born chosen active p k h.0.1 (s.active_only p c) c)
    (or_true (refined_by active p) (chosen p) h.0.0)

step_leaves : (n : ℕ) (m : Corners) (bd : ℕ → ℕ → Bool) (active : List Cell) (chosen : Cell → Bool) → IsForest n m bd active → IsClosedSet m active chosen →
    (z : Cell) → has_cell (next_active chosen active) z ≡ true → IsActive n (stepped (refined_by active) chosen) z
step_leaves n m bd active chosen w s z h =
    let r : Cell → Bool = refined_by active in
    let P : Cell → Type 0 = λ y. IsActive n (stepped r chosen) y in
    elim (next_of chosen active z h) [
      | kept a c ↦ let o = w.leaves z a in (exists_stepped n r chosen z o.0, false_or (r z) (chosen z) o.1 c)
      | born q k e l a c ↦
          let o = w.leaves q a in
          let apart : r (child q k) ≡ false = not_true (r (child q k)) (λ t. clash (r q) (w.balanced.exist (child q k) t).0 o.1) in
          let idle : chosen (child q k) ≡ false = not_true (chosen (child q k)) (λ t. clash (r q) (w.leaves (child q k) (s.active_only (child q k) t)).0.0 o.1) in
          subst P (sym e) ((or_right (r q) (chosen q) c, l), false_or (r (child q k)) (chosen (child q k)) apart idle)
    ]

-- the step makes a forest of a forest
pub step_forest : (n : ℕ) (m : Corners) (bd : ℕ → ℕ → Bool) (active : List Cell) (chosen : Cell → Bool) → IsMesh n m bd → IsForest n m bd active → IsClosedSet m active chosen →
    IsForest n m bd (next_active chosen active)
step_forest n m bd active chosen mesh w s =
    let e : refined_by (next_active chosen active) ≡ stepped (refined_by active) chosen = refined_step chosen active s.active_only in
    let L : (Cell → Bool) → Type 0 = λ r. (z : Cell) → has_cell (next_active chosen active) z ≡ true → IsActive n r z in
    let A : (Cell → Bool) → Type 0 = λ r. (z : Cell) → IsActive n r z → has_cell (next_active chosen active) z ≡ true in
    let B : (Cell → Bool) → Type 0 = λ r. IsBalanced n m bd r in
    record {
      leaves = subst L (sym e) (step_leaves n m bd active chosen w s);
      all = subst A (sym e) (step_all n m bd active chosen w s);
      balanced = subst B (sym e) (step_balanced n m bd (refined_by active) chosen mesh w.balanced (closed_choice n m bd active chosen w s));
    }

-- in each forest each face of an active cell is covered in one of the four ways
pub forest_covered : (n : ℕ) (m : Corners) (bd : ℕ → ℕ → Bool) (active : List Cell) → IsMesh n m bd → IsForest n m bd active →
    (x : Cell) (f : ℕ) → has_cell active x ≡ true → f < 4 → Covered n m bd (refined_by active) x f
forest_covered n m bd active mesh w x f h a = covered n m bd (refined_by active) mesh w.balanced x f (w.leaves x h) a
