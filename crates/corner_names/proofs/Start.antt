-- The coarse cells are a forest, and no active cell stands twice.
use Rattle.std.proofs.Common.{◌≡◌, ℕ, zero, suc, ◌<◌, ◌⊎◌, ⊎_elim, Bool, true, false, cond, List, [], ◌∷◌, ◌++◌, refl, sym, ap, subst, ◌∙◌, arith}
use Rattle.std.specs.Prelude.{◌==◌, ◌&&◌}
use Rattle.corner_names.specs.Names.{Cell, root, child}
use Rattle.corner_names.specs.Cells.{Corners}
use Rattle.corner_names.specs.Forest.{IsActive, Exists}
use Rattle.corner_names.specs.Active.{same_cell, refined_by, has_cell, replaced, next_active, IsForest, coarse_cells, AreOnce}
use Rattle.corner_names.proofs.Distinct.{bool_cases}
use Rattle.corner_names.proofs.Active.{refined_append, has_append, or_true, or_left, or_right, false_or, not_true, clash, same_true, same_refl, Next, kept, born, next_of}

coarse_flat : (n : ℕ) (p : Cell) → refined_by (coarse_cells n) p ≡ false
coarse_flat zero p = refl
coarse_flat (suc n) p = refined_append (coarse_cells n) (root n ∷ []) p ∙ false_or (refined_by (coarse_cells n) p) false (coarse_flat n p) refl

coarse_below : (n : ℕ) (z : Cell) → has_cell (coarse_cells n) z ≡ true → (c : ℕ) × ((c < n) × (z ≡ root c))
coarse_below zero z h = absurd cc
coarse_below (suc n) z h =
    let R : Type 0 = (c : ℕ) × ((c < suc n) × (z ≡ root c)) in
    ⊎_elim
    (λ (a : has_cell (coarse_cells n) z ≡ true). let t = coarse_below n z a in let r : R = (t.0, (omega (arith, t.1.0), t.1.1)) in r)
    (λ (a : has_cell (root n ∷ []) z ≡ true). ⊎_elim
    (λ (b : same_cell z (root n) ≡ true). let r : R = (n, (omega arith, same_true z (root n) b)) in r)
    (λ (b : false ≡ true). absurd cc) (or_true (same_cell z (root n)) false a))
    (or_true (has_cell (coarse_cells n) z) (has_cell (root n ∷ []) z) (sym (has_append (coarse_cells n) (root n ∷ []) z) ∙ h))

less_cases : (c n : ℕ) → c < suc n → (c < n) ⊎ (c ≡ n)
less_cases c n h = grind arith

coarse_has : (n c : ℕ) → c < n → has_cell (coarse_cells n) (root c) ≡ true
coarse_has zero c h = absurd (omega arith)
coarse_has (suc n) c h =
    has_append (coarse_cells n) (root n ∷ []) (root c) ∙ ⊎_elim
    (λ (a : c < n). or_left (has_cell (coarse_cells n) (root c)) (has_cell (root n ∷ []) (root c)) (coarse_has n c a))
    (λ (a : c ≡ n). or_right (has_cell (coarse_cells n) (root c)) (has_cell (root n ∷ []) (root c))
    (or_left (same_cell (root c) (root n)) false (ap (λ d. same_cell (root c) (root d)) (sym a) ∙ same_refl (root c))))
    (less_cases c n h)

all_of : (n : ℕ) (z : Cell) → IsActive n (refined_by (coarse_cells n)) z → has_cell (coarse_cells n) z ≡ true
all_of n (root c) h = coarse_has n c h.0
all_of n (child p k) h = absurd (clash (refined_by (coarse_cells n) p) h.0.0 (coarse_flat n p))

pub coarse_forest : (n : ℕ) (m : Corners) (bd : ℕ → ℕ → Bool) → IsForest n m bd (coarse_cells n)
coarse_forest n m bd =
    let none : (p : Cell) → refined_by (coarse_cells n) p ≡ true → ⊥ = λ p h. clash (refined_by (coarse_cells n) p) h (coarse_flat n p) in
    record {
      leaves = λ z h. let t = coarse_below n z h in
          (let P : Cell → Type 0 = λ y. Exists n (refined_by (coarse_cells n)) y in subst P (sym t.1.1) t.1.0, coarse_flat n z);
      all = λ z h. all_of n z h;
      balanced = record { exist = λ p h. absurd (none p h); faced = λ p f h a. absurd (none p h) };
    }

false_cases : (b : Bool) → (b ≡ true → ⊥) → b ≡ false
false_cases b h = not_true b h

and_false : (a : Bool) → (a && false) ≡ false
and_false true = refl
and_false false = refl

pub once_append : (xs ys : List Cell) → AreOnce xs → AreOnce ys → ((z : Cell) → has_cell xs z ≡ true → has_cell ys z ≡ true → ⊥) → AreOnce (xs ++ ys)
once_append [] ys a b d = b
once_append (x ∷ xs) ys a b d =
    let there : has_cell (x ∷ xs) x ≡ true = or_left (same_cell x x) (has_cell xs x) (same_refl x) in (
      has_append xs ys x ∙ false_or (has_cell xs x) (has_cell ys x) a.0 (not_true (has_cell ys x) (λ h. d x there h)),
      once_append xs ys a.1 b (λ z h k. d z (or_right (same_cell z x) (has_cell xs z) h) k),
    )

apart_children : (x : Cell) (k l : ℕ) → (k == l) ≡ false → same_cell (child x k) (child x l) ≡ false
apart_children x k l h = ap (λ b. same_cell x x && b) h ∙ and_false (same_cell x x)

once_children : (x : Cell) → AreOnce (child x 0 ∷ child x 1 ∷ child x 2 ∷ child x 3 ∷ [])
once_children x = (
  false_or _ _ (apart_children x 0 1 refl) (false_or _ _ (apart_children x 0 2 refl) (false_or _ _ (apart_children x 0 3 refl) refl)),
  (false_or _ _ (apart_children x 1 2 refl) (false_or _ _ (apart_children x 1 3 refl) refl), (false_or _ _ (apart_children x 2 3 refl) refl, (refl, tt))),
)

once_replaced : (chosen : Cell → Bool) (x : Cell) → AreOnce (replaced chosen x)
once_replaced chosen x =
    let P : Bool → Type 0 = λ b. AreOnce (cond b (child x 0 ∷ child x 1 ∷ child x 2 ∷ child x 3 ∷ []) (x ∷ [])) in
    ⊎_elim (λ (h : chosen x ≡ true). subst P (sym h) (once_children x)) (λ (h : chosen x ≡ false). subst P (sym h) (refl, tt)) (bool_cases (chosen x))

-- what stands in place of x comes from x alone
from_replaced : (chosen : Cell → Bool) (x z : Cell) → has_cell (replaced chosen x) z ≡ true → Next chosen (x ∷ []) z
from_replaced chosen x z h = next_of chosen (x ∷ []) z (has_append (replaced chosen x) [] z ∙ or_left (has_cell (replaced chosen x) z) false h)

only_one : (x z : Cell) → has_cell (x ∷ []) z ≡ true → z ≡ x
only_one x z h = ⊎_elim (λ (a : same_cell z x ≡ true). same_true z x a) (λ (a : false ≡ true). absurd cc) (or_true (same_cell z x) false h)

-- a cell that stays and a child of a chosen cell differ, where chosen cells have no active child
pub once_next : (chosen : Cell → Bool) (xs : List Cell) → AreOnce xs → ((q : Cell) (k : ℕ) → has_cell xs q ≡ true → has_cell xs (child q k) ≡ true → ⊥) → AreOnce (next_active chosen xs)
once_next chosen [] a d = tt
once_next chosen (x ∷ xs) a d =
    let up : (q : Cell) → has_cell xs q ≡ true → has_cell (x ∷ xs) q ≡ true = λ q h. or_right (same_cell q x) (has_cell xs q) h in
    let top : has_cell (x ∷ xs) x ≡ true = or_left (same_cell x x) (has_cell xs x) (same_refl x) in
    once_append (replaced chosen x) (next_active chosen xs) (once_replaced chosen x) (once_next chosen xs a.1 (λ q k h g. d q k (up q h) (up (child q k) g)))
    (λ z h g. elim (from_replaced chosen x z h) [
      | kept i c ↦ elim (next_of chosen xs z g) [
        | kept j e ↦ clash (has_cell xs x) (ap (has_cell xs) (sym (only_one x z i)) ∙ j) a.0
        | born q k e l j b ↦ d q k (up q j) (ap (has_cell (x ∷ xs)) (sym e ∙ only_one x z i) ∙ top)
      ]
      | born p n s m i c ↦
          let px : p ≡ x = only_one x p i in
          elim (next_of chosen xs z g) [
            | kept j e ↦ d x n top (ap (has_cell (x ∷ xs)) (ap (λ y. child y n) (sym px) ∙ sym s) ∙ up z j)
            | born q k e l j b ↦
                let t : child p n ≡ child q k = sym s ∙ e in let pq : p ≡ q = cc in
                clash (has_cell xs x) (ap (has_cell xs) (sym px ∙ pq) ∙ j) a.0
          ]
    ])

coarse_apart : (n : ℕ) (z : Cell) → has_cell (coarse_cells n) z ≡ true → has_cell (root n ∷ []) z ≡ true → ⊥
coarse_apart n z a b =
    let t = coarse_below n z a in
    let e : root n ≡ root t.0 = sym (only_one (root n) z b) ∙ t.1.1 in
    let f : n ≡ t.0 = cc in
    omega (arith, t.1.0)

-- no coarse cell stands twice
pub coarse_once : (n : ℕ) → AreOnce (coarse_cells n)
coarse_once zero = tt
coarse_once (suc n) = once_append (coarse_cells n) (root n ∷ []) (coarse_once n) (refl, tt) (coarse_apart n)
