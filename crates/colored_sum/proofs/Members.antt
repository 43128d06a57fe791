-- Lists of rows, as rounds and as sums see them.
use Rattle.std.proofs.Common.{◌≡◌, ◌∙◌, sym, ap, subst, refl, ℕ, zero, suc, ◌<◌, inl, inr, Bool, true, false, ◌==◌, List, [], ◌∷◌, length, map, arith, get_or}
use Rattle.std.specs.List.{AllPairs, list_any, range_with_len}
use Rattle.std.specs.List.Sorted.{IsStrictlyIncreasing}
use Rattle.std.proofs.lemmas.Bool.{cases_Bool, eq-eqb, eqb-true}
use Rattle.std.proofs.lemmas.List.Folds.{list_any_at}
use Rattle.std.proofs.lemmas.List.FromFn.{get_or-range_with_len, length-range_with_len}
use Rattle.std.proofs.lemmas.List.Kept.{AllPairs-from_increasing}
use mathlib.Core.Option.{some, some-injective, some-ne-none}
use lib.ListN.{get_elem?}
use Rattle.colored_copier.specs.Plans.{In, Rise}
use Rattle.sparsity.specs.Coupled.{has}

true_is_false : true ≡ false → ⊥
true_is_false e = cc

pub within : {A : Type 0} (l : List A) (k : ℕ) (a : A) → get_elem? l k ≡ some a → k < length l
within [] k a e = absurd (some-ne-none a (sym e))
within (x ∷ xs) zero a e = omega arith
within (x ∷ xs) (suc k) a e = let t = within xs k a e in omega (arith, t)

pub there : {A : Type 0} (l : List A) (k : ℕ) (d : A) → k < length l → get_elem? l k ≡ some (get_or l k d)
there [] k d h = absurd (omega (arith, h))
there (x ∷ xs) zero d h = refl
there (x ∷ xs) (suc k) d h = there xs k d (omega (arith, h))

pub read : {A : Type 0} (l : List A) (k : ℕ) (d a : A) → get_elem? l k ≡ some a → get_or l k d ≡ a
read [] k d a e = absurd (some-ne-none a (sym e))
read (x ∷ xs) zero d a e = some-injective x a e
read (x ∷ xs) (suc k) d a e = read xs k d a e

pub mapped : {A B : Type 0} (f : A → B) (l : List A) (k : ℕ) (a : A) → get_elem? l k ≡ some a → get_elem? (map f l) k ≡ some (f a)
mapped f [] k a e = absurd (some-ne-none a (sym e))
mapped f (x ∷ xs) zero a e = ap (λ y. some (f y)) (some-injective x a e)
mapped f (x ∷ xs) (suc k) a e = mapped f xs k a e

pub in_has : (xs : List ℕ) (r : ℕ) → In r xs → has xs r ≡ true
unfolding has
in_has xs r h = list_any_at (λ x. x == r) xs h.0 0 (within xs h.0 r h.1) (eq-eqb (get_or xs h.0 0) r (read xs h.0 0 r h.1))

pub has_in : (xs : List ℕ) (r : ℕ) → has xs r ≡ true → In r xs
unfolding has
has_in [] r h = absurd (true_is_false (sym h))
has_in (x ∷ xs) r h = elim (cases_Bool (x == r)) [
  | inl same ↦ (0, ap some (eqb-true x r same))
  | inr apart ↦ (let t = has_in xs r (rw apart at h) in (suc t.0, t.1))
]

pub not_in : (xs : List ℕ) (r : ℕ) → has xs r ≡ false → In r xs → ⊥
not_in xs r off h = true_is_false (sym (in_has xs r h) ∙ off)

-- two lists that share no number
pub unshared : (xs ys : List ℕ) (i : ℕ) → list_any (λ x. list_any (λ y. y == x) ys) xs ≡ false → has xs i ≡ true → has ys i ≡ false
unfolding has
unshared xs ys i apart on = by_other (has ys i) refl
  where
    by_other : (b : Bool) → has ys i ≡ b → b ≡ false
    by_other false e = refl
    by_other true e =
        let at : In i xs = has_in xs i on in
        let is : get_or xs at.0 0 ≡ i = read xs at.0 0 i at.1 in
        let both : list_any (λ y. y == get_or xs at.0 0) ys ≡ true = ap (λ n. list_any (λ y. y == n) ys) is ∙ e in
        absurd (true_is_false (sym (list_any_at (λ x. list_any (λ y. y == x) ys) xs at.0 0 (within xs at.0 i at.1) both) ∙ apart))

-- rising lists
next_below : (a b : ℕ) → a < b → suc a < suc b
next_below a b h = omega (arith, h)

pub rises_pairs : (xs : List ℕ) → AllPairs (λ x y. x < y) xs → Rise xs
rises_pairs [] pairs = tt
rises_pairs (x ∷ xs) pairs = (
  (λ q h. let P : ℕ → Type 0 = λ n. x < n in subst P (read xs h.0 0 q h.1) (pairs 0 (suc h.0) 0 (omega arith) (next_below h.0 (length xs) (within xs h.0 q h.1)))),
  rises_pairs xs (λ i j d lt inside. pairs (suc i) (suc j) d (next_below i j lt) (next_below j (length xs) inside)),
)

pub rises : (xs : List ℕ) → IsStrictlyIncreasing xs → Rise xs
rises xs h = rises_pairs xs (AllPairs-from_increasing xs h)

pub range_pairs : (n : ℕ) → AllPairs (λ x y. x < y) (range_with_len 0 n)
range_pairs n i j d lt inside =
    let high : j < n = omega (arith, inside, length-range_with_len 0 n) in
    let low : i < n = omega (arith, lt, high) in
    omega (arith, lt, get_or-range_with_len 0 n i d low, get_or-range_with_len 0 n j d high)

pub in_range : (n k : ℕ) → k < n → In k (range_with_len 0 n)
in_range n k h = (k, there (range_with_len 0 n) k 0 (omega (arith, h, length-range_with_len 0 n)) ∙ ap some (get_or-range_with_len 0 n k 0 h ∙ omega arith))
