-- Numbers and cells in lists.
use Rattle.std.proofs.Common.{◌≡◌, ℕ, ◌+◌, ◌<◌, ◌≤◌, List, [], ◌∷◌, length, Bool, true, false, ◌||◌, ◌&&◌, ◌==◌, cond, refl, ◌∙◌, ap, arith, zero, suc}
use Rattle.std.proofs.lemmas.List.{get_or_past}
use Rattle.std.specs.Prelude.{not, filter}
use Rattle.std.specs.List.{list_any, range_with_len, AllByRecursion}
use Rattle.std.specs.declared.cmp.Ordering.TheVariants.{Less}
use Rattle.std.proofs.Math.Bool.{and-false}
use Rattle.std.specs.Ordering.{nat_cmp, is_eq}
use Rattle.std.specs.List.Sorted.{IsStrictlySortedBy}
use Rattle.conflict_coloring.specs.Conflict.{rows_of, conflict, share}

pub any_filter : {X : Type 0} (p q : X → Bool) (xs : List X) → list_any q (filter p xs) ≡ list_any (λ x. p x && q x) xs
any_filter p q [] = refl
any_filter p q (x ∷ xs) = elim (p x) as (λ b. list_any q (cond b (x ∷ filter p xs) (filter p xs)) ≡ ((b && q x) || list_any (λ y. p y && q y) xs)) [ true ↦ ap (λ b. q x || b) (any_filter p q xs) | false ↦ any_filter p q xs ]

pub any_agree : {X : Type 0} (p q : X → Bool) (xs : List X) → ((x : X) → p x ≡ q x) → list_any p xs ≡ list_any q xs
any_agree p q [] h = refl
any_agree p q (x ∷ xs) h = let a = h x in let b = any_agree p q xs h in cc

less : (a y : ℕ) → a < y → nat_cmp a y ≡ Less
less a y h = grind arith

range_above : (a b n : ℕ) → a < b → AllByRecursion (λ y. nat_cmp a y ≡ Less) (range_with_len b n)
range_above a b zero h = tt
range_above a b (suc n) h = (less a b h, range_above a (b + 1) n (omega arith))

pub range_rising : (a n : ℕ) → IsStrictlySortedBy nat_cmp (range_with_len a n)
unfolding IsStrictlySortedBy
range_rising a zero = tt
range_rising a (suc n) = (range_above a (a + 1) n (omega arith), range_rising (a + 1) n)

pub at_number : (d y : ℕ) → is_eq (nat_cmp d y) ≡ (y == d)
at_number d y = grind arith

share_nil : (xs : List ℕ) → share xs [] ≡ false
share_nil [] = refl
share_nil (x ∷ xs) = share_nil xs

pub rows_past : (cells : List (List ℕ)) (d : ℕ) → length cells ≤ d → rows_of cells d ≡ []
rows_past cells d h = get_or_past cells d [] h

pub conflict_past : (cells : List (List ℕ)) (c d : ℕ) → length cells ≤ d → conflict cells c d ≡ false
unfolding conflict
conflict_past cells c d h = ap (λ rows. not (c == d) && share (rows_of cells c) rows) (rows_past cells d h) ∙ ap (λ b. not (c == d) && b) (share_nil (rows_of cells c)) ∙ and-false (not (c == d))
