-- Each list has an order by a test that two elements don't pass both ways.
use Rattle.std.proofs.Common.{◌≡◌, ◌∙◌, sym, ap, refl, subst, ℕ, zero, suc, ◌+◌, ◌<◌, ◌≤◌, Bool, true, false, cond, List, [], ◌∷◌, length, take, slice_index, slice_index_or, arith}
use Rattle.std.specs.declared.cmp.Ordering.{Ordering}
use Rattle.std.specs.declared.cmp.Ordering.TheVariants.{Less, Equal, Greater}
use Rattle.std.specs.Ordering.{ordering_reverse, is_lt, nat_cmp}
use Rattle.std.specs.List.{range_with_len}
use Rattle.std.specs.Cmp.{IsTotalOrder}
use Rattle.std.specs.List.Sorted.{IsPermutation, IsSortedBy}
use Rattle.std.proofs.lemmas.Cmp.{nat_cmp_total, on_total, then_total, back_total}
use Rattle.std.proofs.lemmas.List.Sorted.{IsPermutation-refl, IsPermutation-trans, IsPermutation-cons, IsPermutation-middle}
use Rattle.jump_refine.specs.Marks.{falling, AreRanked, AreMarked}

module _ {X : Type 0} (lt : X → X → Bool) (one_way : (x y : X) → lt x y ≡ true → lt y x ≡ false) where
  -- an element behind all that it doesn't precede
  inserted : X → List X → List X
  inserted y [] = y ∷ []
  inserted y (x ∷ xs) = cond (lt y x) (y ∷ x ∷ xs) (x ∷ inserted y xs)

  NotBefore : X → List X → Type 0
  NotBefore x [] = Unit {0}
  NotBefore x (y ∷ ys) = lt y x ≡ false

  -- no element comes after one that it precedes
  Rises : List X → Type 0
  Rises [] = Unit {0}
  Rises (x ∷ xs) = NotBefore x xs × Rises xs

  not_before : (x y : X) (xs : List X) → lt y x ≡ false → NotBefore x xs → NotBefore x (inserted y xs)
  unfolding NotBefore inserted
  not_before x y [] h n = h
  not_before x y (z ∷ zs) h n =
      (elim (lt y z) as (λ b. NotBefore x (cond b (y ∷ z ∷ zs) (z ∷ inserted y zs))) [ true ↦ h | false ↦ n ])

  inserted_rises : (y : X) (xs : List X) → Rises xs → Rises (inserted y xs)
  unfolding Rises NotBefore inserted
  inserted_rises y [] r = (tt, tt)
  inserted_rises y (x ∷ xs) r =
      (elim (lt y x) as (λ b. lt y x ≡ b → Rises (cond b (y ∷ x ∷ xs) (x ∷ inserted y xs)))
      [ true ↦ λ e. (one_way y x e, r) | false ↦ λ e. (not_before x y xs e r.0, inserted_rises y xs r.1) ]) refl

  inserted_permutes : (y : X) (xs : List X) → IsPermutation (y ∷ xs) (inserted y xs)
  unfolding inserted
  inserted_permutes y [] = IsPermutation-refl (y ∷ [])
  inserted_permutes y (x ∷ xs) =
      (elim (lt y x) as (λ b. IsPermutation (y ∷ x ∷ xs) (cond b (y ∷ x ∷ xs) (x ∷ inserted y xs))) [
        | true ↦ IsPermutation-refl (y ∷ x ∷ xs)
        | false ↦ IsPermutation-trans (y ∷ x ∷ xs) (x ∷ y ∷ xs) (x ∷ inserted y xs) (IsPermutation-middle (y ∷ []) x xs) (IsPermutation-cons x (y ∷ xs) (inserted y xs) (inserted_permutes y xs))
      ])

  pub ordered : List X → List X
  ordered [] = []
  ordered (x ∷ xs) = inserted x (ordered xs)

  ordered_rises : (xs : List X) → Rises (ordered xs)
  unfolding ordered Rises
  ordered_rises [] = tt
  ordered_rises (x ∷ xs) = inserted_rises x (ordered xs) (ordered_rises xs)

  pub ordered_permutes : (xs : List X) → IsPermutation xs (ordered xs)
  unfolding ordered
  ordered_permutes [] = IsPermutation-refl []
  ordered_permutes (x ∷ xs) =
      IsPermutation-trans (x ∷ xs) (x ∷ ordered xs) (inserted x (ordered xs)) (IsPermutation-cons x xs (ordered xs) (ordered_permutes xs)) (inserted_permutes x (ordered xs))

  rising_sorted : (xs : List X) → Rises xs → (k : ℕ) (d : X) → k + 1 < length xs → lt (slice_index_or xs (k + 1) d) (slice_index_or xs k d) ≡ false
  unfolding Rises NotBefore
  rising_sorted [] r k d h = absurd (omega (arith, h))
  rising_sorted (x ∷ []) r k d h = absurd (omega (arith, h))
  rising_sorted (x ∷ y ∷ zs) r zero d h = r.0
  rising_sorted (x ∷ y ∷ zs) r (suc j) d h =
      let e : suc (j + 1) ≡ suc j + 1 = omega arith in
      subst (λ n. lt (slice_index_or (x ∷ y ∷ zs) n d) (slice_index_or (y ∷ zs) j d) ≡ false) e (rising_sorted (y ∷ zs) r.1 j d (omega (arith, h)))

  pub ordered_sorted : (xs : List X) → IsSortedBy lt (ordered xs)
  ordered_sorted xs k d low h = rising_sorted (ordered xs) (ordered_rises xs) k d h

flips : (o p : Ordering) → p ≡ ordering_reverse o → is_lt o ≡ true → is_lt p ≡ false
flips Less p is h = ap is_lt is
flips Equal p is h = ap is_lt is
flips Greater p is h = cc

-- each list of indicators has its first cells
pub some_marks : (etas : List ℕ) (n : ℕ) → (marks : List ℕ) × AreMarked etas n marks
some_marks etas n =
    let order : IsTotalOrder (falling etas) = then_total (back_total (on_total (λ c. slice_index etas c) nat_cmp_total)) nat_cmp_total in
    let one_way : (x y : ℕ) → is_lt (falling etas x y) ≡ true → is_lt (falling etas y x) ≡ false = λ x y h. flips (falling etas x y) (falling etas y x) (order.antisymm y x) h in
    let cells : List ℕ = range_with_len 0 (length etas) in
    let ranked : List ℕ = ordered (λ x y. is_lt (falling etas x y)) one_way cells in (
      take n ranked,
      record {
        ranked = ranked;
        order = record { all = ordered_permutes (λ x y. is_lt (falling etas x y)) one_way cells; sorted = ordered_sorted (λ x y. is_lt (falling etas x y)) one_way cells };
        first = refl;
      },
    )
