-- What a close finds.
use Rattle.std.proofs.Common.{◌≡◌, ℕ, zero, suc, ◌+◌, ◌<◌, max, List, [], ◌∷◌, ◌++◌, length, get_or, refl, ap, ◌∙◌, arith, Some, true}
use Rattle.std.proofs.lemmas.List.Elements.{All-pop}
use Rattle.atomic_table.specs.Seated.{TableId}
use Rattle.ordered_pipeline.specs.declared.view.Phase.TheVariants.{Idle}
use Rattle.scratch_pool.specs.Counts.{total}
use Rattle.ordered_pipeline.specs.Passes.{PassView, over_of}
use Rattle.ordered_pipeline.specs.Ending.{AreIdle, greatest}
use Rattle.scratch_pool.proofs.Sums.{total-append}

module _ {C X : Type 0} where
  abbrev pub overs_of : PassView C X → ℕ
  overs_of p = over_of p.over

  pub greatest_popped : (xs ys : List (PassView C X)) (p : PassView C X) → xs ≡ ys ++ p ∷ [] → greatest xs ≡ max p.drawn (greatest ys)
  greatest_popped xs ys p e = ap greatest e ∙ go ys
    where
      go : (l : List (PassView C X)) → greatest (l ++ p ∷ []) ≡ max p.drawn (greatest l)
      go [] = refl
      go (y ∷ l) = omega (arith, go l)

  pub overs_popped : (xs ys : List (PassView C X)) (p : PassView C X) → xs ≡ ys ++ p ∷ [] → total overs_of xs ≡ over_of p.over + total overs_of ys
  overs_popped xs ys p e = ap (total overs_of) e ∙ omega (arith, total-append overs_of ys (p ∷ []))

  pub popped_idle : (z : TableId) (xs ys : List (PassView C X)) (p : PassView C X) → xs ≡ ys ++ p ∷ [] → AreIdle z xs → AreIdle z ys × ((p.table ≡ z) × (p.phase ≡ Idle))
  popped_idle z xs ys p e h = All-pop (λ (q : PassView C X). (q.table ≡ z) × (q.phase ≡ Idle)) xs ys (Some p) e h

  pub none_left : (xs : List (PassView C X)) → length xs ≡ 0 → (total overs_of xs ≡ 0) × (greatest xs ≡ 0)
  none_left [] e = (refl, refl)
  none_left (x ∷ xs) e = absurd (omega arith)

  pub some_over : (xs : List (PassView C X)) (k : ℕ) (p : PassView C X) → k < length xs → get_or xs k p ≡ p → p.over ≡ true → 0 < total overs_of xs
  some_over [] k p lt e o = absurd (omega (arith, lt))
  some_over (x ∷ xs) zero p lt e o = omega (arith, ap over_of (ap (λ (q : PassView C X). q.over) e ∙ o))
  some_over (x ∷ xs) (suc k) p lt e o = omega (arith, some_over xs k p (omega (arith, lt)) e o)
