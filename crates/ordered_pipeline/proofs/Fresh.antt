-- The passes that a new pipeline gives.
use Rattle.std.proofs.Common.{◌≡◌, ℕ, zero, suc, List, [], ◌∷◌, refl, sym, subst, arith, length, length-append}
use Rattle.std.specs.List.{All}
use Rattle.std.proofs.lemmas.List.Elements.{All-nil, All-push}
use Rattle.atomic_table.specs.Seated.{TableId}
use Rattle.ordered_pipeline.specs.Passes.{PassView}
use Rattle.ordered_pipeline.specs.Fresh.{IsFresh, AreFresh, fresh, fresh_passes}

all_fresh : (C : Type 0) (X : Type 0) (table : TableId) (key : X) (n : ℕ) → All (IsFresh {C = C} table key) (fresh_passes {C = C} table key n)
all_fresh C X table key zero = All-nil (IsFresh {C = C} table key)
all_fresh C X table key (suc n) = All-push (IsFresh {C = C} table key) (fresh_passes {C = C} table key n) (fresh table key n) (all_fresh C X table key n) ((refl, refl), refl, refl)

many_fresh : (C : Type 0) (X : Type 0) (table : TableId) (key : X) (n : ℕ) → length (fresh_passes {C = C} table key n) ≡ n
many_fresh C X table key zero = refl
many_fresh C X table key (suc n) = omega (arith, length-append (fresh_passes {C = C} table key n) (fresh table key n ∷ []), many_fresh C X table key n)

module _ {C X : Type 0} where
  -- there are as many as seats
  pub length_is : (table : TableId) (key : X) (n : ℕ) (passes : List (PassView C X)) → passes ≡ fresh_passes table key n → length passes ≡ n
  length_is table key n passes e = subst (λ (l : List (PassView C X)). length l ≡ n) (sym e) (many_fresh C X table key n)

  -- each is a pass of the pipeline, idle and not over
  pub are_fresh : (table : TableId) (key : X) (n : ℕ) (passes : List (PassView C X)) → passes ≡ fresh_passes table key n → AreFresh table key passes
  are_fresh table key n passes e = subst (All (IsFresh table key)) (sym e) (all_fresh C X table key n)
