-- States that fit.
use Rattle.std.proofs.Common.{ℕ, zero, suc}
use Rattle.ordered_pipeline.specs.Fold.{fold}

pub fold_fits : {J S : Type 0} (fits : J → S → Type 0) (step : J → S → ℕ → S) → ((j : J) (s : S) (i : ℕ) → fits j s → fits j (step j s i)) → (j : J) (s : S) → fits j s → (n : ℕ) → fits j (fold step j s n)
fold_fits fits step law j s h zero = h
fold_fits fits step law j s h (suc n) = law j (fold step j s n) n (fold_fits fits step law j s h n)
