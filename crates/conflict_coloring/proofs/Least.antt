-- The least number that passes a test.
use Rattle.std.proofs.Common.{◌≡◌, ◌⊎◌, inl, inr, ⊎_elim, ℕ, ◌+◌, ◌<◌, List, [], ◌∷◌, Bool, true, false, ◌==◌, refl, ◌∙◌, ap, arith, zero, suc}
use Rattle.std.specs.Prelude.{not}
use Rattle.std.proofs.lemmas.Bool.{eqb-true, or_cases, cases_eq}
use Rattle.conflict_coloring.specs.Conflict.{has}
use Rattle.conflict_coloring.proofs.Members.{bool_cases, false_or_true}

pub not_true : (b : Bool) → not b ≡ true → b ≡ false
not_true true h = cc
not_true false h = refl

-- k passes the test, and no lesser number does
pub record IsLeast (test : ℕ → Bool) (k : ℕ) : Type 0 where
  pub passes : test k ≡ true
  pub least : (j : ℕ) → j < k → test j ≡ false

-- one of the numbers below n passes, or none of them
pub least_below : (test : ℕ → Bool) (n : ℕ) → ((k : ℕ) × (k < n) × IsLeast test k) ⊎ ((k : ℕ) → k < n → test k ≡ false)
least_below test zero = inr (λ k lt. absurd (omega arith))
least_below test (suc n) = elim (least_below test n) [
  | inl found ↦ inl (found.0, omega (arith, found.1), found.2)
  | inr none ↦ elim (bool_cases (test n)) [
    | inl here ↦ inl (n, omega arith, record { passes = here; least = none })
    | inr fails ↦ inr (λ k lt. elim (cases_eq k n) [
      | inl same ↦ ap test same ∙ fails
      | inr apart ↦ none k (omega arith)
    ])
  ]
]

-- where a number passes, there is a least one
pub least_from : (test : ℕ → Bool) (n : ℕ) → test n ≡ true → (k : ℕ) × IsLeast test k
least_from test n passes = elim (least_below test (suc n)) [
  | inl found ↦ (found.0, found.2)
  | inr none ↦ absurd (false_or_true (test n) (none n (omega arith)) passes)
]

-- a number above all of the list
abbrev pub above : List ℕ → ℕ
above [] = 0
above (x ∷ xs) = suc x + above xs

pub has_below : (xs : List ℕ) (k : ℕ) → has xs k ≡ true → k < above xs
has_below [] k h = absurd (cc)
has_below (x ∷ xs) k h =
    ⊎_elim (λ e. (let same : x ≡ k = eqb-true x k e in omega arith)) (λ r. (let low = has_below xs k r in omega arith)) (or_cases (x == k) (has xs k) h)
