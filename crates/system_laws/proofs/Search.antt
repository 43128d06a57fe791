-- Searching below a bound.
use Rattle.std.proofs.Common.{◌≡◌, ◌∙◌, ap, ℕ, zero, suc, ◌+◌, ◌<◌, ◌≤◌, ◌⊎◌, inl, inr, ⊎_elim, Bool, true, false, arith}
use Rattle.std.specs.Prelude.{◌||◌}
use Rattle.std.proofs.lemmas.Bool.{cases_Bool, cases_lt}
use Rattle.corner_names.proofs.Active.{or_true, or_left, or_right}

-- some number below n passes
pub some_below : (ℕ → Bool) → ℕ → Bool
some_below test zero = false
some_below test (suc n) = test n || some_below test n

pub some_from : (test : ℕ → Bool) (n : ℕ) → some_below test n ≡ true → (k : ℕ) × ((k < n) × (test k ≡ true))
unfolding some_below
some_from test zero h = absurd cc
some_from test (suc n) h =
    let R : Type 0 = (k : ℕ) × ((k < suc n) × (test k ≡ true)) in
    ⊎_elim (λ (a : test n ≡ true). let r : R = (n, (omega arith, a)) in r)
    (λ (a : some_below test n ≡ true). let t = some_from test n a in let r : R = (t.0, (omega (arith, t.1.0), t.1.1)) in r) (or_true (test n) (some_below test n) h)

pub some_to : (test : ℕ → Bool) (n k : ℕ) → k < n → test k ≡ true → some_below test n ≡ true
unfolding some_below
some_to test zero k h t = absurd (omega arith)
some_to test (suc n) k h t = ⊎_elim (λ (a : k < n). or_right (test n) (some_below test n) (some_to test n k a t))
    (λ (a : n ≤ k). let e : n ≡ k = omega arith in or_left (test n) (some_below test n) (ap test e ∙ t)) (cases_lt k n)

-- the first number below n that passes
pub record IsFirst (test : ℕ → Bool) (n k : ℕ) : Type 0 where
  pub below : k < n
  pub passes : test k ≡ true
  pub before : (j : ℕ) → j < k → test j ≡ false

-- none passes, or one is the first
pub first_or_none : (test : ℕ → Bool) (n : ℕ) → ((k : ℕ) × IsFirst test n k) ⊎ ((k : ℕ) → k < n → test k ≡ false)
first_or_none test zero = inr (λ k h. absurd (omega arith))
first_or_none test (suc n) =
    let R : Type 0 = ((k : ℕ) × IsFirst test (suc n) k) ⊎ ((k : ℕ) → k < suc n → test k ≡ false) in
    ⊎_elim
    (λ (t : (k : ℕ) × IsFirst test n k). let b = t.1.below in let r : R = inl (t.0, record { below = omega arith; passes = t.1.passes; before = t.1.before }) in r)
    (λ (t : (k : ℕ) → k < n → test k ≡ false). ⊎_elim
    (λ (a : test n ≡ true). let r : R = inl (n, record { below = omega arith; passes = a; before = t }) in r)
    (λ (a : test n ≡ false). let r : R = inr (λ k h. ⊎_elim (λ (b : k < n). t k b) (λ (b : n ≤ k). let e : k ≡ n = omega arith in ap test e ∙ a) (cases_lt k n)) in r)
    (cases_Bool (test n)))
    (first_or_none test n)

-- a number that none of f's values below n passes
pub above : (ℕ → ℕ) → ℕ → ℕ
above f zero = 0
above f (suc n) = f n + above f n

pub above_each : (f : ℕ → ℕ) (n i : ℕ) → i < n → f i ≤ above f n
unfolding above
above_each f zero i h = absurd (omega arith)
above_each f (suc n) i h =
    ⊎_elim (λ (a : i < n). let t = above_each f n i a in omega arith) (λ (a : n ≤ i). let e : i ≡ n = omega arith in let t : f i ≡ f n = ap f e in omega arith) (cases_lt i n)
