-- The state after the first items.
use Rattle.std.specs.Prelude.{ℕ, zero, suc}

-- the state after the steps of the items 0 to n - 1, in this order
abbrev pub fold : {J S : Type 0} → (J → S → ℕ → S) → J → S → ℕ → S
fold step job start zero = start
fold step job start (suc n) = step job (fold step job start n) n
