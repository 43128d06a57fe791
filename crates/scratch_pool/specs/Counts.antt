-- Counts that stay at their type's end, and sums over lists.
use Rattle.std.specs.Prelude.{ℕ, ◌+◌, ◌-◌, ◌^◌, List, [], ◌∷◌, min, slice_index, slice_set}

-- one more, but a count of 64 bits stays at its greatest value
abbrev pub raised : ℕ → ℕ
raised n = min (n + 1) (2 ^ 64 - 1)

-- the counts with one more at this place
abbrev pub raised_at : ℕ → List ℕ → List ℕ
raised_at k counts = slice_set counts k (raised (slice_index counts k))

-- the sum of a number of each element
abbrev pub total : {A : Type 0} → (A → ℕ) → List A → ℕ
total f [] = 0
total f (x ∷ xs) = f x + total f xs
