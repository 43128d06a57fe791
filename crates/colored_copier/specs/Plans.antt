-- Which rows an item has, and where they lie.
use Rattle.std.specs.Prelude.{◌≡◌, ◌≢◌, ℕ, suc, ◌<◌, List, [], ◌∷◌, ◌++◌, cond, ◌==◌}
use mathlib.Core.Option.{some}
use lib.ListN.{get_elem?}

-- the list has it
abbrev pub In : {A : Type 0} → A → List A → Type 0
In a xs = (k : ℕ) × (get_elem? xs k ≡ some a)

-- the head is not among the later ones
abbrev pub IsApart : List ℕ → Type 0
IsApart [] = Unit {0}
IsApart (p ∷ ps) = ((q : ℕ) → In q ps → q ≢ p) × IsApart ps

-- each number is below those after it
abbrev pub Rise : List ℕ → Type 0
Rise [] = Unit {0}
Rise (p ∷ ps) = ((q : ℕ) → In q ps → p < q) × Rise ps

module _ {R : Type 0} where
  abbrev pub row_number : ℕ × R → ℕ
  row_number x = x.0

  -- the first place from k on that has the row r, with what lies there
  abbrev pub look : ℕ → ℕ → List (ℕ × R) → List (ℕ × (ℕ × R))
  look r k [] = []
  look r k (x ∷ xs) = cond (x.0 == r) ((k, x) ∷ []) (look r (suc k) xs)

  -- the places of these rows, with what lies there
  abbrev pub picks : List (ℕ × R) → List ℕ → List (ℕ × (ℕ × R))
  picks start [] = []
  picks start (r ∷ rs) = look r 0 start ++ picks start rs
