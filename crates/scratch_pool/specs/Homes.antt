-- Objects in their places.
use Rattle.std.specs.Prelude.{◌≡◌, ℕ, ◌<◌, List, Option, Some}
use mathlib.Core.Option.{some}
use lib.ListN.{get_elem?}

-- each of the first n objects is there
abbrev pub AreHome : {T : Type 0} → ℕ → List (Option T) → Type 0
AreHome {T} n places = (k : ℕ) → k < n → (x : T) × (get_elem? places k ≡ some (Some x))
