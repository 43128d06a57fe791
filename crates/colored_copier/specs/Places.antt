-- Where the rows of each item lie.
use Rattle.std.specs.Prelude.{◌≡◌, ℕ, ◌+◌, ◌<◌, List, ◌∷◌, length}
use mathlib.Core.Option.{some}
use lib.ListN.{get_elem?}
use Rattle.atomic_table.specs.Table.{rest}
use Rattle.colored_copier.specs.declared.places.Places.{Places}
use Rattle.colored_copier.specs.declared.places.Places.TheVariants.{Counted, Listed}

-- the i-th row of the item n: its place stands i after the item's start, and there is its number
pub record PlaceOf (numbers starts places : List ℕ) (n i row : ℕ) : Type 0 where
  pub start : ℕ
  pub place : ℕ
  pub start_is : get_elem? starts n ≡ some start
  pub place_is : get_elem? places (start + i) ≡ some place
  pub there : get_elem? numbers place ≡ some row

-- the places of all rows of the first items
pub record IsPlaced (rows_of : ℕ → List ℕ) (numbers : List ℕ) (items : ℕ) (starts places : List ℕ) : Type 0 where
  pub as_many : length starts ≡ items
  pub each : (n i row : ℕ) → n < items → get_elem? (rows_of n) i ≡ some row → PlaceOf numbers starts places n i row

-- the places of the first rows of the next item stand behind those of the items before it
pub record AddsItem (numbers rows : List ℕ) (count : ℕ) (old new : List ℕ) : Type 0 where
  pub longer : length new ≡ length old + count
  pub kept : (k : ℕ) → k < length old → get_elem? new k ≡ get_elem? old k
  pub added : (i row : ℕ) → i < count → get_elem? rows i ≡ some row → (place : ℕ) × (get_elem? new (length old + i) ≡ some place) × (get_elem? numbers place ≡ some row)

-- each number is its own place
abbrev pub AreCounted : List ℕ → Type 0
AreCounted numbers = (k row : ℕ) → get_elem? numbers k ≡ some row → row ≡ k

-- the rows of the first items have their places: their numbers, or those that were looked up
abbrev pub ArePlaced : (ℕ → List ℕ) → List ℕ → ℕ → Places → Type 0
ArePlaced rows_of numbers items Counted = AreCounted numbers
ArePlaced rows_of numbers items (Listed lists) = IsPlaced rows_of numbers items lists.starts.items lists.places.items

module _ {R : Type 0} where
  -- the seat's first slot has this row, as at first
  abbrev pub Next : List (ℕ × R) → ℕ → List (ℕ × (ℕ × R)) → Type 0
  Next first row l = (p : ℕ) × (x : R) × (l ≡ (p, (row, x)) ∷ rest l) × (get_elem? first p ≡ some (row, x))
