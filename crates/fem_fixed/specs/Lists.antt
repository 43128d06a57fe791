-- Lists of elements of any type, compared by a test of equality.
use Rattle.std.specs.Prelude.{◌≡◌, ◌<◌, ℕ, ◌+◌, Bool, true, List, [], ◌∷◌, Some, None, if◌then◌else◌}
use Rattle.std.specs.declared.option.Option.{Option}
use Rattle.std.specs.declared.cmp.Ordering.{Ordering}
use Rattle.std.specs.Ordering.{nat_cmp, ordering_then}
use Rattle.std.specs.List.{list_any, before_first, position}

-- the test answers true for an element and itself, and for no two others
pub record IsEquality {X : Type 0} (same : X → X → Bool) : Type 0 where
  pub itself : (x : X) → same x x ≡ true
  pub equal : (x y : X) → same x y ≡ true → x ≡ y

-- the element is in the list
abbrev pub contains : {X : Type 0} (same : X → X → Bool) → List X → X → Bool
contains same list x = list_any (λ y. same y x) list

-- how many different elements there are: each is counted where it comes for the last time
abbrev pub different : {X : Type 0} (same : X → X → Bool) → List X → ℕ
different same [] = 0
different same (x ∷ list) = (if contains same list x then 0 else 1) + different same list

-- the position of the first occurrence
abbrev pub place_of : {X : Type 0} (same : X → X → Bool) → List X → X → Option ℕ
place_of same list x = position (λ y. same y x) list

-- the number of an element, where elements are numbered as they come: how many different ones stand before
-- its first occurrence
unfoldable pub rank_of : {X : Type 0} (same : X → X → Bool) → List X → X → ℕ
rank_of same list x = different same (before_first (λ y. same y x) list)

-- the same for an element that is in the list
abbrev pub rank_among : {X : Type 0} (same : X → X → Bool) → List X → X → Option ℕ
rank_among same list x = if contains same list x then Some (rank_of same list x) else None

-- numbers as they come: they are below the count, and no two elements have one
pub record IsNumbering {X : Type 0} (same : X → X → Bool) (list : List X) : Type 0 where
  pub below : (x : X) → contains same list x ≡ true → rank_of same list x < different same list
  pub one : (x y : X) → contains same list x ≡ true → contains same list y ≡ true → rank_of same list x ≡ rank_of same list y → x ≡ y

-- pairs in order by the first part, and then by the second
abbrev pub pair_by : {X Y : Type 0} (first : X → X → Ordering) (second : Y → Y → Ordering) → X × Y → X × Y → Ordering
pair_by first second a b = ordering_then (first a.0 b.0) (second a.1 b.1)

-- pairs of numbers in order
abbrev pub pair_cmp : ℕ × ℕ → ℕ × ℕ → Ordering
pair_cmp a b = pair_by nat_cmp nat_cmp a b
