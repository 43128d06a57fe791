-- The rule of a round's table over plain numbers and lists. Word 0 is the next number; the slots are the rows.
use Rattle.std.specs.Prelude.{◌≡◌, ℕ, ◌+◌, ◌<◌, ◌≤◌, List, [], ◌∷◌, length, map, slice_index}
use mathlib.Core.Option.{Option, some}
use lib.ListN.{get_elem?}
use Rattle.atomic_table.specs.Table.{State}
use Rattle.colored_copier.specs.declared.view.View.{View}
use Rattle.colored_copier.specs.declared.view.Phase.{Phase}
use Rattle.colored_copier.specs.declared.view.Phase.TheVariants.{Fresh, Claimed, Over}
use Rattle.colored_copier.specs.Phases.{Free, claims}
use Rattle.colored_copier.specs.Plans.{In, IsApart}

abbrev pub total : {A : Type 0} → (A → ℕ) → List A → ℕ
total f [] = 0
total f (x ∷ xs) = f x + total f xs

abbrev pub view : {X : Type 0} → ℕ → ℕ → ℕ → Phase → Rattle.std.specs.Prelude.Option X → View X
view parts overs number phase key = record { parts = parts; overs = overs; number = number; phase = phase; key = key }

module _ {S : Type 0} where
  abbrev pub place : ℕ × S → ℕ
  place x = x.0

  -- a plan names what is at places of the start, no place twice
  pub record Planned (items : ℕ) (start : List S) (plan : ℕ → List (ℕ × S)) : Type 0 where
    pub at : (n p : ℕ) (x : S) → n < items → In (p, x) (plan n) → get_elem? start p ≡ some x
    pub apart : (n : ℕ) → n < items → IsApart (map place (plan n))
    pub once : (m n p : ℕ) (x y : S) → m < items → n < items → In (p, x) (plan m) → In (p, y) (plan n) → m ≡ n

module _ {X : Type 0} where
  abbrev pub claiming : ℕ → View X → ℕ
  claiming n v = claims n v.phase

  abbrev pub overs : View X → ℕ
  overs v = v.overs

  abbrev pub parts : View X → ℕ
  parts v = v.parts

  -- who has which number (d: how many items are claimed)
  pub record Counts (seats items next d : ℕ) (views : List (View X)) : Type 0 where
    pub all_parts : total parts views ≡ seats
    pub few : d ≤ items
    pub split : next ≡ d + total overs views
    pub all : d < items → total overs views ≡ 0
    pub once : (n : ℕ) → total (claiming n) views ≤ 1
    pub within : (n : ℕ) → 0 < total (claiming n) views → n < d
    pub each : (p : ℕ) (v : View X) → get_elem? views p ≡ some v → (v.overs ≤ v.parts) × (v.parts ≡ 0 → Free v.phase)

  module _ {S : Type 0} where
    -- rows of done items are at home and have their step; rows of no claimed item are as at first
    pub record Homes (start : List S) (plan : ℕ → List (ℕ × S)) (finish : ℕ → S → S) (d : ℕ) (homes : List (Option S)) (views : List (View X)) : Type 0 where
      pub done : (n p : ℕ) (x : S) → n < d → In (p, x) (plan n) → total (claiming n) views ≡ 0 → get_elem? homes p ≡ some (some (finish n x))
      pub rest : (p : ℕ) (x : S) → get_elem? start p ≡ some x → ((n : ℕ) (y : S) → n < d → In (p, y) (plan n) → ⊥) → get_elem? homes p ≡ some (some x)

    pub record RoundRule (seats items : ℕ) (start : List S) (plan : ℕ → List (ℕ × S)) (finish : ℕ → S → S) (s : State S (View X)) : Type 0 where
      pub d : ℕ
      pub wide : length s.words ≡ 1
      pub slots : length s.homes ≡ length start
      pub planned : Planned items start plan
      pub counts : Counts seats items (slice_index s.words 0) d s.views
      pub homes : Homes start plan finish d s.homes s.views

module _ {S : Type 0} where
  -- what a pass has once its item is written
  abbrev pub steps : (ℕ → List (ℕ × S)) → (ℕ → S → S) → ℕ → List (ℕ × S)
  steps plan finish n = map (λ x. (x.0, finish n x.1)) (plan n)

  abbrev pub carried : (ℕ → List (ℕ × S)) → (ℕ → S → S) → Phase → List (ℕ × S)
  carried plan finish Fresh = []
  carried plan finish (Claimed n) = steps plan finish n
  carried plan finish (Over n) = []

  -- each place that an item names has that item's step, and each other one is as at the start
  pub record Ended (items : ℕ) (start : List S) (plan : ℕ → List (ℕ × S)) (finish : ℕ → S → S) (xs : List S) : Type 0 where
    pub as_many : length xs ≡ length start
    pub done : (n p : ℕ) (x : S) → n < items → In (p, x) (plan n) → get_elem? xs p ≡ some (finish n x)
    pub rest : (p : ℕ) (x : S) → get_elem? start p ≡ some x → ((n : ℕ) (y : S) → n < items → In (p, y) (plan n) → ⊥) → get_elem? xs p ≡ some x
