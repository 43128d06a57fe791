-- How a table that meets the rule shows a state of the machine, and each of its steps an event.
use Rattle.std.specs.Prelude.{◌≡◌, ◌≢◌, ℕ, ◌+◌, ◌%◌, ◌^◌, ◌<◌, List, ◌∷◌, ◌++◌, [], map, slice_index, slice_set}
use mathlib.Core.Option.{some}
use lib.ListN.{get_elem?}
use Rattle.atomic_table.specs.Table.{State, Me, Act, opening, stepped}
use Rattle.colored_copier.specs.declared.view.View.{View}
use Rattle.colored_copier.specs.declared.view.Phase.{Phase}
use Rattle.colored_copier.specs.declared.view.Phase.TheVariants.{Fresh, Claimed}
use Rattle.colored_copier.specs.Machine.{Machine, ClaimEvent, SplitEvent, JoinEvent, Claims, Splits, Joins, IsExclusive}
use Rattle.colored_copier.specs.Plans.{In}
use Rattle.colored_copier.specs.Rule.{RoundRule}

-- what a seat's pass is doing
abbrev pub phase_of : {X : Type 0} → View X → Phase
phase_of v = v.phase

module _ {X S : Type 0} where
  -- the state that the table shows
  abbrev pub shown : State S (View X) → Machine
  shown s = record { next = slice_index s.words 0; phases = map phase_of s.views }

module _ (X S : Type 0) where
  -- a new table shows one fresh pass, which all others are split from, and the number 0
  abbrev pub StartsFresh : Type 0
  StartsFresh = (start : List S) (v : View X) → v.phase ≡ Fresh → shown (opening (0 ∷ []) start v) ≡ record { next = 0; phases = Fresh ∷ [] }

  -- each table that meets the rule shows a state in which no item and no row is with two passes
  abbrev pub StatesAreExclusive : Type 0
  StatesAreExclusive = (seats items : ℕ) (start : List S) (plan : ℕ → List (ℕ × S)) (finish : ℕ → S → S) (s : State S (View X)) → RoundRule seats items start plan finish s
      → IsExclusive items (shown s)
      × ((p q m n row : ℕ) (x y : S) → get_elem? (shown s).phases p ≡ some (Claimed m) → get_elem? (shown s).phases q ≡ some (Claimed n) → In (row, x) (plan m) → In (row, y) (plan n) → p ≡ q)

  -- a fetch_add of 1 on the word, whatever it does with the slots, is a claim
  abbrev pub ClaimsAreEvents : Type 0
  ClaimsAreEvents = (seats items : ℕ) (start : List S) (plan : ℕ → List (ℕ × S)) (finish : ℕ → S → S) (s : State S (View X)) (id : ℕ) (me : Me S (View X)) (after : View X) (act : Act S)
      → items + seats + 1 < 2 ^ 64 → RoundRule seats items start plan finish s → get_elem? s.views id ≡ some me.0 → ClaimEvent items me.0.phase (slice_index s.words 0) after.phase
      → Claims items id (shown s) (shown (stepped s 0 ((slice_index s.words 0 + 1) % 2 ^ 64) id me.1 after act))

  -- a split of a view
  abbrev pub SplitsAreEvents : Type 0
  SplitsAreEvents = (s : State S (View X)) (id : ℕ) (v left right : View X) → get_elem? s.views id ≡ some v → SplitEvent v.phase left.phase right.phase
      → Splits id (shown s) (shown record { words = s.words; homes = s.homes; views = slice_set s.views id left ++ right ∷ [] })

  -- a join of two views, the second of which is spent
  abbrev pub JoinsAreEvents : Type 0
  JoinsAreEvents = (s : State S (View X)) (id other : ℕ) (v w both spent : View X) → get_elem? s.views id ≡ some v → other ≢ id → get_elem? s.views other ≡ some w → JoinEvent v.phase w.phase both.phase → spent.phase ≡ Fresh
      → Joins id other (shown s) (shown record { words = s.words; homes = s.homes; views = slice_set (slice_set s.views id both) other spent })
