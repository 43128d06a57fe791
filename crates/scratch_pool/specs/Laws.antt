-- A table that keeps the rule shows a state of the machine in which no object is with two passes. Each step of the code is
-- one event of the machine, and no other pass takes part in it.
use Rattle.std.specs.Prelude.{◌≡◌, ◌≢◌, ℕ, ◌-◌, ◌^◌, ◌<◌, ◌≤◌, List, [], ◌∷◌, ◌++◌, length, slice_index, slice_set, Option, None, Some}
use Rattle.std.specs.Int.{bit_at}
use Rattle.std.specs.Int.RustNames.{bit_or}
use lib.Bits.{bit_and}
use mathlib.Core.Option.{some}
use lib.ListN.{get_elem?}
use Rattle.atomic_table.specs.Table.{State, Act, opening, stepped}
use Rattle.scratch_pool.specs.declared.view.View.{View}
use Rattle.scratch_pool.specs.Machine.{Machine, IsExclusive, IsNew, dealer, takes, misses, returns, splits, joins, Happens, dealing, dealt, joined, spent, gave}
use Rattle.scratch_pool.specs.Rule.{IsHome, Pooled, machine}
use Rattle.scratch_pool.specs.Plays.{bit, mask, Tried}

module _ (T : Type 0) where
  -- no object is with two passes, each is at home or with one, and one whose bit is set lies in its place
  abbrev pub StatesAreExclusive : Type 0
  StatesAreExclusive = (seats : ℕ) (s : State (Option T) View) → Pooled seats s → IsExclusive (length s.homes) (machine s) × ((k : ℕ) → k < length s.homes → bit_at (slice_index s.words 0) k ≡ 1 → IsHome s.homes k)

  -- the table that a new pool begins with: the bits of its objects are set, and the one pass, which all others are split
  -- from, holds nothing. Each split leaves it so.
  abbrev pub StartsNew : Type 0
  StartsNew = ((objects seats : ℕ) (slots : List (Option T)) → objects ≤ 64 → IsNew objects (machine (opening ((2 ^ objects - 1) ∷ []) slots (dealer seats))))
      × ((objects p : ℕ) (m m' : Machine) → IsNew objects m → Happens (splits p) m m' → IsNew objects m')

  -- a fetch_and of the pass p that clears the bit of object k, after which it knows what `Tried` tells: the pass
  -- takes the object where its bit was set, and misses it where it was clear
  abbrev pub TriesAreEvents : Type 0
  TriesAreEvents = (seats : ℕ) (s : State (Option T) View) (p k : ℕ) (v w : View) (slots carried : List (ℕ × Option T)) (act : Act (Option T)) → Pooled seats s → get_elem? s.views p ≡ some v → v.holds ≡ None → k < 64
      → Tried k (v, slots) (slice_index s.words 0) (w, carried)
      → (bit_at (slice_index s.words 0) k ≡ 1 → Happens (takes p k) (machine s) (machine (stepped s 0 (bit_and (slice_index s.words 0) (mask k)) p slots w act)))
      × (bit_at (slice_index s.words 0) k ≡ 0 → Happens (misses p k) (machine s) (machine (stepped s 0 (bit_and (slice_index s.words 0) (mask k)) p slots w act)))

  -- a fetch_or of the pass p that sets the bit of the object k that it holds
  abbrev pub ReturnsAreEvents : Type 0
  ReturnsAreEvents = (seats : ℕ) (s : State (Option T) View) (p k : ℕ) (v w : View) (slots : List (ℕ × Option T)) (act : Act (Option T)) → Pooled seats s → get_elem? s.views p ≡ some v → v.holds ≡ Some k → w ≡ gave v
      → Happens (returns p k) (machine s) (machine (stepped s 0 (bit_or (slice_index s.words 0) (bit k)) p slots w act))

  -- a split, and a join of two idle passes
  abbrev pub SplitsAreEvents : Type 0
  SplitsAreEvents = (s : State (Option T) View) (p : ℕ) (v : View) → get_elem? s.views p ≡ some v → v.holds ≡ None
      → Happens (splits p) (machine s) (machine {T = T} record { words = s.words; homes = s.homes; views = slice_set s.views p (dealing v) ++ dealt v ∷ [] })

  abbrev pub JoinsAreEvents : Type 0
  JoinsAreEvents = (s : State (Option T) View) (p q : ℕ) (v w : View) → get_elem? s.views p ≡ some v → get_elem? s.views q ≡ some w → p ≢ q → v.holds ≡ None → w.holds ≡ None
      → Happens (joins p q) (machine s) (machine {T = T} record { words = s.words; homes = s.homes; views = slice_set (slice_set s.views p (joined v w)) q spent })

  abbrev pub StepsAreEvents : Type 0
  StepsAreEvents = TriesAreEvents × ReturnsAreEvents × SplitsAreEvents × JoinsAreEvents
