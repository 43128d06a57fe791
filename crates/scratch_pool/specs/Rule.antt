-- The rule of the pool's table. The table has one word, the bits, and a place for each object.
use Rattle.std.specs.Prelude.{◌≡◌, ℕ, ◌<◌, ◌≤◌, List, length, slice_index, Option, Some}
use Rattle.std.specs.Int.{bit_at}
use mathlib.Core.Option.{some}
use lib.ListN.{get_elem?}
use Rattle.atomic_table.specs.Table.{State}
use Rattle.scratch_pool.specs.declared.view.View.{View}
use Rattle.scratch_pool.specs.Counts.{total}
use Rattle.scratch_pool.specs.Machine.{Machine, IsSound}

module _ {T : Type 0} where
  -- the machine that a table shows
  abbrev pub machine : State (Option T) View → Machine
  machine s = record { bits = slice_index s.words 0; passes = s.views }

  -- the object is in its place
  abbrev pub IsHome : List (mathlib.Core.Option.Option (Option T)) → ℕ → Type 0
  IsHome homes k = (x : T) × (get_elem? homes k ≡ some (some (Some x)))

  -- between any two steps: the machine is sound, an object whose bit is set is in its place, and a pass that
  -- holds an object has a part of the right to close
  pub record Pooled (seats : ℕ) (s : State (Option T) View) : Type 0 where
    pub wide : length s.words ≡ 1
    pub few : length s.homes ≤ 64
    pub parts : total (λ v. v.parts) s.views ≡ seats
    pub home : (k : ℕ) → k < length s.homes → bit_at (slice_index s.words 0) k ≡ 1 → IsHome s.homes k
    pub once : IsSound (length s.homes) (machine s)
    pub held : (p : ℕ) (v : View) (k : ℕ) → get_elem? s.views p ≡ some v → v.holds ≡ Some k → (k < length s.homes) × (0 < v.parts)
