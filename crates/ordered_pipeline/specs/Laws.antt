-- A table that keeps the rule shows a state of the machine in which each item has one place, and each copy object and the
-- baton one pass at most. Each step of the code is one event of the machine, and no other pass takes part in it.
use Rattle.std.specs.Prelude.{◌≡◌, ◌≢◌, ℕ, ◌+◌, ◌*◌, ◌%◌, ◌^◌, ◌<◌, List, [], ◌∷◌, ◌++◌, slice_index, slice_set, replicate}
use mathlib.Core.Option.{some}
use lib.ListN.{get_elem?}
use Rattle.atomic_table.specs.Table.{State, Act, opening, stepped, rest}
use Rattle.ordered_pipeline.specs.declared.view.View.{View}
use Rattle.ordered_pipeline.specs.declared.view.Known.{Known}
use Rattle.ordered_pipeline.specs.declared.view.Cargo.{Cargo}
use Rattle.ordered_pipeline.specs.declared.view.Phase.TheVariants.{Idle, Drawn, Started, Baton, Advanced}
use Rattle.ordered_pipeline.specs.declared.rule.Key.{Key}
use Rattle.ordered_pipeline.specs.Machine.{Machine, IsOrdered, IsNew, MayDeal, READY, TURN, draws, looks, finishes, advances, passes_on, splits, joins, Happens, dealing, dealt, joined, spent_view, phased}
use Rattle.ordered_pipeline.specs.Plays.{Holder, DrewAt, LookedAt, FinishedAt, PassedAt}
use Rattle.ordered_pipeline.specs.Rule.{Kept, machine, first_view}

module _ {J S C : Type 0} (room : J → C → Type 0) (stands : J → ℕ → C → Type 0) (step : J → S → ℕ → S) where
  -- no item, no copy object and no baton is with two passes, and items that are under way are near
  abbrev pub StatesAreOrdered : Type 0
  StatesAreOrdered = (key : Key J S) (s : State (Cargo C S) (View (Known (Key J S)))) → Kept room stands step key s → IsOrdered key.items key.queue (machine s)

  -- Each law speaks of a table that keeps the rule, of the pass p, of what the step's play tells of its seat before
  -- and after, and of the table after the step.
  -- a fetch_add of 1 on word 0
  abbrev pub DrawsAreEvents : Type 0
  DrawsAreEvents = (key : Key J S) (s : State (Cargo C S) (View (Known (Key J S)))) (p : ℕ) (old new : Holder J S C) (act : Act (Cargo C S)) → Kept room stands step key s → get_elem? s.views p ≡ some old.0
      → key.items + key.seats + 1 < 2 ^ 64 → old.0.phase ≡ Idle → DrewAt key old (slice_index s.words 0) new
      → Happens key.items key.queue (draws p) (machine s) (machine (stepped s 0 ((slice_index s.words 0 + 1) % 2 ^ 64) p old.1 new.0 act))

  -- a load of word 8
  abbrev pub LooksAreEvents : Type 0
  LooksAreEvents = (key : Key J S) (s : State (Cargo C S) (View (Known (Key J S)))) (p n : ℕ) (old new : Holder J S C) (act : Act (Cargo C S)) → Kept room stands step key s → get_elem? s.views p ≡ some old.0
      → old.0.phase ≡ Drawn n → LookedAt room key n old (slice_index s.words 8) new
      → Happens key.items key.queue (looks p n) (machine s) (machine (stepped s 8 (slice_index s.words 8) p old.1 new.0 act))

  -- a swap of READY into the word of the item's place
  abbrev pub FinishesAreEvents : Type 0
  FinishesAreEvents = (key : Key J S) (s : State (Cargo C S) (View (Known (Key J S)))) (p n : ℕ) (old new : Holder J S C) (act : Act (Cargo C S)) → Kept room stands step key s → get_elem? s.views p ≡ some old.0 → 0 < key.queue
      → old.0.phase ≡ Started n → FinishedAt step key n old (slice_index s.words (8 * (n % key.queue) + 16)) new
      → Happens key.items key.queue (finishes p n) (machine s) (machine (stepped s (8 * (n % key.queue) + 16) (READY n) p old.1 new.0 act))

  -- a store into word 8
  abbrev pub AdvancesAreEvents : Type 0
  AdvancesAreEvents = (key : Key J S) (s : State (Cargo C S) (View (Known (Key J S)))) (p n : ℕ) (old new : Holder J S C) (act : Act (Cargo C S)) → Kept room stands step key s → get_elem? s.views p ≡ some old.0
      → old.0.phase ≡ Baton n → ((k : ℕ) → old.0.phase ≡ Baton k → new ≡ (phased old.0 (Advanced k), rest old.1))
      → Happens key.items key.queue (advances p n) (machine s) (machine (stepped s 8 (n + 1) p old.1 new.0 act))

  -- a swap of TURN into the word of the next item's place
  abbrev pub PassesAreEvents : Type 0
  PassesAreEvents = (key : Key J S) (s : State (Cargo C S) (View (Known (Key J S)))) (p n : ℕ) (old new : Holder J S C) (act : Act (Cargo C S)) → Kept room stands step key s → get_elem? s.views p ≡ some old.0 → 0 < key.queue
      → old.0.phase ≡ Advanced n → PassedAt room stands key n old (slice_index s.words (8 * ((n + 1) % key.queue) + 16)) new
      → Happens key.items key.queue (passes_on p n) (machine s) (machine (stepped s (8 * ((n + 1) % key.queue) + 16) (TURN (n + 1)) p old.1 new.0 act))

  -- a split, and a join of two idle passes
  abbrev pub SplitsAreEvents : Type 0
  SplitsAreEvents = (key : Key J S) (s : State (Cargo C S) (View (Known (Key J S)))) (p : ℕ) (v : View (Known (Key J S))) → get_elem? s.views p ≡ some v → MayDeal v
      → Happens key.items key.queue (splits p) (machine s) (machine {C = C} record { words = s.words; homes = s.homes; views = slice_set s.views p (dealing v) ++ dealt v ∷ [] })

  abbrev pub JoinsAreEvents : Type 0
  JoinsAreEvents = (key : Key J S) (s : State (Cargo C S) (View (Known (Key J S)))) (p q : ℕ) (v w : View (Known (Key J S))) → get_elem? s.views p ≡ some v → get_elem? s.views q ≡ some w → p ≢ q → v.phase ≡ Idle → w.phase ≡ Idle
      → Happens key.items key.queue (joins p q) (machine s) (machine {C = C} record { words = s.words; homes = s.homes; views = slice_set (slice_set s.views p (joined v w)) q spent_view })

  abbrev pub StepsAreEvents : Type 0
  StepsAreEvents = DrawsAreEvents × LooksAreEvents × FinishesAreEvents × AdvancesAreEvents × PassesAreEvents × SplitsAreEvents × JoinsAreEvents

-- The words that a new table begins with: 2, which is TURN 0, at the ring's first place, and 0 else. Then nothing is drawn, and
-- the one pass, which all others are split from, is idle. Each split leaves it so.
abbrev pub StartsNew : Type 0 → Type 0 → Type 0 → Type 0
StartsNew J S C = ((key : Key J S) (slots : List (Cargo C S)) → 0 < key.queue → IsNew (machine (opening (slice_set (replicate (8 * key.queue + 16) 0) 16 2) slots (first_view key))))
    × ((items queue p : ℕ) (m m' : Machine (Known (Key J S))) → IsNew m → Happens items queue (splits p) m m' → IsNew m')
