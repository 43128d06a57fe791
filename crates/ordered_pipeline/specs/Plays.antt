-- What each kind of step tells its caller, of the number found in the word and of its seat before and after.
use Rattle.std.specs.Prelude.{◌≡◌, ◌≢◌, ℕ, ◌+◌, ◌%◌, ◌<◌, ◌≤◌, List, [], ◌∷◌, Some}
use Rattle.atomic_table.specs.Table.{Me, Step, rest}
use Rattle.ordered_pipeline.specs.declared.view.View.{View}
use Rattle.ordered_pipeline.specs.declared.view.Known.{Known}
use Rattle.ordered_pipeline.specs.declared.view.Cargo.{Cargo}
use Rattle.ordered_pipeline.specs.declared.view.Cargo.TheVariants as cargo
use Rattle.ordered_pipeline.specs.declared.view.Phase.TheVariants.{Idle, Drawn, Started, Baton, Advanced}
use Rattle.ordered_pipeline.specs.declared.rule.Key.{Key}
use Rattle.ordered_pipeline.specs.Fold.{fold}
use Rattle.ordered_pipeline.specs.Machine.{READY, TURN, phased, drawn_view, over_view, started_view, waiting_view}

-- what a pass knows, and the slots that it has taken
abbrev pub Holder : Type 0 → Type 0 → Type 0 → Type 0
Holder J S C = Me (Cargo C S) (View (Known (Key J S)))

module _ {J S C : Type 0} where
  -- a draw below the last item gives that item, above all that the pass drew before; a later one a number past the last
  abbrev pub DrewAt : Key J S → Holder J S C → ℕ → Holder J S C → Type 0
  DrewAt key old found new = (found < key.items → (old.0.drawn ≤ found) × (new ≡ (drawn_view old.0 found, old.1))) × (key.items ≤ found → new ≡ (over_view old.0 found, old.1))

  abbrev pub drew : Step (Cargo C S) → Holder J S C → ℕ → Holder J S C → Type 0
  drew step old found new = (key : Key J S) → old.0.key.key ≡ Some key → DrewAt key old found new

  -- a look finds at least what was seen last; it starts the item where that is near enough, with the ring's copy object, which has room
  abbrev pub LookedAt : (J → C → Type 0) → Key J S → ℕ → Holder J S C → ℕ → Holder J S C → Type 0
  LookedAt has_room key n old found new = (old.0.seen ≤ found)
      × (n < found + key.queue → (x : C) × has_room key.job.value x × (new ≡ (started_view old.0 n found, (n % key.queue, cargo.Copy x) ∷ [])))
      × (found + key.queue ≤ n → new ≡ (waiting_view old.0 n found, []))

  abbrev pub looked : (J → C → Type 0) → Step (Cargo C S) → Holder J S C → ℕ → Holder J S C → Type 0
  looked has_room step old found new = (key : Key J S) → old.0.key.key ≡ Some key → (n : ℕ) → old.0.phase ≡ Drawn n → LookedAt has_room key n old found new

  -- where the swap finds the baton at the item it takes it, with the state
  abbrev pub FinishedAt : (J → S → ℕ → S) → Key J S → ℕ → Holder J S C → ℕ → Holder J S C → Type 0
  FinishedAt step key n old found new =
      (found ≡ TURN n → (y : S) × (y ≡ fold step key.job.value key.state.value n) × (new ≡ (phased old.0 (Baton n), (key.queue, cargo.State y) ∷ old.1)))
      × (found ≢ TURN n → new ≡ (phased old.0 Idle, []))

  abbrev pub finished : (J → S → ℕ → S) → Step (Cargo C S) → Holder J S C → ℕ → Holder J S C → Type 0
  finished work step old found new = (key : Key J S) → old.0.key.key ≡ Some key → (n : ℕ) → old.0.phase ≡ Started n → FinishedAt work key n old found new

  -- the copy object is back in its place
  abbrev pub advanced : Step (Cargo C S) → Holder J S C → ℕ → Holder J S C → Type 0
  advanced step old found new = (n : ℕ) → old.0.phase ≡ Baton n → new ≡ (phased old.0 (Advanced n), rest old.1)

  -- where the swap finds the next item ready it takes its copy object, and goes on with it
  abbrev pub PassedAt : (J → C → Type 0) → (J → ℕ → C → Type 0) → Key J S → ℕ → Holder J S C → ℕ → Holder J S C → Type 0
  PassedAt has_room stands key n old found new =
      (found ≡ READY (n + 1) → (y : C) × has_room key.job.value y × stands key.job.value (n + 1) y × (n + 1 < key.items) × (new ≡ (phased old.0 (Baton (n + 1)), ((n + 1) % key.queue, cargo.Copy y) ∷ old.1)))
      × (found ≢ READY (n + 1) → new ≡ (phased old.0 Idle, []))

  abbrev pub passed : (J → C → Type 0) → (J → ℕ → C → Type 0) → Step (Cargo C S) → Holder J S C → ℕ → Holder J S C → Type 0
  passed has_room stands step old found new = (key : Key J S) → old.0.key.key ≡ Some key → (n : ℕ) → old.0.phase ≡ Advanced n → PassedAt has_room stands key n old found new

  -- what a pass with the baton of item n carries: the item's copy object, and the state after all items below n
  abbrev pub Carries : (J → C → Type 0) → (J → ℕ → C → Type 0) → (J → S → ℕ → S) → Key J S → ℕ → Holder J S C → Type 0
  Carries has_room stands step key n m = (m.0.phase ≡ Baton n) × (m.0.key.key ≡ Some key) × ((x : C) × has_room key.job.value x × stands key.job.value n x × (m.1 ≡ (n % key.queue, cargo.Copy x) ∷ (key.queue, cargo.State (fold step key.job.value key.state.value n)) ∷ []))

abbrev pub HasBoth : {C S : Type 0} → ℕ → ℕ → List (ℕ × Cargo C S) → Type 0
HasBoth {C} {S} place queue slots = (x : C) × (y : S) × (slots ≡ (place, cargo.Copy x) ∷ (queue, cargo.State y) ∷ [])
