-- The round as a machine. A state has the number that the next claim finds, and a phase for each pass.
-- Its events are the steps of the passes: a claim, and the split and the join of a pass.
use Rattle.std.specs.Prelude.{◌≡◌, ◌≢◌, ℕ, ◌+◌, ◌<◌, ◌≤◌, List, [], ◌∷◌, ◌++◌, slice_set}
use mathlib.Core.Option.{some}
use lib.ListN.{get_elem?}
use Rattle.colored_copier.specs.declared.view.Phase.{Phase}
use Rattle.colored_copier.specs.declared.view.Phase.TheVariants.{Fresh, Claimed, Over}
use Rattle.colored_copier.specs.Phases.{NotOver, Free, Rises}

pub record Machine : Type 0 where
  pub next : ℕ
  pub phases : List Phase

-- A claim on its own pass, which is not over: it finds the number n, which is its item, above the last one, or it is over.
pub record ClaimEvent (items : ℕ) (before : Phase) (n : ℕ) (after : Phase) : Type 0 where
  pub runs : NotOver before
  pub item : n < items → (after ≡ Claimed n) × Rises n before
  pub over : items ≤ n → after ≡ Over n

-- the pass that is split stays as it is, and the new one is fresh
abbrev pub SplitEvent : Phase → Phase → Phase → Type 0
SplitEvent before after new = (after ≡ before) × (new ≡ Fresh)

-- neither pass has an item, and the first stays as it is
abbrev pub JoinEvent : Phase → Phase → Phase → Type 0
JoinEvent before other after = Free before × Free other × (after ≡ before)

-- the pass p claims the number at `next`, which rises by one, and no other pass changes
pub record Claims (items p : ℕ) (old new : Machine) : Type 0 where
  pub before : Phase
  pub after : Phase
  pub mine : get_elem? old.phases p ≡ some before
  pub event : ClaimEvent items before old.next after
  pub next : new.next ≡ old.next + 1
  pub phases : new.phases ≡ slice_set old.phases p after

-- a pass is split, and the new one stands last
pub record Splits (p : ℕ) (old new : Machine) : Type 0 where
  pub before : Phase
  pub mine : get_elem? old.phases p ≡ some before
  pub next : new.next ≡ old.next
  pub phases : new.phases ≡ old.phases ++ Fresh ∷ []

-- the pass q is joined into p and is spent, which stands as a fresh one that claims no more
pub record Joins (p q : ℕ) (old new : Machine) : Type 0 where
  pub before : Phase
  pub other : Phase
  pub apart : q ≢ p
  pub mine : get_elem? old.phases p ≡ some before
  pub its : get_elem? old.phases q ≡ some other
  pub free : Free before × Free other
  pub next : new.next ≡ old.next
  pub phases : new.phases ≡ slice_set old.phases q Fresh

-- A claimed number is that of an item, below `next`, and no other pass has claimed it.
pub record IsExclusive (items : ℕ) (m : Machine) : Type 0 where
  pub within : (p n : ℕ) → get_elem? m.phases p ≡ some (Claimed n) → (n < items) × (n < m.next)
  pub once : (p q n : ℕ) → get_elem? m.phases p ≡ some (Claimed n) → get_elem? m.phases q ≡ some (Claimed n) → p ≡ q
