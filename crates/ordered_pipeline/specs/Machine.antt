-- A pipeline as a machine: its two counters, the words of its ring, and what each pass is doing. Each event is one
-- atomic step of one caller.
use Rattle.std.specs.Prelude.{◌≡◌, ◌≢◌, ℕ, ◌+◌, ◌-◌, ◌*◌, ◌%◌, ◌<◌, ◌≤◌, max, min, List, [], ◌∷◌, ◌++◌, slice_set, Option, None, Some}
use mathlib.Core.Option.{some}
use lib.ListN.{get_elem?}
use Rattle.scratch_pool.specs.Counts.{raised}
use Rattle.ordered_pipeline.specs.declared.view.View.{View}
use Rattle.ordered_pipeline.specs.declared.view.Known.{Known}
use Rattle.ordered_pipeline.specs.declared.view.Phase.{Phase}
use Rattle.ordered_pipeline.specs.declared.view.Phase.TheVariants.{Idle, Drawn, Started, Baton, Advanced}

-- The words of the ring. A word that is neither names no item.
-- item n is finished, and nobody has copied it
abbrev pub READY : ℕ → ℕ
READY n = 2 * n + 1

-- item n is the next to be copied: the baton rests here, or it did when its pass came
abbrev pub TURN : ℕ → ℕ
TURN n = 2 * n + 2

abbrev pub view : {X : Type 0} → ℕ → ℕ → ℕ → Phase → ℕ → ℕ → ℕ → X → View X
view parts overs number phase seen drawn looks key = record { parts = parts; overs = overs; number = number; phase = phase; seen = seen; drawn = drawn; looks = looks; key = key }

-- what a pass knows at first
abbrev pub known : {X : Type 0} → X → Known X
known key = record { key = Some key; past = 0 }

-- the next number, the copied count, the word at each place of the ring, and the passes
pub record Machine (X : Type 0) : Type 0 where
  pub next : ℕ
  pub copied : ℕ
  pub ring : ℕ → ℕ
  pub passes : List (View X)

module _ {X : Type 0} where
  -- a pass in another phase
  abbrev pub phased : View X → Phase → View X
  phased pass phase = view pass.parts pass.overs pass.number phase pass.seen pass.drawn pass.looks pass.key

  -- after a draw of item n
  abbrev pub drawn_view : View X → ℕ → View X
  drawn_view pass n = view pass.parts pass.overs pass.number (Drawn n) pass.seen (n + 1) pass.looks pass.key

  -- after a look that found c items copied, and item n near enough
  abbrev pub started_view : View X → ℕ → ℕ → View X
  started_view pass n c = view pass.parts pass.overs pass.number (Started n) c pass.drawn pass.looks pass.key

  -- or too far ahead
  abbrev pub waiting_view : View X → ℕ → ℕ → View X
  waiting_view pass n c = view pass.parts pass.overs pass.number (Drawn n) c pass.drawn (raised pass.looks) pass.key

  -- the pass that the others are split from, after one more
  abbrev pub dealing : View X → View X
  dealing pass = view (pass.parts - 1) pass.overs (pass.number + 1) pass.phase pass.seen pass.drawn pass.looks pass.key

  -- that pass
  abbrev pub dealt : View X → View X
  dealt pass = view 1 0 pass.number Idle 0 0 0 pass.key

  -- a pass that another may be split from: it is idle, drew no item, and has a part besides those of its draws past the last one
  abbrev pub MayDeal : View X → Type 0
  MayDeal pass = (pass.phase ≡ Idle) × (pass.drawn ≡ 0) × (pass.overs < pass.parts)

  -- a pass that has taken in another
  abbrev pub joined : View X → View X → View X
  joined pass other = view (pass.parts + other.parts) (pass.overs + other.overs) pass.number pass.phase (max pass.seen other.seen) (max pass.drawn other.drawn) pass.looks pass.key

  -- What one step does to the caller's own pass.
  -- a look of a pass that has drawn item n, which finds c items copied: at least as many as it saw before
  abbrev pub Looks : ℕ → ℕ → ℕ → View X → View X → Type 0
  Looks queue n c pass pass' = (pass.phase ≡ Drawn n) × (pass.seen ≤ c) × (n < c + queue → pass' ≡ started_view pass n c) × (c + queue ≤ n → pass' ≡ waiting_view pass n c)

  -- a swap at the place of item n, which finds this word: the baton, or not
  abbrev pub Finishes : ℕ → ℕ → View X → View X → Type 0
  Finishes n found pass pass' = (pass.phase ≡ Started n) × (found ≡ TURN n → pass' ≡ phased pass (Baton n)) × (found ≢ TURN n → pass' ≡ phased pass Idle)

  -- a store of the copied count, after item n was copied
  abbrev pub Advances : ℕ → View X → View X → Type 0
  Advances n pass pass' = (pass.phase ≡ Baton n) × (pass' ≡ phased pass (Advanced n))

  -- a swap at the place of the next item, which finds this word: that item is ready, or not
  abbrev pub PassesOn : ℕ → ℕ → View X → View X → Type 0
  PassesOn n found pass pass' = (pass.phase ≡ Advanced n) × (found ≡ READY (n + 1) → pass' ≡ phased pass (Baton (n + 1))) × (found ≢ READY (n + 1) → pass' ≡ phased pass Idle)

module _ {X : Type 0} where
  -- after a draw that found the number n, past the last item
  abbrev pub over_view : View (Known X) → ℕ → View (Known X)
  over_view pass n = view pass.parts (pass.overs + 1) pass.number pass.phase pass.seen pass.drawn pass.looks (record { key = pass.key.key; past = n })

  -- a pass that was taken in
  abbrev pub spent_view : View (Known X)
  spent_view = view 0 0 0 Idle 0 0 0 (record { key = None; past = 0 })

  -- a draw that finds the number n: an item, above all that the pass drew before, or past the last item
  abbrev pub Draws : ℕ → ℕ → View (Known X) → View (Known X) → Type 0
  Draws items n pass pass' = (pass.phase ≡ Idle) × (n < items → (pass.drawn ≤ n) × (pass' ≡ drawn_view pass n)) × (items ≤ n → pass' ≡ over_view pass n)

-- of the passes p and q, and item n
pub data Event : Type 0 where
  draws : ℕ → Event
  looks : ℕ → ℕ → Event
  finishes : ℕ → ℕ → Event
  advances : ℕ → ℕ → Event
  passes_on : ℕ → ℕ → Event
  splits : ℕ → Event
  joins : ℕ → ℕ → Event

-- the word at place p is this, and the others are as they were
abbrev pub Writes : ℕ → ℕ → (ℕ → ℕ) → (ℕ → ℕ) → Type 0
Writes p word ring ring' = (ring' p ≡ word) × ((j : ℕ) → j ≢ p → ring' j ≡ ring j)

abbrev pub IsSameRing : (ℕ → ℕ) → (ℕ → ℕ) → Type 0
IsSameRing ring ring' = (j : ℕ) → ring' j ≡ ring j

module _ {X : Type 0} where
  -- the pass p does this, and every other pass stays as it is
  abbrev pub Does : (View X → View X → Type 0) → ℕ → Machine X → Machine X → Type 0
  Does step p m m' = (v w : View X) × (get_elem? m.passes p ≡ some v) × step v w × (m'.passes ≡ slice_set m.passes p w)

module _ {X : Type 0} where
  -- the event of a pipeline of so many items and copy objects
  abbrev pub Happens : ℕ → ℕ → Event → Machine (Known X) → Machine (Known X) → Type 0
  Happens items queue (draws p) m m' = Does (Draws items m.next) p m m' × (m'.next ≡ m.next + 1) × (m'.copied ≡ m.copied) × IsSameRing m.ring m'.ring
  Happens items queue (looks p n) m m' = Does (Looks queue n m.copied) p m m' × (m'.next ≡ m.next) × (m'.copied ≡ m.copied) × IsSameRing m.ring m'.ring
  Happens items queue (finishes p n) m m' = Does (Finishes n (m.ring (n % queue))) p m m' × (m'.next ≡ m.next) × (m'.copied ≡ m.copied) × Writes (n % queue) (READY n) m.ring m'.ring
  Happens items queue (advances p n) m m' = Does (Advances n) p m m' × (m'.next ≡ m.next) × (m'.copied ≡ n + 1) × IsSameRing m.ring m'.ring
  Happens items queue (passes_on p n) m m' = Does (PassesOn n (m.ring ((n + 1) % queue))) p m m' × (m'.next ≡ m.next) × (m'.copied ≡ m.copied) × Writes ((n + 1) % queue) (TURN (n + 1)) m.ring m'.ring
  Happens items queue (splits p) m m' = (v : View (Known X)) × (get_elem? m.passes p ≡ some v) × MayDeal v × (m' ≡ record { next = m.next; copied = m.copied; ring = m.ring; passes = slice_set m.passes p (dealing v) ++ dealt v ∷ [] })
  Happens items queue (joins p q) m m' = (v w : View (Known X)) × (get_elem? m.passes p ≡ some v) × (get_elem? m.passes q ≡ some w) × (v.phase ≡ Idle) × (w.phase ≡ Idle) × (p ≢ q)
      × (m' ≡ record { next = m.next; copied = m.copied; ring = m.ring; passes = slice_set (slice_set m.passes p (joined v w)) q spent_view })

-- the item that a pass has drawn, until it hands it on or goes on to the next
abbrev pub item_of : Phase → Option ℕ
item_of Idle = None
item_of (Drawn n) = Some n
item_of (Started n) = Some n
item_of (Baton n) = Some n
item_of (Advanced n) = Some n

-- the item whose copy object it has
abbrev pub copies_of : Phase → Option ℕ
copies_of Idle = None
copies_of (Drawn n) = None
copies_of (Started n) = Some n
copies_of (Baton n) = Some n
copies_of (Advanced n) = None

-- the item at which it has the baton
abbrev pub baton_of : Phase → Option ℕ
baton_of Idle = None
baton_of (Drawn n) = None
baton_of (Started n) = None
baton_of (Baton n) = Some n
baton_of (Advanced n) = Some n

module _ {X : Type 0} where
  -- the pass p has this item, of those that it may have by its phase
  abbrev pub Has : (Phase → Option ℕ) → ℕ → ℕ → Machine X → Type 0
  Has of n p m = (v : View X) × (get_elem? m.passes p ≡ some v) × (of v.phase ≡ Some n)

  -- item n is finished, and nobody has copied it: it is drawn, and no pass has it
  abbrev pub Waits : ℕ → ℕ → Machine X → Type 0
  Waits items n m = (m.copied ≤ n) × (n < min m.next items) × ((p : ℕ) → Has item_of n p m → ⊥)

  -- item n is less than a queue ahead of the copied ones
  abbrev pub IsNear : ℕ → ℕ → Machine X → Type 0
  IsNear queue n m = (m.copied ≤ n) × (n < m.copied + queue)

  -- What holds of a pipeline of so many items and copy objects between any two steps.
  pub record IsOrdered (items queue : ℕ) (m : Machine X) : Type 0 where
    -- no item is with two passes
    pub once : (p q n : ℕ) → Has item_of n p m → Has item_of n q m → p ≡ q
    -- items that are started, at the baton or waiting for it are near, and the word at a waiting one's place is READY
    pub bounded : (p n : ℕ) → Has copies_of n p m → IsNear queue n m
    pub waiting : (n : ℕ) → Waits items n m → IsNear queue n m × (m.ring (n % queue) ≡ READY n)
    -- no copy object is with two passes
    pub apart : (p q n k : ℕ) → Has copies_of n p m → Has copies_of k q m → n % queue ≡ k % queue → p ≡ q
    -- the baton is with one pass at most
    pub one_baton : (p q n k : ℕ) → Has baton_of n p m → Has baton_of k q m → p ≡ q
    -- no pass has seen more items copied than are
    pub seen_below : (p : ℕ) (v : View X) → get_elem? m.passes p ≡ some v → v.seen ≤ m.copied

  -- Nothing is drawn or copied, all passes are idle, and the baton rests at item 0: its word alone names an item.
  pub record IsNew (m : Machine X) : Type 0 where
    pub none_drawn : m.next ≡ 0
    pub none_copied : m.copied ≡ 0
    pub baton : m.ring 0 ≡ TURN 0
    pub words : (j n : ℕ) → 0 < j → (m.ring j ≢ READY n) × (m.ring j ≢ TURN n)
    pub idle : (p : ℕ) (v : View X) → get_elem? m.passes p ≡ some v → v.phase ≡ Idle
