-- A batch as a machine: what its deque holds, front first, and what each pass knows. Each event is one step of one caller.
use Rattle.std.specs.Prelude.{◌≡◌, ◌≢◌, ℕ, ◌+◌, ◌<◌, ◌≤◌, ◌⊎◌, List, [], ◌∷◌, ◌++◌, map, replicate, slice_set}
use Rattle.std.specs.List.{range_with_len}
use mathlib.Core.Option.{some}
use lib.ListN.{get_elem?}
use Rattle.scratch_pool.specs.Counts.{total}
use Rattle.batch_pool.specs.declared.view.View.{View}
use Rattle.batch_pool.specs.declared.view.Taken.{Taken}
use Rattle.batch_pool.specs.declared.view.Taken.TheVariants.{Task, Empty}
use Rattle.batch_pool.specs.Counts.{times}
use Rattle.batch_pool.specs.Views.{view, filled, marked, took, finished, dealing, dealt, joined, spent}

pub record Machine : Type 0 where
  pub items : List Taken
  pub passes : List View

abbrev pub machine : List Taken → List View → Machine
machine items passes = record { items = items; passes = passes }

-- a deque of these numbers, and so many end marks behind them
abbrev pub queued : List ℕ → ℕ → List Taken
queued numbers ends = map Task numbers ++ replicate ends Empty

-- the pass p has taken the number n
abbrev pub HasTaken : ℕ → ℕ → Machine → Type 0
HasTaken n p m = (v : View) × (get_elem? m.passes p ≡ some v) × (0 < times n v.taken)

-- Every number below the count lies in the deque, or one pass has taken it. Behind the numbers the deque has an end mark for
-- each pass number that isn't over, so where one is over no number is left.
pub record IsExclusive (tasks seats : ℕ) (m : Machine) : Type 0 where
  pub numbers : List ℕ
  pub ends : ℕ
  pub lies : m.items ≡ queued numbers ends
  -- no number is with two passes, and none is taken twice, or stands twice in the deque
  pub once : (p q n : ℕ) → HasTaken n p m → HasTaken n q m → p ≡ q
  pub single : (p n : ℕ) (v : View) → get_elem? m.passes p ≡ some v → times n v.taken ≤ 1
  pub queued_once : (n : ℕ) → times n numbers ≤ 1
  -- a number is in one of the two places, and no other number is anywhere
  pub each : (n : ℕ) → n < tasks → ((0 < times n numbers) × ((p : ℕ) → HasTaken n p m → ⊥)) ⊎ ((times n numbers ≡ 0) × ((p : ℕ) × HasTaken n p m))
  pub queued_within : (n : ℕ) → 0 < times n numbers → n < tasks
  pub taken_within : (p n : ℕ) → HasTaken n p m → n < tasks
  -- the end marks
  pub marks : ends + total (λ (v : View). v.overs) m.passes ≡ seats
  pub over : (p : ℕ) (v : View) → get_elem? m.passes p ≡ some v → 0 < v.overs → numbers ≡ []
  -- one pass owns the deque
  pub owner : (p q : ℕ) (v w : View) → get_elem? m.passes p ≡ some v → get_elem? m.passes q ≡ some w → 0 < v.owns → 0 < w.owns → p ≡ q

-- before the first split: the owner has pushed so many numbers, in their order, and so many end marks
abbrev pub stocked : ℕ → ℕ → Machine
stocked tasks seats = machine (queued (range_with_len 0 tasks) seats) (view 1 seats tasks seats 0 [] ∷ [])

-- the deque holds all numbers in their order and the end marks, and no pass has taken one
pub record IsNew (tasks seats : ℕ) (m : Machine) : Type 0 where
  pub lies : m.items ≡ queued (range_with_len 0 tasks) seats
  pub idle : (p : ℕ) (v : View) → get_elem? m.passes p ≡ some v → (v.taken ≡ []) × (v.overs ≡ 0)

-- what a pass may push: the owner the next number, while there is no end mark; or an end mark, while it has all pass numbers
abbrev pub MayPush : Taken → View → Type 0
MayPush (Task n) v = (v.owns ≡ 1) × (v.parts ≡ 0) × (v.seats ≡ 0) × (n ≡ v.tasks)
MayPush Empty v = (v.owns ≡ 1) × (v.parts ≡ v.seats)

-- the pass after its push
abbrev pub pushed : Taken → View → View
pushed (Task n) v = filled v
pushed Empty v = marked v

-- a pass takes while it has a pass number and isn't over
abbrev pub MayTake : View → Type 0
MayTake v = (0 < v.parts) × (v.overs ≡ 0)

-- the pass after it took this
abbrev pub after : Taken → View → View
after (Task n) v = took n v
after Empty v = finished v

-- the owner gives pass numbers out, while it has more than one
abbrev pub MayDeal : View → Type 0
MayDeal v = (v.owns ≡ 1) × (1 < v.parts) × (v.overs ≡ 0)

-- the passes p and q, and what is pushed or taken
pub data Event : Type 0 where
  pushes : ℕ → Taken → Event
  pops : ℕ → Taken → Event
  steals : ℕ → Taken → Event
  splits : ℕ → Event
  joins : ℕ → ℕ → Event

-- the pass p takes x from the front, and every other pass stays as it is
abbrev pub TakesFront : (View → Type 0) → ℕ → Taken → Machine → Machine → Type 0
TakesFront Who p x m m' = (v : View) × (get_elem? m.passes p ≡ some v) × Who v × MayTake v × (m.items ≡ x ∷ m'.items) × (m'.passes ≡ slice_set m.passes p (after x v))

-- a push is at the back, by the owner; a pop is at the front, by the owner, and a steal is so by another pass; a join is of any other pass, into the owner
abbrev pub Happens : Event → Machine → Machine → Type 0
Happens (pushes p x) m m' = (v : View) × (get_elem? m.passes p ≡ some v) × MayPush x v × (m' ≡ machine (m.items ++ x ∷ []) (slice_set m.passes p (pushed x v)))
Happens (pops p x) m m' = TakesFront (λ v. v.owns ≡ 1) p x m m'
Happens (steals p x) m m' = TakesFront (λ v. v.owns ≡ 0) p x m m'
Happens (splits p) m m' = (v : View) × (get_elem? m.passes p ≡ some v) × MayDeal v × (m' ≡ machine m.items (slice_set m.passes p (dealing v) ++ dealt v ∷ []))
Happens (joins p q) m m' = (v w : View) × (get_elem? m.passes p ≡ some v) × (get_elem? m.passes q ≡ some w) × (p ≢ q) × (v.owns ≡ 1)
    × (m' ≡ machine m.items (slice_set (slice_set m.passes p (joined v w)) q spent))
