-- The rule of a pipeline, which holds between any two steps of any callers. Word 0 of its table is the next number, word 8
-- the copied count, and the ring's words stand at 16, 24, ..: a cache line of 64 bytes has one of them. The copy objects are
-- the first slots, one for each place of the ring, and the state is the last one.
use Rattle.std.specs.Prelude.{◌≡◌, ℕ, ◌+◌, ◌*◌, ◌%◌, ◌<◌, ◌≤◌, ◌⊎◌, List, length, slice_index, if◌then◌else◌, ◌==◌}
use mathlib.Core.Option.{Option, none, some}
use lib.ListN.{get_elem?}
use Rattle.atomic_table.specs.Table.{State}
use Rattle.scratch_pool.specs.Counts.{total}
use Rattle.ordered_pipeline.specs.declared.view.View.{View}
use Rattle.ordered_pipeline.specs.declared.view.Known.{Known}
use Rattle.ordered_pipeline.specs.declared.view.Cargo.{Cargo}
use Rattle.ordered_pipeline.specs.declared.view.Cargo.TheVariants as cargo
use Rattle.ordered_pipeline.specs.declared.view.Phase.{Phase}
use Rattle.ordered_pipeline.specs.declared.view.Phase.TheVariants.{Idle, Drawn, Started, Baton, Advanced}
use Rattle.ordered_pipeline.specs.declared.rule.Key.{Key}
use Rattle.ordered_pipeline.specs.Fold.{fold}
use Rattle.ordered_pipeline.specs.Machine.{Machine, READY, TURN, view, known}

-- 1 where the numbers are equal
abbrev pub is : ℕ → ℕ → ℕ
is n m = if m == n then 1 else 0

-- 1 where the phase has this number: drawn, started or with the baton
abbrev pub has : ℕ → Phase → ℕ
has n Idle = 0
has n (Drawn m) = is n m
has n (Started m) = is n m
has n (Baton m) = is n m
has n (Advanced m) = 0

-- 1 where it has the number's copy object
abbrev pub works : ℕ → Phase → ℕ
works n Idle = 0
works n (Drawn m) = 0
works n (Started m) = is n m
works n (Baton m) = is n m
works n (Advanced m) = 0

-- 1 where it has the baton
abbrev pub baton : Phase → ℕ
baton Idle = 0
baton (Drawn m) = 0
baton (Started m) = 0
baton (Baton m) = 1
baton (Advanced m) = 1

-- 1 where it has the baton and has not advanced yet
abbrev pub holder : Phase → ℕ
holder Idle = 0
holder (Drawn m) = 0
holder (Started m) = 0
holder (Baton m) = 1
holder (Advanced m) = 0

-- where c items are copied, the baton is at item c, or just behind it
abbrev pub StaysAt : ℕ → Phase → Type 0
StaysAt c Idle = Unit {0}
StaysAt c (Drawn m) = Unit {0}
StaysAt c (Started m) = Unit {0}
StaysAt c (Baton m) = m ≡ c
StaysAt c (Advanced m) = m + 1 ≡ c

module _ {X : Type 0} where
  abbrev pub having : ℕ → View X → ℕ
  having n v = has n v.phase

  abbrev pub working : ℕ → View X → ℕ
  working n v = works n v.phase

  abbrev pub batons : View X → ℕ
  batons v = baton v.phase

  abbrev pub holders : View X → ℕ
  holders v = holder v.phase

  -- The numbers, where c items are copied and d drawn: no pass has a number outside c to d - 1, and no two passes have one.
  -- Numbers past the last item belong to passes that are over, so the counter is d and the number of such draws (`split`).
  -- What is started or ready is less than a queue ahead of c. What a pass saw of c is at most c, and d - 1 is the last
  -- number drawn of some pass. One pass at most has the baton. A pass without a part, which another took in, has nothing.
  pub record Counts (seats items queue next c d : ℕ) (views : List (View X)) : Type 0 where
    pub parts : total (λ (v : View X). v.parts) views ≡ seats
    pub some : d ≤ items
    pub split : next ≡ d + total (λ (v : View X). v.overs) views
    pub all : d < items → total (λ (v : View X). v.overs) views ≡ 0
    pub ordered : c ≤ d
    pub once : (n : ℕ) → total (having n) views ≤ 1
    pub within : (n : ℕ) → 0 < total (having n) views → (c ≤ n) × (n < d)
    pub near : (n : ℕ) → 0 < total (working n) views → n < c + queue
    -- a number that is drawn and with no pass is ready
    pub ready_near : (n : ℕ) → c ≤ n → n < d → total (having n) views ≡ 0 → n < c + queue
    pub one_baton : total batons views ≤ 1
    pub each : (p : ℕ) (v : View X) → get_elem? views p ≡ mathlib.Core.Option.some v → StaysAt c v.phase × (v.seen ≤ c) × (v.drawn ≤ d) × (v.overs ≤ v.parts) × (v.parts ≡ 0 → (v.phase ≡ Idle) × (v.drawn ≡ 0))
    pub last : (p : ℕ) × (v : View X) × (get_elem? views p ≡ mathlib.Core.Option.some v) × (v.drawn ≡ d)

  -- item n is finished, and waits for the baton: it is drawn, and with no pass
  abbrev pub IsReady : ℕ → List (View X) → ℕ → Type 0
  IsReady d views n = (n < d) × (total (having n) views ≡ 0)

  -- The ring's words, for each number from c on: READY where the item is ready, TURN where the baton rests, and neither else,
  -- but at the place of the pass with the baton. Where the baton rests, it does so at item c, which isn't ready.
  pub record Words (queue c d : ℕ) (ring : ℕ → ℕ) (views : List (View X)) : Type 0 where
    pub ready : (n : ℕ) → c ≤ n → n < c + queue → IsReady d views n → ring (n % queue) ≡ READY n
    pub only_ready : (n : ℕ) → c ≤ n → n < c + queue → ring (n % queue) ≡ READY n → IsReady d views n ⊎ ((n ≡ c) × (0 < total holders views))
    pub only_turn : (n : ℕ) → c ≤ n → n < c + queue → ring (n % queue) ≡ TURN n → (n ≡ c) × ((total batons views ≡ 0) ⊎ (0 < total holders views))
    pub rests : total batons views ≡ 0 → (ring (c % queue) ≡ TURN c) × ¬ IsReady d views c
    pub below : (p : ℕ) → p < queue → ring p < READY (c + queue)

  module _ {C S : Type 0} where
    -- The copy object of a place with no started number is at home and has room, and stands for the item's value where the
    -- item is ready. Where the baton rests the state is at home, and is the fold of the copied items.
    pub record Homes (room : C → Type 0) (stands : ℕ → C → Type 0) (fold : ℕ → S) (queue c d : ℕ) (homes : List (Option (Cargo C S))) (views : List (View X)) : Type 0 where
      pub copies : (n : ℕ) → c ≤ n → n < c + queue → total (working n) views ≡ 0 → (x : C) × (get_elem? homes (n % queue) ≡ mathlib.Core.Option.some (mathlib.Core.Option.some (cargo.Copy x))) × room x × (IsReady d views n → stands n x)
      pub state : total batons views ≡ 0 → get_elem? homes queue ≡ mathlib.Core.Option.some (mathlib.Core.Option.some (cargo.State (fold c)))

    pub record Ring (seats items queue : ℕ) (room : C → Type 0) (stands : ℕ → C → Type 0) (fold : ℕ → S) (s : State (Cargo C S) (View X)) : Type 0 where
      pub d : ℕ
      pub wide : length s.words ≡ 8 * queue + 16
      pub slots : length s.homes ≡ queue + 1
      pub counts : Counts seats items queue (slice_index s.words 0) (slice_index s.words 8) d s.views
      pub words : Words queue (slice_index s.words 8) d (λ p. slice_index s.words (8 * p + 16)) s.views
      pub homes : Homes room stands fold queue (slice_index s.words 8) d s.homes s.views

module _ {J S C : Type 0} where
  -- the machine that a table shows
  abbrev pub machine : State (Cargo C S) (View (Known (Key J S))) → Machine (Known (Key J S))
  machine s = record { next = slice_index s.words 0; copied = slice_index s.words 8; ring = λ p. slice_index s.words (8 * p + 16); passes = s.views }

  -- the rule of a pipeline for this job
  abbrev pub Kept : (J → C → Type 0) → (J → ℕ → C → Type 0) → (J → S → ℕ → S) → Key J S → State (Cargo C S) (View (Known (Key J S))) → Type 0
  Kept room stands step key s = Ring key.seats key.items key.queue (room key.job.value) (stands key.job.value) (fold step key.job.value key.state.value) s

-- what the first pass knows, which the others are split from
abbrev pub first_view : {J S : Type 0} → Key J S → View (Known (Key J S))
first_view key = view key.seats 0 0 Idle 0 0 0 (known key)
