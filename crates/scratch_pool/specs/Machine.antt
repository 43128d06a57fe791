-- A pool as a machine: which objects are at home, and what each pass holds and has found out. Each event is
-- one atomic step of one caller.
use Rattle.std.specs.Prelude.{◌≡◌, ◌≢◌, ℕ, ◌+◌, ◌-◌, ◌<◌, ◌⊎◌, List, [], ◌∷◌, ◌++◌, slice_set, if◌then◌else◌, ◌==◌, Option, None, Some, replicate}
use Rattle.std.specs.Int.{bit_at}
use mathlib.Core.Option.{some}
use lib.ListN.{get_elem?}
use Rattle.scratch_pool.specs.declared.view.View.{View}
use Rattle.scratch_pool.specs.Counts.{raised_at, total}

-- bit k is set where object k is at home
pub record Machine : Type 0 where
  pub bits : ℕ
  pub passes : List View

abbrev pub view : ℕ → ℕ → Option ℕ → List ℕ → View
view parts number holds looks = record { parts = parts; number = number; holds = holds; looks = looks }

-- 1 where this is object k
abbrev pub is_object : ℕ → Option ℕ → ℕ
is_object k None = 0
is_object k (Some j) = if j == k then 1 else 0

-- 1 where the pass holds object k
abbrev pub holding : ℕ → View → ℕ
holding k pass = is_object k pass.holds

-- each object is at home, or exactly one pass holds it
abbrev pub IsSound : ℕ → Machine → Type 0
IsSound objects m = (k : ℕ) → k < objects → total (holding k) m.passes + bit_at m.bits k ≡ 1

-- the pass p holds object k
abbrev pub HoldsAt : ℕ → ℕ → Machine → Type 0
HoldsAt k p m = (v : View) × (get_elem? m.passes p ≡ some v) × (v.holds ≡ Some k)

-- the object is at home, and no pass holds it
abbrev pub IsFree : ℕ → Machine → Type 0
IsFree k m = (bit_at m.bits k ≡ 1) × ((p : ℕ) → HoldsAt k p m → ⊥)

-- the object is out, and a pass holds it
abbrev pub IsTaken : ℕ → Machine → Type 0
IsTaken k m = (bit_at m.bits k ≡ 0) × ((p : ℕ) × HoldsAt k p m)

-- No object is with two passes, and each is at home or with a pass. A pass holds objects of the pool alone.
pub record IsExclusive (objects : ℕ) (m : Machine) : Type 0 where
  pub once : (p q k : ℕ) → HoldsAt k p m → HoldsAt k q m → p ≡ q
  pub each : (k : ℕ) → k < objects → IsFree k m ⊎ IsTaken k m
  pub within : (p k : ℕ) → HoldsAt k p m → k < objects

-- all objects are at home, and no pass holds one
pub record IsNew (objects : ℕ) (m : Machine) : Type 0 where
  pub home : (k : ℕ) → k < objects → bit_at m.bits k ≡ 1
  pub idle : (p : ℕ) (v : View) → get_elem? m.passes p ≡ some v → v.holds ≡ None

-- the bit is this, and every other is as it was
abbrev pub BitBecomes : ℕ → ℕ → ℕ → ℕ → Type 0
BitBecomes k value old new = (bit_at new k ≡ value) × ((j : ℕ) → j < 64 → j ≢ k → bit_at new j ≡ bit_at old j)

-- the pass, after it got object k
abbrev pub took : ℕ → View → View
took k pass = view pass.parts pass.number (Some k) pass.looks

-- after it found object k out
abbrev pub missed : ℕ → View → View
missed k pass = view pass.parts pass.number None (raised_at k pass.looks)

-- after it gave its object back
abbrev pub gave : View → View
gave pass = view pass.parts pass.number None pass.looks

-- What one step does to the bits and to the caller's own pass.
-- a try of object k, which is at home
abbrev pub Takes : ℕ → ℕ → View → ℕ → View → Type 0
Takes k bits pass bits' pass' = (pass.holds ≡ None) × (bit_at bits k ≡ 1) × BitBecomes k 0 bits bits' × (pass' ≡ took k pass)

-- a try of object k, which is out
abbrev pub Misses : ℕ → ℕ → View → ℕ → View → Type 0
Misses k bits pass bits' pass' = (pass.holds ≡ None) × (bit_at bits k ≡ 0) × BitBecomes k 0 bits bits' × (pass' ≡ missed k pass)

-- the return of object k
abbrev pub Returns : ℕ → ℕ → View → ℕ → View → Type 0
Returns k bits pass bits' pass' = (pass.holds ≡ Some k) × (bit_at bits k ≡ 0) × BitBecomes k 1 bits bits' × (pass' ≡ gave pass)

abbrev pub no_looks : List ℕ
no_looks = replicate 64 0

-- before the first pass is split: all of the parts, and the number of the next pass
abbrev pub dealer : ℕ → View
dealer seats = view seats 0 None no_looks

-- the dealer after one more pass
abbrev pub dealing : View → View
dealing pass = view (pass.parts - 1) (pass.number + 1) pass.holds pass.looks

-- that pass
abbrev pub dealt : View → View
dealt pass = view 1 pass.number None no_looks

-- a pass that has taken in another
abbrev pub joined : View → View → View
joined pass other = view (pass.parts + other.parts) pass.number pass.holds pass.looks

-- a pass that was taken in
abbrev pub spent : View
spent = view 0 0 None []

-- the passes p and q, and an object where the event has one
pub data Event : Type 0 where
  takes : ℕ → ℕ → Event
  misses : ℕ → ℕ → Event
  returns : ℕ → ℕ → Event
  splits : ℕ → Event
  joins : ℕ → ℕ → Event

-- the pass p does this, and every other pass stays as it is
abbrev pub Does : (ℕ → View → ℕ → View → Type 0) → ℕ → Machine → Machine → Type 0
Does step p m m' = (v w : View) × (get_elem? m.passes p ≡ some v) × step m.bits v m'.bits w × (m'.passes ≡ slice_set m.passes p w)

abbrev pub Happens : Event → Machine → Machine → Type 0
Happens (takes p k) m m' = Does (Takes k) p m m'
Happens (misses p k) m m' = Does (Misses k) p m m'
Happens (returns p k) m m' = Does (Returns k) p m m'
Happens (splits p) m m' = (v : View) × (get_elem? m.passes p ≡ some v) × (v.holds ≡ None) × (m' ≡ record { bits = m.bits; passes = slice_set m.passes p (dealing v) ++ dealt v ∷ [] })
Happens (joins p q) m m' = (v w : View) × (get_elem? m.passes p ≡ some v) × (get_elem? m.passes q ≡ some w) × (v.holds ≡ None) × (w.holds ≡ None) × (p ≢ q)
    × (m' ≡ record { bits = m.bits; passes = slice_set (slice_set m.passes p (joined v w)) q spent })
