-- What contracts see of a pass, and how its fields tie to its seat.
use Rattle.std.specs.Prelude.{◌≡◌, ℕ, ◌%◌, ◌<◌, [], ◌∷◌, Option, Some, Bool, true, cond, MatchOption}
use Rattle.atomic_table.specs.Seated.{TableId}
use Rattle.ordered_pipeline.specs.declared.view.View.{View}
use Rattle.ordered_pipeline.specs.declared.view.Known.{Known}
use Rattle.ordered_pipeline.specs.declared.view.Cargo.TheVariants as cargo
use Rattle.ordered_pipeline.specs.declared.view.Phase.{Phase}
use Rattle.ordered_pipeline.specs.declared.view.Phase.TheVariants.{Idle, Drawn, Started, Baton, Advanced}
use Rattle.ordered_pipeline.specs.declared.rule.Key.{Key}
use Rattle.ordered_pipeline.specs.Plays.{Holder, Carries}

-- its pipeline's table, its number and phase, whether it is over, the number that it then found (else 0), the last number that it saw copied,
-- one more than the last number that it drew, its looks, and the copy object of an item that it has started
pub record PassView (C X : Type 0) : Type 0 where
  pub table : TableId
  pub number : ℕ
  pub phase : Phase
  pub over : Bool
  pub past : ℕ
  pub seen : ℕ
  pub drawn : ℕ
  pub looks : ℕ
  pub copy : Option C
  pub key : Option X

module _ {C X : Type 0} where
  abbrev pub seen_as : TableId → View (Known X) → Option C → Bool → PassView C X
  seen_as z v copy over = record { table = z; number = v.number; phase = v.phase; over = over; past = v.key.past; seen = v.seen; drawn = v.drawn; looks = v.looks; copy = copy; key = v.key.key }

  abbrev pub with_copy : PassView C X → C → PassView C X
  with_copy p c = record p { copy = Some c }

  -- a pass of this pipeline
  abbrev pub IsPassOf : TableId → X → PassView C X → Type 0
  IsPassOf z key p = (p.table ≡ z) × (p.key ≡ Some key)

  -- the same pass
  abbrev pub IsSame : PassView C X → PassView C X → Type 0
  IsSame old new = (new.table ≡ old.table) × (new.number ≡ old.number) × (new.key ≡ old.key)

-- 1 where the pass is over
abbrev pub over_of : Bool → ℕ
over_of over = cond over 1 0

module _ {J S C : Type 0} (room : J → C → Type 0) (stands : J → ℕ → C → Type 0) (work : J → S → ℕ → S) where
  -- what a pass that has not started an item has in its seat
  abbrev pub Unstarted : ℕ → Phase → Holder J S C → Type 0
  Unstarted item Idle m = m.1 ≡ []
  Unstarted item (Drawn n) m = (m.1 ≡ []) × (n ≡ item) × ((key : Key J S) → m.0.key.key ≡ Some key → n < key.items)
  Unstarted item (Started n) m = ⊥
  Unstarted item (Baton n) m = (n ≡ item) × ((key : Key J S) → m.0.key.key ≡ Some key → Carries room stands work key n m × (n < key.items))
  Unstarted item (Advanced n) m = ⊥

  -- the place of the copy object that it has, while the item is started
  abbrev pub Underway : ℕ → Holder J S C → Type 0
  Underway item m = (m.0.phase ≡ Started item) × ((key : Key J S) → m.0.key.key ≡ Some key → (m.1 ≡ (item % key.queue, cargo.Out) ∷ []) × (item < key.items))

  abbrev pub Ties : Option C → Bool → ℕ → ℕ → Holder J S C → Type 0
  Ties copy over item looks m = (m.0.parts ≡ 1) × (m.0.overs ≡ over_of over) × (m.0.looks ≡ looks) × (over ≡ true → m.0.phase ≡ Idle) × MatchOption copy (Unstarted item m.0.phase m) (λ _. Underway item m)
