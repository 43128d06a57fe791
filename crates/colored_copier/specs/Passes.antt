-- What contracts see of a pass, and how its fields tie to its seat.
use Rattle.std.specs.Prelude.{◌≡◌, ℕ, List, [], Option, Some, Bool, cond}
use Rattle.atomic_table.specs.Seated.{TableId}
use Rattle.colored_copier.specs.declared.view.View.{View}
use Rattle.colored_copier.specs.declared.view.Phase.{Phase}
use Rattle.colored_copier.specs.declared.view.Phase.TheVariants.{Fresh, Claimed, Over}
use Rattle.colored_copier.specs.declared.rule.Key.{Key}
use Rattle.colored_copier.specs.Keyed.{RowMe, plan_of, finish_of}
use Rattle.colored_copier.specs.Phases.{Below, over_of}
use Rattle.colored_copier.specs.Rule.{carried}

pub record PassView (X : Type 0) : Type 0 where
  pub table : TableId
  pub number : ℕ
  pub phase : Phase
  pub written : Bool
  pub key : Option X

abbrev pub seen_as : {X : Type 0} → TableId → View X → Bool → PassView X
seen_as z v written = record { table = z; number = v.number; phase = v.phase; written = written; key = v.key }

module _ {S : Type 0} where
  -- what a pass has before its item is written
  abbrev pub unwritten : (ℕ → List (ℕ × S)) → Phase → List (ℕ × S)
  unwritten plan Fresh = []
  unwritten plan (Claimed n) = plan n
  unwritten plan (Over n) = []

module _ {J R : Type 0} (rows_of : J → ℕ → List ℕ) (row_step : J → R → ℕ → ℕ → R) where
  abbrev pub TiesAt : Bool → RowMe J R → Key J R → Type 0
  TiesAt written m key = (m.0.key ≡ Some key) × Below key.items m.0.phase × (m.1 ≡ cond written (carried (plan_of rows_of key) (finish_of row_step key) m.0.phase) (unwritten (plan_of rows_of key) m.0.phase))

  abbrev pub Ties : Bool → RowMe J R → Type 0
  Ties written m = (m.0.parts ≡ 1) × (m.0.overs ≡ over_of m.0.phase) × ((key : Key J R) × TiesAt written m key)

module _ {X : Type 0} where
  abbrev pub IsSame : PassView X → PassView X → Type 0
  IsSame old new = (new.table ≡ old.table) × (new.number ≡ old.number) × (new.key ≡ old.key)

  -- the seat of a pass that has no row
  abbrev pub IsIdle : Phase → View X → Type 0
  IsIdle phase v = (v.parts ≡ 1) × (v.overs ≡ over_of phase) × (v.phase ≡ phase)
