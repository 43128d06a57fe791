-- What contracts see of a round.
use Rattle.std.specs.Prelude.{◌≡◌, ℕ, ◌≤◌, List, Some, map}
use Rattle.atomic_table.specs.Seated.{TableId}
use Rattle.colored_copier.specs.declared.rule.Key.{Key}
use Rattle.colored_copier.specs.Plans.{row_number}
use Rattle.colored_copier.specs.Conditions.{Suits}
use Rattle.colored_copier.specs.Passes.{PassView}
use Rattle.colored_copier.specs.declared.places.Places.{Places}
use Rattle.colored_copier.specs.Places.{ArePlaced}

-- its table, with the job, the rows at first and the number of passes
pub record RoundView (X : Type 0) : Type 0 where
  pub table : TableId
  pub key : X

module _ {X : Type 0} where
  abbrev pub seen_round : TableId → X → RoundView X
  seen_round z key = record { table = z; key = key }

  -- a pass of this round
  abbrev pub IsPassOf : RoundView X → PassView X → Type 0
  IsPassOf round p = (p.table ≡ round.table) × (p.key ≡ Some round.key)

module _ {J R : Type 0} where
  abbrev pub job_of : RoundView (Key J R) → J
  job_of round = round.key.job.value

  -- the rows that the round was given
  abbrev pub rows_at_first : RoundView (Key J R) → List (ℕ × R)
  rows_at_first round = round.key.rows.value.items

  -- the number of its passes
  abbrev pub seats_of : RoundView (Key J R) → ℕ
  seats_of round = round.key.seats

  -- how a round's fields fit its table
  pub record Sound (count : J → ℕ) (rows_of : J → ℕ → List ℕ) (fits : J → ℕ → R → Type 0) (key : Key J R) (items : ℕ) (places : Places) : Type 0 where
    pub items_is : items ≡ key.items
    pub count_is : items ≡ count key.job.value
    pub few_seats : key.seats ≤ 64
    pub placed : ArePlaced (rows_of key.job.value) (map row_number key.rows.value.items) items places
    pub suits : Suits count rows_of fits key.job.value key.rows.value.items
