-- Passes that were just dealt, and crews between two rounds and in one.
use Rattle.std.specs.Prelude.{◌≡◌, ℕ, ◌<◌, ◌≤◌, true, None, List, [], All, vec_len}
use Rattle.std.specs.Vec.{vec_capacity}
use Rattle.atomic_table.specs.Seated.{TableId}
use Rattle.scratch_pool.specs.Passes as pool
use Rattle.colored_copier.specs.declared.tools.Tools.{Tools}
use Rattle.colored_copier.specs.declared.view.Phase.TheVariants.{Fresh}
use Rattle.colored_copier.specs.Passes.{PassView}
use Rattle.colored_copier.specs.Views.{RoundView, IsPassOf}

module _ {X : Type 0} where
  -- a pass of this round that has claimed nothing
  pub record IsFreshPass (round : RoundView X) (p : PassView X) : Type 0 where
    pub of_round : IsPassOf round p
    pub written : p.written ≡ true
    pub fresh : p.phase ≡ Fresh

-- a pass of the pool of this table that holds nothing
pub record IsIdleSeat (table : TableId) (p : pool.PassView) : Type 0 where
  pub of_pool : p.table ≡ table
  pub empty : p.holds ≡ None

-- What contracts see of a crew: the number of its workers, and the copy objects that it has.
pub record CrewView (C : Type 0) : Type 0 where
  pub workers : ℕ
  pub copies : List C

module _ {S C : Type 0} where
  abbrev pub seen_crew : ℕ → Tools S C → CrewView C
  seen_crew workers tools = record { workers = workers; copies = tools.copies.items }

  -- a pass of the pool and a copy object for each worker
  pub record AreHome (workers : ℕ) (table : TableId) (tools : Tools S C) : Type 0 where
    pub seats : vec_len tools.seats ≡ workers
    pub idle : All (IsIdleSeat table) tools.seats.items
    pub copies : vec_len tools.copies ≡ workers

  -- all of them are given out, and there is room for them
  pub record AreOut (workers : ℕ) (tools : Tools S C) : Type 0 where
    pub seats : tools.seats.items ≡ []
    pub seat_room : workers ≤ vec_capacity tools.seats
    pub copies : tools.copies.items ≡ []
    pub copy_room : workers ≤ vec_capacity tools.copies

  -- 1 to 64 workers, with all that they work with
  abbrev pub IsManned : ℕ → TableId → Tools S C → Type 0
  IsManned workers table tools = (0 < workers) × (workers ≤ 64) × AreHome workers table tools
