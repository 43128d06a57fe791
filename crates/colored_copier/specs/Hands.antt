-- What a hand is before and after a coloured run.
use Rattle.std.specs.Prelude.{◌≡◌, ℕ, ◌+◌, ◌⊎◌, ◌<◌, List, length, slice_index_or, None, true}
use Rattle.atomic_table.specs.Seated.{TableId}
use Rattle.scratch_pool.specs.Passes as pool
use Rattle.scratch_pool.specs.Pools as pools
use Rattle.colored_copier.specs.declared.view.Phase.{Phase}
use Rattle.colored_copier.specs.declared.view.Phase.TheVariants.{Fresh, Claimed, Over}
use Rattle.colored_copier.specs.Phases.{IsOver, Free}
use Rattle.colored_copier.specs.Passes.{PassView, IsSame}
use Rattle.colored_copier.specs.Views.{RoundView, IsPassOf}

-- R holds of each element of the first list and the one at its place in the second
abbrev pub AllBoth : {H : Type 0} → (H → H → Type 0) → List H → List H → Type 0
AllBoth {H} R old new = (k : ℕ) (d : H) → k < length old → R (slice_index_or old k d) (slice_index_or new k d)

-- one more than the last number claimed
abbrev pub after : Phase → ℕ
after Fresh = 0
after (Claimed n) = n + 1
after (Over n) = 0

module _ {X : Type 0} where
  -- a fresh pass of this round, and a pass of the pool of this table that holds nothing
  pub record IsReady (round : RoundView X) (pool_table : TableId) (p : PassView X) (s : pool.PassView) : Type 0 where
    pub of_round : IsPassOf round p
    pub written : p.written ≡ true
    pub fresh : p.phase ≡ Fresh
    pub of_pool : s.table ≡ pool_table
    pub empty : s.holds ≡ None

  -- The same passes, and no object is held. The round's pass is over, or it is fresh and its hand found each object out.
  pub record IsThrough (objects : ℕ) (p : PassView X) (s : pool.PassView) (q : PassView X) (t : pool.PassView) : Type 0 where
    pub same : IsSame p q
    pub written : q.written ≡ true
    pub same_scratch : pools.IsSame s t
    pub empty : t.holds ≡ None
    pub over_or_fresh : IsOver q.phase ⊎ ((q.phase ≡ Fresh) × pools.RoseBelow objects s.looks t.looks)

  -- After the run: a pass of this round that is over or fresh, and a pass of the pool that holds nothing.
  pub record IsFinished (round : RoundView X) (pool_table : TableId) (q : PassView X) (t : pool.PassView) : Type 0 where
    pub of_round : IsPassOf round q
    pub free : Free q.phase
    pub of_pool : t.table ≡ pool_table
    pub empty : t.holds ≡ None
