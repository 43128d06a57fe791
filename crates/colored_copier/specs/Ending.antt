-- What a close asks of the passes.
use Rattle.std.specs.Prelude.{◌≡◌, ℕ, List, All}
use Rattle.atomic_table.specs.Seated.{TableId}
use Rattle.colored_copier.specs.Passes.{PassView}
use Rattle.colored_copier.specs.Phases.{Free, over_of}

module _ {X : Type 0} where
  -- 1 where the pass is over
  abbrev pub overs_of : PassView X → ℕ
  overs_of p = over_of p.phase

  -- passes of this table that are over or fresh
  abbrev pub AreDone : TableId → List (PassView X) → Type 0
  AreDone z passes = All (λ p. (p.table ≡ z) × Free p.phase) passes
