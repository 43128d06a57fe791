-- The passes that a new round gives.
use Rattle.std.specs.Prelude.{ℕ, zero, suc, List, [], ◌∷◌, ◌++◌, Some, true}
use Rattle.colored_copier.specs.declared.view.Phase.TheVariants.{Fresh}
use Rattle.colored_copier.specs.Passes.{PassView}
use Rattle.colored_copier.specs.Views.{RoundView}

module _ {X : Type 0} where
  -- the pass of this number, which has claimed nothing
  abbrev pub fresh : RoundView X → ℕ → PassView X
  fresh round number = record { table = round.table; number = number; phase = Fresh; written = true; key = Some round.key }

  -- the first n passes, in the order of their numbers
  abbrev pub fresh_passes : RoundView X → ℕ → List (PassView X)
  fresh_passes round zero = []
  fresh_passes round (suc n) = fresh_passes round n ++ fresh round n ∷ []
