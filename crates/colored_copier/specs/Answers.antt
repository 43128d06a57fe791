-- What a claim answers.
use Rattle.std.specs.Prelude.{◌≡◌, ℕ, ◌<◌, ◌≤◌, true, false}
use Rattle.colored_copier.specs.declared.round.Claimed.{Claimed}
use Rattle.colored_copier.specs.declared.round.Claimed.TheVariants as claimed
use Rattle.colored_copier.specs.declared.view.Phase.TheVariants as phase
use Rattle.colored_copier.specs.Passes.{PassView}
use Rattle.colored_copier.specs.Phases.{Rises}

module _ {X : Type 0} where
  -- an item that rises above the pass's last one, or the number that was found, past the last item
  abbrev pub Told : ℕ → PassView X → PassView X → Claimed → Type 0
  Told items old new (claimed.Item n) = (n < items) × (new.phase ≡ phase.Claimed n) × (new.written ≡ false) × Rises n old.phase
  Told items old new (claimed.Over n) = (items ≤ n) × (new.phase ≡ phase.Over n) × (new.written ≡ true)
