-- Contributions that an adder has added.
use Rattle.std.specs.Prelude.{◌≡◌, List, fold}
use Rattle.serial_sum.specs.declared.part.Contribution.{Contribution}

-- these contributions were added one after another, as the steps of an adder, and what they were added to still fits it
pub record Adds {S T : Type 0} (Fits : S → Type 0) (step : S × T → Contribution → S × T) (old new : S × T) (list : List Contribution) : Type 0 where
  pub run : new ≡ fold step old list
  pub fits : Fits new.0
