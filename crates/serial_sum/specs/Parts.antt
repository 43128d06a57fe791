-- What one cell gives to the sum.
use Rattle.std.specs.Prelude.{ℕ, List}
use Rattle.std.specs.declared.option.Option.{Option}
use Rattle.fixed_q1.specs.declared.fault.LocalFault.{LocalFault}
use Rattle.serial_sum.specs.declared.part.Contribution.{Contribution}

-- the first fault of the cell's local forms, if there is one, and the contributions of its blocks
pub record CellPart : Type 0 where
  pub cell : ℕ
  pub fault : Option LocalFault
  pub list : List Contribution
