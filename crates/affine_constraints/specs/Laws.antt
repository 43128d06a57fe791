-- Laws of the definitions.
use Rattle.std.specs.Prelude.{◌≡◌, ◌≢◌, List, Ok, Err}
use Rattle.std.specs.declared.option.Option.{Option}
use Rattle.std.specs.declared.result.Result.{Result}
use Rattle.affine_constraints.specs.declared.fault.CloseFault.{CloseFault}
use Rattle.affine_constraints.specs.declared.fault.CloseFault.TheVariants.{NoMemory}
use Rattle.affine_constraints.specs.Lines.{AffineLine, Lines, lines_in, HaveNoCycle}
use Rattle.affine_constraints.specs.Closing.{AreClosed, AreClosedInRange, HaveFault}

-- closed lines in range, or a fault of the lines
abbrev pub IsAnswer : Lines → Result Lines CloseFault → Type 0
IsAnswer lines (Ok closed) = AreClosedInRange lines closed
IsAnswer lines (Err fault) = HaveFault lines fault × (fault ≢ NoMemory)

-- no table of lines has two answers
abbrev pub HaveOneAnswer : Type 0
HaveOneAnswer = (table : List (Option AffineLine)) (a b : Result Lines CloseFault) → IsAnswer (lines_in table) a → IsAnswer (lines_in table) b → a ≡ b

-- each table of lines has an answer
abbrev pub HaveAnAnswer : Type 0
HaveAnAnswer = (table : List (Option AffineLine)) → (answer : Result Lines CloseFault) × IsAnswer (lines_in table) answer

-- where no dof names itself there are closed lines, and no others
pub record AreClosable (lines : Lines) : Type 0 where
  pub closed : Lines
  pub are_closed : AreClosed lines closed
  pub only : (other : Lines) → AreClosed lines other → other ≡ closed

abbrev pub CanBeClosed : Type 0
CanBeClosed = (table : List (Option AffineLine)) → HaveNoCycle (lines_in table) → AreClosable (lines_in table)
