-- The sum as steps on a state, part after part.
use Rattle.std.specs.Prelude.{◌≡◌, ℕ, ◌≤◌, List, map, fold, All, Bool, true, ◌==◌, ◌&&◌, ◌^◌, if◌then◌else◌, unsigned_abs, Some, None, Ok, Err}
use Rattle.std.specs.declared.option.Option.{Option}
use Rattle.std.specs.declared.result.Result.{Result}
use Rattle.serial_sum.specs.Rows.{Run, one, IsFor, added_row, is_added, has_target}
use Rattle.serial_sum.specs.SerialSum.{SumIs}
use Rattle.serial_sum.specs.declared.part.Contribution.{Contribution}
use Rattle.fixed_q1.specs.declared.fault.LocalFault.{LocalFault}
use Rattle.serial_sum.specs.declared.sum.AssembleFault.{AssembleFault}
use Rattle.serial_sum.specs.declared.sum.AssembleFault.TheVariants as faults
use Rattle.serial_sum.specs.declared.sum.Failure.{Failure}
use Rattle.serial_sum.specs.declared.sum.Failure.TheVariants.{Local, Sum}
use Rattle.sparsity.specs.declared.rows.Row.{Row}
use Rattle.serial_sum.specs.declared.sum.MatrixState.{MatrixState}
use Rattle.serial_sum.specs.Parts.{CellPart}
use Rattle.sparsity.specs.Rows.{zero_row}

abbrev pub failure_at : ℕ → Option ℕ → Option Failure
failure_at cell None = None
failure_at cell (Some row) = Some (Sum cell row)

abbrev pub after_run : ℕ → Run → MatrixState
after_run cell run = record { rows = run.rows; failure = failure_at cell run.least }

abbrev pub formed_step : ℕ → List (List ℕ) → List Row → CellPart → Option LocalFault → MatrixState
formed_step digits pattern rows part (Some fault) = record { rows = rows; failure = Some (Local part.cell fault) }
formed_step digits pattern rows part None = after_run part.cell (fold (one digits pattern) (record { rows = rows; least = None }) part.list)

abbrev pub step_on : ℕ → List (List ℕ) → List Row → Option Failure → CellPart → MatrixState
step_on digits pattern rows (Some failure) part = record { rows = rows; failure = Some failure }
step_on digits pattern rows None part = formed_step digits pattern rows part part.fault

-- one part more, unless the state has failed
abbrev pub step_of : ℕ → List (List ℕ) → MatrixState → CellPart → MatrixState
step_of digits pattern state part = step_on digits pattern state.rows state.failure part

-- rows of zeros, and no failure
abbrev pub zero_state : List (List ℕ) → MatrixState
zero_state pattern = record { rows = map zero_row pattern; failure = None }

-- the answer that a state stands for
abbrev pub result_of : List Row → Option Failure → Result (List Row) Failure
result_of rows None = Ok rows
result_of rows (Some failure) = Err failure

abbrev pub answer_of : MatrixState → Result (List Row) Failure
answer_of state = result_of state.rows state.failure

-- each contribution of the part may be added
abbrev pub IsPartFor : List (List ℕ) → CellPart → Type 0
IsPartFor pattern part = All (IsFor pattern) part.list

abbrev pub failure_fault : Failure → AssembleFault
failure_fault (Local cell fault) = faults.Local cell fault
failure_fault (Sum cell row) = faults.Sum cell row

-- why there are no rows: how the sum fails, or memory ran out
abbrev pub FaultIs : ℕ → List (List ℕ) → List CellPart → AssembleFault → Type 0
FaultIs digits pattern parts (faults.Local cell fault) = SumIs digits pattern parts (Err (Local cell fault))
FaultIs digits pattern parts (faults.Sum cell row) = SumIs digits pattern parts (Err (Sum cell row))
FaultIs digits pattern parts faults.NoMemory = Unit {0}

-- a row so far, and whether all was added
pub record RowRun : Type 0 where
  pub row : Row
  pub all : Bool

abbrev pub row_one : ℕ → List ℕ → RowRun → Contribution → RowRun
row_one digits columns run c = record {
  row = added_row digits columns run.row c.target c.value;
  all = run.all && is_added digits columns run.row c.target c.value;
}

-- a contribution more, where it goes to the row i
abbrev pub row_own : ℕ → List ℕ → ℕ → RowRun → Contribution → RowRun
row_own digits columns i run c = if c.row == i then row_one digits columns run c else run

-- what a part does to the row i alone
abbrev pub row_step : ℕ → List ℕ → ℕ → RowRun → CellPart → RowRun
row_step digits columns i run part = fold (row_own digits columns i) run part.list

-- the contribution may be added, where it goes to the row i
pub record IsForRow (columns : List ℕ) (i : ℕ) (c : Contribution) : Type 0 where
  pub held : c.row ≡ i → has_target columns c.target ≡ true
  pub term : unsigned_abs c.value ≤ 2 ^ 100
