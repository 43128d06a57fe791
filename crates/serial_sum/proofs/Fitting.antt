-- Rows that fit still fit after any part.
use Rattle.std.proofs.Common.{ℕ, List, [], ◌∷◌, Bool, true, false, ◌≤◌, ◌^◌, cond}
use Rattle.std.specs.Prelude.{Some, None, fold, ◌==◌, unsigned_abs}
use Rattle.std.specs.declared.option.Option.{Option}
use Rattle.fixed_q1.specs.declared.fault.LocalFault.{LocalFault}
use Rattle.sparsity.specs.declared.rows.Row.{Row}
use Rattle.sparsity.specs.declared.rows.MarkKind.{MarkKind}
use Rattle.sparsity.specs.declared.rows.MarkKind.TheVariants as kinds
use Rattle.serial_sum.specs.Rows.{FitsRow, FitsRows, Run, one, entry_of}
use Rattle.serial_sum.specs.Steps.{formed_step, step_on, step_of, RowRun, row_one, row_own, row_step}
use Rattle.serial_sum.specs.Marks.{kind_of, marked, after_run_of, row_after, row_after_fault}
use Rattle.serial_sum.specs.Parts.{CellPart}
use Rattle.serial_sum.specs.declared.part.Target.{Target}
use Rattle.serial_sum.specs.declared.part.Target.TheVariants.{Column, RightSide}
use Rattle.serial_sum.specs.declared.part.Contribution.{Contribution}
use Rattle.serial_sum.specs.declared.sum.Failure.{Failure}
use Rattle.serial_sum.specs.declared.sum.MatrixState.{MatrixState}
use Rattle.serial_sum.proofs.RowLaws.{row_fits, rows_fit}

-- all rows, after contributions, a part, and parts
run_fits : (digits : ℕ) (pattern : List (List ℕ)) (list : List Contribution) (run : Run) → FitsRows pattern run.rows → FitsRows pattern (fold (one digits pattern) run list).rows
run_fits digits pattern [] run fits = fits
run_fits digits pattern (c ∷ list) run fits = run_fits digits pattern list (one digits pattern run c) (rows_fit digits pattern run.rows c fits)

pub step_fits : (digits : ℕ) (pattern : List (List ℕ)) (rows : List Row) (failure : Option Failure) (part : CellPart) → FitsRows pattern rows → FitsRows pattern (step_on digits pattern rows failure part).rows
step_fits digits pattern rows (Some failure) part fits = fits
step_fits digits pattern rows None part fits = by_fault part.fault
  where
    by_fault : (o : Option LocalFault) → FitsRows pattern (formed_step digits pattern rows part o).rows
    by_fault (Some fault) = fits
    by_fault None = run_fits digits pattern part.list (record { rows = rows; least = None }) fits

pub steps_fit : (digits : ℕ) (pattern : List (List ℕ)) (parts : List CellPart) (state : MatrixState) → FitsRows pattern state.rows → FitsRows pattern (fold (step_of digits pattern) state parts).rows
steps_fit digits pattern [] state fits = fits
steps_fit digits pattern (part ∷ parts) state fits = steps_fit digits pattern parts (step_of digits pattern state part) (step_fits digits pattern state.rows state.failure part fits)

-- one row alone, after a contribution, contributions, and a part
pub own_fits : (digits : ℕ) (columns : List ℕ) (i : ℕ) (run : RowRun) (c : Contribution) → FitsRow columns run.row → FitsRow columns (row_own digits columns i run c).row
own_fits digits columns i run c fits = by_row (c.row == i)
  where
    by_row : (b : Bool) → FitsRow columns (cond b (row_one digits columns run c) run).row
    by_row true = row_fits digits columns run.row c.target c.value fits
    by_row false = fits

row_run_fits : (digits : ℕ) (columns : List ℕ) (i : ℕ) (list : List Contribution) (run : RowRun) → FitsRow columns run.row → FitsRow columns (fold (row_own digits columns i) run list).row
row_run_fits digits columns i [] run fits = fits
row_run_fits digits columns i (c ∷ list) run fits = row_run_fits digits columns i list (row_own digits columns i run c) (own_fits digits columns i run c fits)

-- a mark leaves the numbers
pub marked_fits : (columns : List ℕ) (cell : ℕ) (kind : MarkKind) (row : Row) → FitsRow columns row → FitsRow columns (marked cell kind row)
marked_fits columns cell kind row fits = record { width = fits.width; small = λ t. by_target t }
  where
    by_target : (t : Target) → unsigned_abs (entry_of columns (marked cell kind row) t) ≤ 2 ^ 80
    by_target (Column j) = fits.small (Column j)
    by_target RightSide = fits.small RightSide

run_end_fits : (columns : List ℕ) (cell : ℕ) (run : RowRun) → FitsRow columns run.row → FitsRow columns (after_run_of cell run)
run_end_fits columns cell run fits = by_all run.all
  where
    by_all : (b : Bool) → FitsRow columns (cond b run.row (marked cell kinds.Sum run.row))
    by_all true = fits
    by_all false = marked_fits columns cell kinds.Sum run.row fits

pub part_fits : (digits : ℕ) (columns : List ℕ) (i : ℕ) (row : Row) (part : CellPart) → FitsRow columns row → FitsRow columns (row_after digits columns i row part)
part_fits digits columns i row part fits = by_fault part.fault
  where
    by_fault : (o : Option LocalFault) → FitsRow columns (row_after_fault digits columns i row part o)
    by_fault (Some fault) = marked_fits columns part.cell (kind_of fault) row fits
    by_fault None =
        run_end_fits columns part.cell (row_step digits columns i (record { row = row; all = true }) part) (row_run_fits digits columns i part.list (record { row = row; all = true }) fits)
