-- Contributions added one by one: the rows or a row, and what is told, as a pair.
use Rattle.std.specs.Prelude.{◌≡◌, ℕ, List, Bool}
use Rattle.std.specs.declared.option.Option.{Option}
use Rattle.serial_sum.specs.Rows.{Run, one}
use Rattle.serial_sum.specs.Steps.{RowRun, row_own}
use Rattle.serial_sum.specs.declared.part.Contribution.{Contribution}
use Rattle.sparsity.specs.declared.rows.Row.{Row}

-- contributions to this row change nothing
abbrev pub StayOut : {S : Type 0} → (S → Contribution → S) → ℕ → Type 0
StayOut {S} step row = (sum : S) (c : Contribution) → c.row ≡ row → step sum c ≡ sum

abbrev pub rows_told : Run → List Row × Option ℕ
rows_told run = (run.rows, run.least)

-- all rows, and the least failing row, after a contribution
abbrev pub rows_step : ℕ → List (List ℕ) → List Row × Option ℕ → Contribution → List Row × Option ℕ
rows_step digits pattern sum c = rows_told (one digits pattern (record { rows = sum.0; least = sum.1 }) c)

abbrev pub row_told : RowRun → Row × Bool
row_told run = (run.row, run.all)

-- row i, and whether all was added, after a contribution, where it goes to the row
abbrev pub one_row_step : ℕ → List ℕ → ℕ → Row × Bool → Contribution → Row × Bool
one_row_step digits columns i sum c = row_told (row_own digits columns i (record { row = sum.0; all = sum.1 }) c)
