-- Marks of rows, and what a round of parts does, no two of which name one row.
use Rattle.std.specs.Prelude.{◌≡◌, ℕ, ◌<◌, ◌≤◌, ◌⊎◌, true, false, List, [], length, map, fold, All, Some, None, if◌then◌else◌, slice_index_or}
use Rattle.std.specs.declared.option.Option.{Option}
use Rattle.fixed_q1.specs.declared.fault.LocalFault.{LocalFault}
use Rattle.fixed_q1.specs.declared.fault.LocalFault.TheVariants as faults
use Rattle.sparsity.specs.Coupled.{has}
use Rattle.sparsity.specs.declared.rows.Row.{Row}
use Rattle.sparsity.specs.declared.rows.Mark.{Mark}
use Rattle.sparsity.specs.declared.rows.MarkKind.{MarkKind}
use Rattle.sparsity.specs.declared.rows.MarkKind.TheVariants as kinds
use Rattle.serial_sum.specs.Columns.{columns_at}
use Rattle.serial_sum.specs.Rows.{row_at, AreUnmarked}
use Rattle.serial_sum.specs.Steps.{RowRun, row_step, step_of, IsPartFor}
use Rattle.serial_sum.specs.declared.part.Contribution.{Contribution}
use Rattle.serial_sum.specs.Parts.{CellPart}
use Rattle.serial_sum.specs.declared.sum.MatrixState.{MatrixState}
use Rattle.serial_sum.specs.declared.sum.Failure.{Failure}
use Rattle.serial_sum.specs.declared.sum.Failure.TheVariants.{Local, Sum}

abbrev pub kind_of : LocalFault → MarkKind
kind_of faults.Distorted = kinds.Distorted
kind_of faults.Size = kinds.Size

abbrev pub marked : ℕ → MarkKind → Row → Row
marked cell kind row = record { values = row.values; rhs = row.rhs; mark = Some (record { cell = cell; kind = kind }) }

-- the row of a run, marked where not all was added
abbrev pub after_run_of : ℕ → RowRun → Row
after_run_of cell run = if run.all then run.row else marked cell kinds.Sum run.row

abbrev pub row_after_fault : ℕ → List ℕ → ℕ → Row → CellPart → Option LocalFault → Row
row_after_fault digits columns i row part (Some fault) = marked part.cell (kind_of fault) row
row_after_fault digits columns i row part None = after_run_of part.cell (row_step digits columns i (record { row = row; all = true }) part)

-- row i after a part: with its contributions to the row, and marked where the cell has a fault or one of them wasn't added
abbrev pub row_after : ℕ → List ℕ → ℕ → Row → CellPart → Row
row_after digits columns i row part = row_after_fault digits columns i row part part.fault

-- the mark of row i is that of the least marked cell, at its first row
pub record IsFirstMark (rows : List Row) (i : ℕ) (mark : Mark) : Type 0 where
  pub there : (row_at rows i).mark ≡ Some mark
  pub first : (j : ℕ) (other : Mark) → (row_at rows j).mark ≡ Some other → (mark.cell < other.cell) ⊎ ((mark.cell ≡ other.cell) × (i ≤ j))

abbrev pub failure_by : ℕ → ℕ → MarkKind → Failure
failure_by cell row kinds.Distorted = Local cell faults.Distorted
failure_by cell row kinds.Size = Local cell faults.Size
failure_by cell row kinds.Sum = Sum cell row

-- the failure that a mark of row i tells
abbrev pub failure_of : ℕ → Mark → Failure
failure_of i mark = failure_by mark.cell i mark.kind

-- what no mark or the first mark tells
abbrev pub Tells : List Row → Option Failure → Type 0
Tells rows None = AreUnmarked rows
Tells rows (Some failure) = (i : ℕ) × (mark : Mark) × IsFirstMark rows i mark × (failure ≡ failure_of i mark)

-- a part and the rows that its cell names
pub record RoundItem : Type 0 where
  pub part : CellPart
  pub rows : List ℕ

abbrev pub item_at : List RoundItem → ℕ → RoundItem
item_at items k = slice_index_or items k (record { part = record { cell = 0; fault = None; list = [] }; rows = [] })

-- the cell names all rows to which it contributes, and some row where it has a fault
pub record IsItem (pattern : List (List ℕ)) (item : RoundItem) : Type 0 where
  pub part : IsPartFor pattern item.part
  pub covers : All (λ (c : Contribution). has item.rows c.row ≡ true) item.part.list
  pub within : (i : ℕ) → has item.rows i ≡ true → i < length pattern
  pub shows : (fault : LocalFault) → item.part.fault ≡ Some fault → (row : ℕ) × (has item.rows row ≡ true)

-- the cells rise, and no two of them name one row
pub record AreItems (pattern : List (List ℕ)) (items : List RoundItem) : Type 0 where
  pub each : (k : ℕ) → k < length items → IsItem pattern (item_at items k)
  pub rising : (k l : ℕ) → k < l → l < length items → (item_at items k).part.cell < (item_at items l).part.cell
  pub apart : (k l i : ℕ) → k < l → l < length items → has (item_at items k).rows i ≡ true → has (item_at items l).rows i ≡ false

-- each row that a cell names gets that cell's part, and all other rows stay
pub record IsRound (digits : ℕ) (pattern : List (List ℕ)) (items : List RoundItem) (old new : List Row) : Type 0 where
  pub count : length new ≡ length old
  pub named : (k i : ℕ) → k < length items → has (item_at items k).rows i ≡ true → row_at new i ≡ row_after digits (columns_at pattern i) i (row_at old i) (item_at items k).part
  pub others : (i : ℕ) → ((k : ℕ) → k < length items → has (item_at items k).rows i ≡ false) → row_at new i ≡ row_at old i

-- the state after the parts, one after another
abbrev pub round_end : ℕ → List (List ℕ) → List RoundItem → MatrixState → MatrixState
round_end digits pattern items state = fold (step_of digits pattern) state (map (λ (it : RoundItem). it.part) items)

-- rows without marks are those after the parts, and the first mark tells how the parts fail
pub record RoundIs (digits : ℕ) (pattern : List (List ℕ)) (items : List RoundItem) (state : MatrixState) (new : List Row) : Type 0 where
  pub whole : AreUnmarked new → round_end digits pattern items state ≡ record { rows = new; failure = None }
  pub fails : (i : ℕ) (mark : Mark) → IsFirstMark new i mark → (round_end digits pattern items state).failure ≡ Some (failure_of i mark)
