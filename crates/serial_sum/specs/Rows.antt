-- What a contribution does to the rows.
use Rattle.std.specs.Prelude.{◌≡◌, ℕ, ◌<◌, ◌≤◌, ◌^◌, ◌==◌, ◌&&◌, Bool, true, false, List, [], length, slice_index_or, slice_set, ℤ, pos, unsigned_abs, Some, None, is_some, unwrap_or, min}
use Rattle.std.specs.declared.option.Option.{Option}
use Rattle.fem_fixed.specs.KeptSum.{added}
use Rattle.serial_sum.specs.Columns.{columns_at, has_column, place}
use Rattle.serial_sum.specs.declared.part.Target.{Target}
use Rattle.serial_sum.specs.declared.part.Target.TheVariants.{Column, RightSide}
use Rattle.serial_sum.specs.declared.part.Contribution.{Contribution}
use Rattle.sparsity.specs.declared.rows.Row.{Row}

-- the target is in the row
abbrev pub has_target : List ℕ → Target → Bool
has_target columns (Column j) = has_column columns j
has_target columns RightSide = true

abbrev pub same_target : Target → Target → Bool
same_target (Column j) (Column k) = j == k
same_target RightSide RightSide = true
same_target (Column j) RightSide = false
same_target RightSide (Column k) = false

-- the entry of a row at a target, 0 where it has none
abbrev pub entry_of : List ℕ → Row → Target → ℤ
entry_of columns row (Column j) = slice_index_or row.values (place columns j) (pos 0)
entry_of columns row RightSide = row.rhs

-- the row with this entry
abbrev pub with_entry : List ℕ → Row → Target → ℤ → Row
with_entry columns row (Column j) value = record { values = slice_set row.values (place columns j) value; rhs = row.rhs; mark = row.mark }
with_entry columns row RightSide value = record { values = row.values; rhs = value; mark = row.mark }

-- an entry after a term: the kept sum, or as it was where that is above the limit
unfoldable pub next : ℕ → ℤ → ℤ → ℤ
next digits entry term = unwrap_or (added digits entry term) entry

abbrev pub added_row : ℕ → List ℕ → Row → Target → ℤ → Row
added_row digits columns row target value = with_entry columns row target (next digits (entry_of columns row target) value)

abbrev pub is_added : ℕ → List ℕ → Row → Target → ℤ → Bool
is_added digits columns row target value = is_some (added digits (entry_of columns row target) value)

-- the row has a value for each column, and each number is within the limit
pub record FitsRow (columns : List ℕ) (row : Row) : Type 0 where
  pub width : length row.values ≡ length columns
  pub small : (target : Target) → unsigned_abs (entry_of columns row target) ≤ 2 ^ 80

abbrev pub no_row : Row
no_row = record { values = []; rhs = pos 0; mark = None }

abbrev pub row_at : List Row → ℕ → Row
row_at rows i = slice_index_or rows i no_row

-- no row has a mark
abbrev pub AreUnmarked : List Row → Type 0
AreUnmarked rows = (i : ℕ) → (row_at rows i).mark ≡ None

pub record FitsRows (pattern : List (List ℕ)) (rows : List Row) : Type 0 where
  pub count : length rows ≡ length pattern
  pub each : (i : ℕ) → i < length pattern → FitsRow (columns_at pattern i) (row_at rows i)

-- the contribution goes to an entry of the pattern, and may be added
pub record IsFor (pattern : List (List ℕ)) (c : Contribution) : Type 0 where
  pub within : c.row < length pattern
  pub held : has_target (columns_at pattern c.row) c.target ≡ true
  pub term : unsigned_abs c.value ≤ 2 ^ 100

-- the entry of the rows at a row and a target
abbrev pub value_at : List (List ℕ) → List Row → ℕ → Target → ℤ
value_at pattern rows i target = entry_of (columns_at pattern i) (row_at rows i) target

-- the contribution goes to this row and target
abbrev pub goes_to : ℕ → Target → Contribution → Bool
goes_to i target c = c.row == i && same_target c.target target

-- the rows after a contribution
abbrev pub with_row : ℕ → List (List ℕ) → List Row → Contribution → List Row
with_row digits pattern rows c = slice_set rows c.row (added_row digits (columns_at pattern c.row) (row_at rows c.row) c.target c.value)

-- the least failing row, where a contribution to this row was added or wasn't
abbrev pub least_after : Bool → Option ℕ → ℕ → Option ℕ
least_after true least row = least
least_after false None row = Some row
least_after false (Some other) row = Some (min other row)

-- the rows so far, and the least row with an addition above the limit
pub record Run : Type 0 where
  pub rows : List Row
  pub least : Option ℕ

-- one contribution more
abbrev pub one : ℕ → List (List ℕ) → Run → Contribution → Run
one digits pattern run c = record {
  rows = with_row digits pattern run.rows c;
  least = least_after (is_added digits (columns_at pattern c.row) (row_at run.rows c.row) c.target c.value) run.least c.row;
}
