-- The serial sum: each entry by itself, as a fold over the contributions that go to it. The parts come in
-- the order of the sum.
use Rattle.std.specs.Prelude.{◌≡◌, ℕ, ◌+◌, ◌<◌, ◌≤◌, ◌⊎◌, List, [], map, fold, filter, length, take, slice_index_or, ℤ, pos, Some, None, IsSome, unwrap_or, Ok, Err}
use Rattle.std.specs.declared.option.Option.{Option}
use Rattle.std.specs.declared.result.Result.{Result}
use Rattle.std.specs.List.{flat_map, range_with_len}
use Rattle.fem_fixed.specs.KeptSum.{added}
use Rattle.serial_sum.specs.Columns.{columns_at}
use Rattle.serial_sum.specs.Rows.{goes_to}
use Rattle.serial_sum.specs.declared.part.Target.{Target}
use Rattle.serial_sum.specs.declared.part.Target.TheVariants.{Column, RightSide}
use Rattle.serial_sum.specs.declared.part.Contribution.{Contribution}
use Rattle.fixed_q1.specs.declared.fault.LocalFault.{LocalFault}
use Rattle.serial_sum.specs.declared.sum.Failure.{Failure}
use Rattle.serial_sum.specs.declared.sum.Failure.TheVariants.{Local, Sum}
use Rattle.sparsity.specs.declared.rows.Row.{Row}
use Rattle.serial_sum.specs.Parts.{CellPart}

abbrev pub next_sum : ℕ → Option ℤ → Contribution → Option ℤ
next_sum digits None c = None
next_sum digits (Some sum) c = added digits sum c.value

-- an entry after these contributions, or nothing once an addition passed the limit
unfoldable pub sum_of : ℕ → List Contribution → ℕ → Target → Option ℤ
sum_of digits list row target = fold (next_sum digits) (Some (pos 0)) (filter (goes_to row target) list)

abbrev pub contributions : List CellPart → List Contribution
contributions parts = flat_map (λ part. part.list) parts

-- an entry after these parts
abbrev pub entry : ℕ → List CellPart → ℕ → Target → Option ℤ
entry digits parts row target = sum_of digits (contributions parts) row target

-- the part at a position
abbrev pub part_at : List CellPart → ℕ → CellPart
part_at parts t = slice_index_or parts t (record { cell = 0; fault = None; list = [] })

-- the cell at position t fails in its local form
abbrev pub FailsLocally : List CellPart → ℕ → LocalFault → Type 0
FailsLocally parts t fault = (part_at parts t).fault ≡ Some fault

-- it has a local form and fails in a sum at a row: some entry of the row is a number before it and nothing after it
pub record FailsAtRow (digits : ℕ) (parts : List CellPart) (t row : ℕ) : Type 0 where
  pub within : t < length parts
  pub formed : (part_at parts t).fault ≡ None
  pub target : Target
  pub before : IsSome (entry digits (take t parts) row target)
  pub after : entry digits (take (t + 1) parts) row target ≡ None

-- it fails in its local form, or in a sum at some row
abbrev pub Fails : ℕ → List CellPart → ℕ → Type 0
Fails digits parts t = ((fault : LocalFault) × FailsLocally parts t fault) ⊎ ((row : ℕ) × FailsAtRow digits parts t row)

-- the least row at which it fails in a sum
pub record IsLeastRow (digits : ℕ) (parts : List CellPart) (t row : ℕ) : Type 0 where
  pub fails : FailsAtRow digits parts t row
  pub least : (other : ℕ) → FailsAtRow digits parts t other → row ≤ other

-- the sum fails, at this position first
pub record FailsFirst (digits : ℕ) (parts : List CellPart) (t : ℕ) : Type 0 where
  pub fails : Fails digits parts t
  pub first : (s : ℕ) → s < t → Fails digits parts s → ⊥

-- no part has a fault, and each entry is a number
pub record HasSum (digits : ℕ) (parts : List CellPart) : Type 0 where
  pub forms : (t : ℕ) → (part_at parts t).fault ≡ None
  pub sums : (row : ℕ) (target : Target) → IsSome (entry digits parts row target)

-- the rows that hold the sums
abbrev pub sum_or_zero : ℕ → List Contribution → ℕ → Target → ℤ
sum_or_zero digits list row target = unwrap_or (sum_of digits list row target) (pos 0)

abbrev pub sum_row : ℕ → List (List ℕ) → List Contribution → ℕ → Row
sum_row digits pattern list i = record {
  values = map (λ j. sum_or_zero digits list i (Column j)) (columns_at pattern i);
  rhs = sum_or_zero digits list i RightSide;
  mark = None;
}

unfoldable pub sum_rows : ℕ → List (List ℕ) → List Contribution → List Row
sum_rows digits pattern list = map (sum_row digits pattern list) (range_with_len 0 (length pattern))

-- the part at position t is the first that fails, and so
abbrev pub FailsAs : ℕ → List CellPart → ℕ → Failure → Type 0
FailsAs digits parts t (Local cell fault) = ((part_at parts t).cell ≡ cell) × FailsLocally parts t fault
FailsAs digits parts t (Sum cell row) = ((part_at parts t).cell ≡ cell) × IsLeastRow digits parts t row

-- what the sum of the parts is: its rows by the columns of the pattern, or how it fails
abbrev pub SumIs : ℕ → List (List ℕ) → List CellPart → Result (List Row) Failure → Type 0
SumIs digits pattern parts (Ok rows) = HasSum digits parts × (rows ≡ sum_rows digits pattern (contributions parts))
SumIs digits pattern parts (Err failure) = (t : ℕ) × FailsFirst digits parts t × FailsAs digits parts t failure
