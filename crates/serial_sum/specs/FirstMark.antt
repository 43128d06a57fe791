-- The first marked row, row after row.
use Rattle.std.specs.Prelude.{ℕ, nat_le, Some, None, if◌then◌else◌}
use Rattle.std.specs.declared.option.Option.{Option}
use Rattle.sparsity.specs.declared.rows.Mark.{Mark}
use Rattle.serial_sum.specs.declared.marks.Marked.{Marked}

abbrev pub earlier_of : Option Marked → ℕ → Option Mark → Option Marked
earlier_of first row None = first
earlier_of None row (Some mark) = Some (record { row = row; mark = mark })
earlier_of (Some other) row (Some mark) = if nat_le other.mark.cell mark.cell then Some other else Some (record { row = row; mark = mark })
