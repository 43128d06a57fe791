use Rattle.std.proofs.Common.{◌≡◌, ◌≤◌, ◌+◌, ◌-◌, ◌^◌, length, min}
use Rattle.std.specs.Iterator.Adapters.{zip_first, zip_second}
use Rattle.std.specs.Slice.Iter.{iter_rest}
use Rattle.matrix_market.specs.Parts.{row_text, size_of}
use Rattle.matrix_market.proofs.matrix_writer.row_size.Given as goal

-- the size so far and that of the entries that are left are the whole size
abbrev pub invariant-loop-column : goal.invariant-loop-column
invariant-loop-column l =
    (goal.iterator-loop-column).can_next l.column-iterator ×
    (goal.iterator-loop-column).is_finite l.column-iterator ×
    (l.size ≤ 2 ^ 64 - 1) ×
    (min (l.size + length (row_text l.row (iter_rest (zip_first l.column-iterator)) (iter_rest (zip_second l.column-iterator)))) (2 ^ 64 - 1) ≡ size_of (row_text l.row l.columns l.values))
