use Rattle.std.proofs.Common.{◌≡◌, ◌≤◌, ◌++◌, vec_capacity}
use Rattle.std.specs.Iterator.Adapters.{zip_first, zip_second}
use Rattle.std.specs.Slice.Iter.{iter_rest}
use Rattle.matrix_market.specs.Parts.{row_text}
use Rattle.matrix_market.proofs.matrix_writer.append_row.Given as goal

-- the text so far and the entries that are left are the whole text
abbrev pub invariant-loop-column : goal.invariant-loop-column
invariant-loop-column l =
    (goal.iterator-loop-column).can_next l.column-iterator ×
    (goal.iterator-loop-column).is_finite l.column-iterator ×
    (l.text.items ++ row_text l.row (iter_rest (zip_first l.column-iterator)) (iter_rest (zip_second l.column-iterator)) ≡ l.fn.text.items ++ row_text l.row l.columns l.values) ×
    (vec_capacity l.fn.text ≤ vec_capacity l.text)
