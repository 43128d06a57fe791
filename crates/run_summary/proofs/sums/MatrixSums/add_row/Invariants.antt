use Rattle.std.proofs.Common.{◌≡◌, ◌≤◌, ◌+◌, fold, length}
use Rattle.std.specs.Prelude.{All}
use Rattle.std.specs.Iterator.Adapters.{zip_first, zip_second}
use Rattle.std.specs.Slice.Iter.{iter_rest}
use Rattle.matrix_market.specs.Entries.{row_entries}
use Rattle.run_summary.specs.Summary.{IsSmall}
use Rattle.run_summary.specs.Steps.{with_entry, AreWithin}
use Rattle.run_summary.proofs.sums.MatrixSums.add_row.Given as goal

-- with the entries that are left the sums so far are those of the whole row
abbrev pub invariant-loop-column : goal.invariant-loop-column
invariant-loop-column l =
    (goal.iterator-loop-column).can_next l.column-iterator ×
    (goal.iterator-loop-column).is_finite l.column-iterator ×
    (fold with_entry l.self (row_entries l.row (iter_rest (zip_first l.column-iterator)) (iter_rest (zip_second l.column-iterator))) ≡ fold with_entry l.fn.self (row_entries l.row l.columns l.values)) ×
    (l.self.weighted.count + length (iter_rest (zip_first l.column-iterator)) ≤ l.fn.self.weighted.count + length l.columns) ×
    All IsSmall (iter_rest (zip_second l.column-iterator)) ×
    AreWithin l.self
