use Rattle.std.proofs.Common.{◌≡◌, ◌≤◌, ◌+◌, drop, fold, length}
use Rattle.std.specs.List.{concat}
use Rattle.matrix_market.specs.Entries.{entries_from, entries_of, right_sides, values_of}
use Rattle.run_summary.specs.Steps.{no_sum, with_value, no_sums, with_entry, AreWithin, IsWithin}
use Rattle.run_summary.proofs.sums.system_sums.Given as goal

-- with the rows that are left the sums so far are those of the whole
abbrev pub invariant-loop-i : goal.invariant-loop-i
invariant-loop-i l = record {
  matrix : fold with_entry l.matrix (entries_from l.i (drop l.i l.pattern) (drop l.i (values_of l.rows))) ≡ fold with_entry no_sums (entries_of l.pattern (values_of l.rows));
  rhs : fold with_value l.rhs (drop l.i (right_sides l.rows)) ≡ fold with_value no_sum (right_sides l.rows);
  few : l.matrix.weighted.count + length (concat (drop l.i l.pattern)) ≤ 33554432;
  few_rows : l.rhs.count ≤ l.i;
  matrix_within : AreWithin l.matrix;
  rhs_within : IsWithin l.rhs;
}
