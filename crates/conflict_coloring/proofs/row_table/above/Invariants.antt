use Rattle.std.proofs.Common.{◌≡◌, ◌≤◌, ◌<◌, ◌+◌, ◌^◌, ℕ, slice_index, take, true}
use Rattle.conflict_coloring.specs.Conflict.{has}
use Rattle.conflict_coloring.proofs.row_table.above.Given as goal

abbrev pub invariant-loop-row : goal.invariant-loop-row
invariant-loop-row l = record {
  above : (k : ℕ) → k < l.row-index → slice_index l.rows k < l.count;
  top : (k : ℕ) → k + 1 ≡ l.count → has (take l.row-index l.rows) k ≡ true;
  few : l.count ≤ 2 ^ 32;
}
