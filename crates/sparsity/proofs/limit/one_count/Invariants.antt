use Rattle.std.proofs.Common.{◌≡◌, ◌≤◌, ◌*◌, ◌-◌, length, map}
use Rattle.std.specs.List.{concat, range_with_len}
use Rattle.sparsity.specs.Coupled.{row_of}
use Rattle.sparsity.proofs.limit.one_count.Given as goal

abbrev pub invariant-loop-i : goal.invariant-loop-i
invariant-loop-i l = record {
  pairs : l.count ≡ length (concat (map (row_of l.size l.lists) (range_with_len l.first (l.i - l.first))));
  small : l.count ≤ (l.i - l.first) * l.size;
}
