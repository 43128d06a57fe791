use Rattle.std.proofs.Common.{length, take, ◌-◌, ◌≡◌, ◌≤◌}
use Rattle.corner_names.specs.Table.{IsTable}
use Rattle.corner_names.proofs.table.shorten.Given as goal

abbrev pub invariant-loop-pairs : goal.invariant-loop-pairs
invariant-loop-pairs l = record {
  table : IsTable l.pairs.items l.numbers;
  within : l.count ≤ length l.pairs.items;
  kept : take l.count l.pairs.items ≡ take l.count l.initial.pairs.items;
}

abbrev pub decreases-loop-pairs : goal.decreases-loop-pairs
decreases-loop-pairs l = length l.pairs.items
