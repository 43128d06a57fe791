use Rattle.std.proofs.Common.{◌≡◌, ◌++◌, map, take}
use Rattle.conflict_coloring.proofs.row_table.add_entries.Given as goal

abbrev pub invariant-loop-row : goal.invariant-loop-row
invariant-loop-row l = l.owners.items ≡ l.initial.owners.items ++ map (λ r. l.cell) (take l._row-index l.more)
