use Rattle.std.proofs.Common.{◌≡◌, map}
use Rattle.conflict_coloring.specs.RowTable.{pairs}
use Rattle.conflict_coloring.proofs.row_table.listed.Given as goal

abbrev pub invariant-loop-cell : goal.invariant-loop-cell
invariant-loop-cell l = record {
  rows : l.rows.items ≡ map (λ p. p.0) (pairs l.conflicts l.cell);
  owners : l.owners.items ≡ map (λ p. p.1) (pairs l.conflicts l.cell);
}
