use Rattle.std.proofs.Common.{◌≡◌, map}
use Rattle.conflict_coloring.specs.RowTable.{pairs}
use Rattle.conflict_coloring.proofs.ranks.all_rows.Given as goal

abbrev pub invariant-loop-cell : goal.invariant-loop-cell
invariant-loop-cell l = l.rows.items ≡ map (λ p. p.0) (pairs l.conflicts l.cell)
