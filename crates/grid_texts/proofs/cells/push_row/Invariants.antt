use Rattle.std.proofs.Common.{◌≡◌, ◌++◌}
use Rattle.grid_texts.specs.Draws.{state_after}
use Rattle.grid_texts.specs.Rows.{cell_row}
use Rattle.grid_texts.proofs.cells.push_row.Given as goal

abbrev pub invariant-loop-i : goal.invariant-loop-i
invariant-loop-i l = record {
  lines : l.text.items ≡ l.initial.text.items ++ cell_row l.n l.j l.initial.draws.state l.i;
  state : l.draws.state ≡ state_after l.initial.draws.state l.i;
}
