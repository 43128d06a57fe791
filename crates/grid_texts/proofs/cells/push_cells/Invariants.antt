use Rattle.std.proofs.Common.{◌≡◌, ◌++◌, ◌*◌}
use Rattle.grid_texts.specs.Draws.{state_after}
use Rattle.grid_texts.specs.Rows.{cell_rows}
use Rattle.grid_texts.proofs.cells.push_cells.Given as goal

abbrev pub invariant-loop-j : goal.invariant-loop-j
invariant-loop-j l = record {
  lines : l.text.items ≡ l.initial.text.items ++ cell_rows l.n l.initial.draws.state l.j;
  state : l.draws.state ≡ state_after l.initial.draws.state (l.n * l.j);
}
