use Rattle.std.proofs.Common.{◌≡◌, ◌++◌}
use Rattle.grid_texts.specs.Draws.{state_after}
use Rattle.grid_texts.specs.Rows.{node_row, draws_in_row}
use Rattle.grid_texts.proofs.nodes.push_row.Given as goal

abbrev pub invariant-loop-i : goal.invariant-loop-i
invariant-loop-i l = record {
  lines : l.text.items ≡ l.initial.text.items ++ node_row l.n l.j l.initial.draws.state l.i;
  state : l.draws.state ≡ state_after l.initial.draws.state (draws_in_row l.n l.j l.i);
}
