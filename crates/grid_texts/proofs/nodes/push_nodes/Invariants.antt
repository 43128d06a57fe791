use Rattle.std.proofs.Common.{◌≡◌, ◌++◌, ◌*◌, ◌-◌, min}
use Rattle.grid_texts.specs.Draws.{state_after}
use Rattle.grid_texts.specs.Rows.{node_rows}
use Rattle.grid_texts.proofs.nodes.push_nodes.Given as goal

abbrev pub invariant-loop-j : goal.invariant-loop-j
invariant-loop-j l = record {
  lines : l.text.items ≡ l.initial.text.items ++ node_rows l.n l.initial.draws.state l.j;
  state : l.draws.state ≡ state_after l.initial.draws.state (2 * ((min l.j l.n - 1) * (l.n - 1)));
}
