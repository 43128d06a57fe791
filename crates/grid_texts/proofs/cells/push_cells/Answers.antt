use Rattle.std.proofs.Math.Nat.{mul-zero}
use Rattle.grid_texts.proofs.RowLemmas.{cell_rows-none, state-none, cell_rows_step, cell_rows_state}
use Rattle.grid_texts.proofs.cells.push_cells.Goals as goal

pub loop-j-init : goal.loop-j-init
loop-j-init c = record {
  lines = cell_rows-none c.args.n c.args.draws.now.state c.args.text.now.items;
  state = state-none c.args.draws.now.state _ (mul-zero c.args.n);
}

pub loop-j-preserved : goal.loop-j-preserved
loop-j-preserved c = record {
  lines = cell_rows_step c.args.n c.loop-j.j c.args.draws.now.state c.loop-j.draws.state c.args.text.now.items c.loop-j.text.items c.push_row.new.text.items
      c.loop-j.invariant.state c.loop-j.invariant.lines c.in_ok-push_row.ensures.lines;
  state = cell_rows_state c.args.n c.loop-j.j c.args.draws.now.state c.loop-j.draws.state c.push_row.new.draws.state c.loop-j.invariant.state c.in_ok-push_row.ensures.state;
}
