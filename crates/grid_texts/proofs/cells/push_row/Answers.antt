use Rattle.std.proofs.Common.{refl}
use Rattle.grid_texts.proofs.RowLemmas.{cell_row-none, state-none, cell_step, cell_state}
use Rattle.grid_texts.proofs.cells.push_row.Goals as goal

pub loop-i-init : goal.loop-i-init
loop-i-init c = record {
  lines = cell_row-none c.args.n c.args.j c.args.draws.now.state c.args.text.now.items;
  state = state-none c.args.draws.now.state 0 refl;
}

pub loop-i-preserved : goal.loop-i-preserved
loop-i-preserved c = record {
  lines = cell_step c.args.n c.args.j c.loop-i.i c.args.draws.now.state c.loop-i.draws.state c.draw.result c.args.text.now.items c.loop-i.text.items c.push_cell.new.text.items
      c.loop-i.invariant.state c.draw.ensures.value c.loop-i.invariant.lines c.in_ok-push_cell.ensures;
  state = cell_state c.loop-i.i c.args.draws.now.state c.loop-i.draws.state c.draw.new.self.state c.loop-i.invariant.state c.draw.ensures.state;
}
