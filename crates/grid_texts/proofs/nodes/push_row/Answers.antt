use Rattle.std.proofs.Common.{◌∙◌, ap, cond}
use Rattle.grid_texts.specs.Draws.{state_after}
use Rattle.grid_texts.specs.Rows.{shift}
use Rattle.grid_texts.proofs.RowLemmas.{node_row-none, state-none, draws_in_row-none, row_step, row_state}
use Rattle.grid_texts.proofs.nodes.push_row.Goals as goal

pub loop-i-init : goal.loop-i-init
loop-i-init c = record {
  lines = node_row-none c.args.n c.args.j c.args.draws.now.state c.args.text.now.items;
  state = state-none c.args.draws.now.state _ (draws_in_row-none c.args.n c.args.j);
}

pub loop-i-preserved : goal.loop-i-preserved
loop-i-preserved c = record {
  lines = row_step c.args.n c.args.j c.loop-i.i c.args.draws.now.state c.loop-i.draws.state c.shifts-x_shift.result.0 c.shifts-x_shift.result.1
      c.args.text.now.items c.loop-i.text.items c.push_node.new.text.items c.loop-i.invariant.state
      (c.shifts-x_shift.ensures.along_x ∙ ap (λ inside. shift inside c.loop-i.draws.state 1) c.is_interior.ensures)
      (c.shifts-x_shift.ensures.along_y ∙ ap (λ inside. shift inside c.loop-i.draws.state 2) c.is_interior.ensures)
      c.loop-i.invariant.lines c.in_ok-push_node.ensures;
  state = row_state c.args.n c.args.j c.loop-i.i c.args.draws.now.state c.loop-i.draws.state c.shifts-x_shift.new.draws.state c.loop-i.invariant.state
      (c.shifts-x_shift.ensures.state ∙ ap (λ inside. cond inside (state_after c.loop-i.draws.state 2) c.loop-i.draws.state) c.is_interior.ensures);
}
