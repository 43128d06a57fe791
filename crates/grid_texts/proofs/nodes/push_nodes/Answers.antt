use Rattle.std.proofs.Common.{◌≡◌, ◌∙◌, ◌+◌, ◌++◌, ap, arith}
use Rattle.grid_texts.specs.Rows.{node_rows}
use Rattle.grid_texts.proofs.RowLemmas.{node_rows-none, state-none, draws_of_rows-none, rows_step, rows_state, node_lines-rows}
use Rattle.grid_texts.proofs.nodes.push_nodes.Goals as goal

pub loop-j-init : goal.loop-j-init
loop-j-init c = record {
  lines = node_rows-none c.args.n c.args.draws.now.state c.args.text.now.items;
  state = state-none c.args.draws.now.state _ (draws_of_rows-none c.args.n);
}

pub loop-j-preserved : goal.loop-j-preserved
loop-j-preserved c = record {
  lines = rows_step c.args.n c.loop-j.j c.args.draws.now.state c.loop-j.draws.state c.args.text.now.items c.loop-j.text.items c.push_row.new.text.items
      c.loop-j.invariant.state c.loop-j.invariant.lines c.in_ok-push_row.ensures.lines;
  state = rows_state c.args.n c.loop-j.j c.args.draws.now.state c.loop-j.draws.state c.push_row.new.draws.state c.loop-j.invariant.state c.in_ok-push_row.ensures.state;
}

pub returns-clause-lines : goal.returns-clause-lines
returns-clause-lines c =
    let last : c.loop-j.j ≡ c.args.n + 1 = omega arith in
    c.loop-j.invariant.lines ∙ ap (λ j. c.args.text.now.items ++ node_rows c.args.n c.args.draws.now.state j) last
    ∙ ap (λ list. c.args.text.now.items ++ list) (node_lines-rows c.args.n c.args.draws.now.state)
