use Rattle.grid_texts.proofs.RowLemmas.{mesh_is}
use Rattle.grid_texts.proofs.grid.mesh_text.Goals as goal

pub returns : goal.returns
returns c =
    mesh_is c.args.n c.args.seed c.new-draws.result.state c.push_nodes.new.draws.state c.in_ok-text.text.items c.push_head.new.text.items c.push_nodes.new.text.items c.push_cells.new.text.items
    c.in_ok-text.ensures.items c.in_ok-push_head.ensures c.new-draws.ensures c.in_ok-push_nodes.ensures.lines c.in_ok-push_nodes.ensures.state c.in_ok-push_cells.ensures
