use Rattle.std.specs.Prelude.{slice_index}
use Rattle.ucd_write.specs.Text.{node_word}
use Rattle.ucd_write.proofs.Joined.{two_joined}
use Rattle.ucd_write.proofs.cells.append_corners.Goals as goal

pub returns-clause-items : goal.returns-clause-items
returns-clause-items c =
    let ids = c.args.ids.now in
    let corners = c.args.corners.now in
    two_joined c.args.text.now.items c.append_two.new.text.items c.append_two-2.new.text.items
    (node_word ids (slice_index corners 0)) (node_word ids (slice_index corners 1)) (node_word ids (slice_index corners 2)) (node_word ids (slice_index corners 3))
    c.append_two.ensures.items c.append_two-2.ensures.items
