use Rattle.std.proofs.Common.{◌∙◌}
use Rattle.matrix_market.specs.Texts.{pair_lines, pattern_front, pattern_text}
use Rattle.matrix_market.proofs.Whole.{pattern_whole, room_for_front, room_for_rest, whole_text}
use Rattle.matrix_market.proofs.pattern_writer.pattern_text.Goals as goal

pub append_front-requires : goal.append_front-requires
append_front-requires c =
    let pattern = c.args.pattern.now in
    room_for_front (pattern_front c.size.result c.entries.result) (pair_lines 0 pattern) (pattern_text pattern) c.in_ok-text.text.items c.in_ok-text.text.cap
    (pattern_whole pattern c.size.result c.entries.result c.size.ensures.size c.entries.ensures) c.in_ok-text.ensures.empty
    (c.in_ok-text.ensures.room (pattern_text pattern) c.pattern_size.ensures)

pub append_rows-requires : goal.append_rows-requires
append_rows-requires c =
    let pattern = c.args.pattern.now in
    room_for_rest (pattern_front c.size.result c.entries.result) (pair_lines 0 pattern) (pattern_text pattern) c.in_ok-text.text.items c.append_front.new.text.items
    c.in_ok-text.text.cap c.append_front.new.text.cap (pattern_whole pattern c.size.result c.entries.result c.size.ensures.size c.entries.ensures) c.in_ok-text.ensures.empty
    c.append_front.ensures.items (c.in_ok-text.ensures.room (pattern_text pattern) c.pattern_size.ensures) c.append_front.ensures.room

pub returns : goal.returns
returns c =
    let pattern = c.args.pattern.now in
    c.append_rows.ensures.items ∙
    whole_text (pattern_front c.size.result c.entries.result) (pair_lines 0 pattern) (pattern_text pattern) c.in_ok-text.text.items c.append_front.new.text.items
    (pattern_whole pattern c.size.result c.entries.result c.size.ensures.size c.entries.ensures) c.in_ok-text.ensures.empty c.append_front.ensures.items
