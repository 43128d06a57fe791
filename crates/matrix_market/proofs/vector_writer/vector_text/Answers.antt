use Rattle.std.proofs.Common.{map, ◌∙◌}
use Rattle.std.specs.Fmt.{signed_decimal}
use Rattle.matrix_market.specs.Entries.{right_sides}
use Rattle.matrix_market.specs.Texts.{vector_front, vector_text}
use Rattle.matrix_market.proofs.Whole.{vector_whole, vector_length, room_for_front, room_for_rest, whole_text}
use Rattle.matrix_market.proofs.vector_writer.vector_text.Goals as goal

pub append_front-requires : goal.append_front-requires
append_front-requires c =
    let values = right_sides c.args.rows.now in
    room_for_front (vector_front c.size.result) (map signed_decimal values) (vector_text values) c.in_ok-text.text.items c.in_ok-text.text.cap
    (vector_whole values c.size.result (vector_length c.args.rows.now c.size.result c.size.ensures)) c.in_ok-text.ensures.empty
    (c.in_ok-text.ensures.room (vector_text values) c.vector_size.ensures)

pub append_values-requires : goal.append_values-requires
append_values-requires c =
    let values = right_sides c.args.rows.now in
    room_for_rest (vector_front c.size.result) (map signed_decimal values) (vector_text values) c.in_ok-text.text.items c.append_front.new.text.items c.in_ok-text.text.cap
    c.append_front.new.text.cap (vector_whole values c.size.result (vector_length c.args.rows.now c.size.result c.size.ensures)) c.in_ok-text.ensures.empty
    c.append_front.ensures.items (c.in_ok-text.ensures.room (vector_text values) c.vector_size.ensures) c.append_front.ensures.room

pub returns : goal.returns
returns c =
    let values = right_sides c.args.rows.now in
    c.append_values.ensures.items ∙
    whole_text (vector_front c.size.result) (map signed_decimal values) (vector_text values) c.in_ok-text.text.items c.append_front.new.text.items
    (vector_whole values c.size.result (vector_length c.args.rows.now c.size.result c.size.ensures)) c.in_ok-text.ensures.empty c.append_front.ensures.items
