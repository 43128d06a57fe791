use Rattle.std.proofs.Common.{map, ◌∙◌, refl, length}
use Rattle.std.specs.Fmt.{signed_decimal}
use Rattle.matrix_market.specs.Texts.{vector_front, vector_text}
use Rattle.matrix_market.proofs.Whole.{vector_whole, room_for_front, room_for_rest, whole_text}
use Rattle.matrix_market.proofs.vector_writer.values_text.Goals as goal

pub append_front-requires : goal.append_front-requires
append_front-requires c =
    let values = c.args.list.now in
    room_for_front (vector_front (length values)) (map signed_decimal values) (vector_text values) c.in_ok-text.text.items c.in_ok-text.text.cap
    (vector_whole values (length values) refl) c.in_ok-text.ensures.empty (c.in_ok-text.ensures.room (vector_text values) c.list_size.ensures)

pub append_list-requires : goal.append_list-requires
append_list-requires c =
    let values = c.args.list.now in
    room_for_rest (vector_front (length values)) (map signed_decimal values) (vector_text values) c.in_ok-text.text.items c.append_front.new.text.items c.in_ok-text.text.cap
    c.append_front.new.text.cap (vector_whole values (length values) refl) c.in_ok-text.ensures.empty c.append_front.ensures.items
    (c.in_ok-text.ensures.room (vector_text values) c.list_size.ensures) c.append_front.ensures.room

pub returns : goal.returns
returns c =
    let values = c.args.list.now in
    c.append_list.ensures.items ∙
    whole_text (vector_front (length values)) (map signed_decimal values) (vector_text values) c.in_ok-text.text.items c.append_front.new.text.items
    (vector_whole values (length values) refl) c.in_ok-text.ensures.empty c.append_front.ensures.items
