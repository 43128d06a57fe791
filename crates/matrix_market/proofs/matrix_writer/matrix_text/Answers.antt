use Rattle.std.proofs.Common.{map, ◌∙◌, ℕ, List, length, sym, subst, arith}
use Rattle.matrix_market.specs.Entries.{values_of, entries_of}
use Rattle.matrix_market.specs.Texts.{entry_line, matrix_front, matrix_text}
use Rattle.matrix_market.specs.Market.{MatrixText}
use Rattle.matrix_market.proofs.Matrices.{matrix_read_back}
use Rattle.matrix_market.proofs.Whole.{matrix_whole, room_for_front, room_for_rest, whole_text}
use Rattle.matrix_market.proofs.matrix_writer.matrix_text.Goals as goal

pub append_front-requires : goal.append_front-requires
append_front-requires c =
    let pattern = c.args.pattern.now in
    let values = values_of c.args.rows.now in
    room_for_front (matrix_front c.size.result c.entries.result) (map entry_line (entries_of pattern values)) (matrix_text pattern values) c.in_ok-text.text.items c.in_ok-text.text.cap
    (matrix_whole pattern values c.size.result c.entries.result c.size.ensures.size c.entries.ensures) c.in_ok-text.ensures.empty
    (c.in_ok-text.ensures.room (matrix_text pattern values) c.matrix_size.ensures)

pub append_rows-requires-clause-room : goal.append_rows-requires-clause-room
append_rows-requires-clause-room c =
    let pattern = c.args.pattern.now in
    let values = values_of c.args.rows.now in
    room_for_rest (matrix_front c.size.result c.entries.result) (map entry_line (entries_of pattern values)) (matrix_text pattern values) c.in_ok-text.text.items c.append_front.new.text.items
    c.in_ok-text.text.cap c.append_front.new.text.cap (matrix_whole pattern values c.size.result c.entries.result c.size.ensures.size c.entries.ensures) c.in_ok-text.ensures.empty
    c.append_front.ensures.items (c.in_ok-text.ensures.room (matrix_text pattern values) c.matrix_size.ensures) c.append_front.ensures.room

pub returns-clause-text : goal.returns-clause-text
returns-clause-text c =
    let pattern = c.args.pattern.now in
    let values = values_of c.args.rows.now in
    c.append_rows.ensures.items ∙
    whole_text (matrix_front c.size.result c.entries.result) (map entry_line (entries_of pattern values)) (matrix_text pattern values) c.in_ok-text.text.items c.append_front.new.text.items
    (matrix_whole pattern values c.size.result c.entries.result c.size.ensures.size c.entries.ensures) c.in_ok-text.ensures.empty c.append_front.ensures.items

pub returns-clause-read_back : goal.returns-clause-read_back
returns-clause-read_back c =
    let pattern = c.args.pattern.now in
    let values = values_of c.args.rows.now in
    let P : List ℕ → Type 0 = λ text. MatrixText text (record { rows = length pattern; columns = length pattern; entries = entries_of pattern values }) in
    λ range. subst P (sym (returns-clause-text c)) (matrix_read_back pattern values (record {
      size = omega (arith, c.size.ensures.size);
      square = c.size.ensures.square;
      few = c.size.ensures.few;
      fills = c.requires;
      range = range;
    }))
