use Rattle.std.proofs.lemmas.Slice.Zip.{either_empty_from_Zip}
use Rattle.std.specs.Iterator.Adapters.{zip_first, zip_second}
use Rattle.std.specs.Slice.Iter.{iter_rest}
use Rattle.matrix_market.specs.Parts.{row_text, size_of}
use Rattle.matrix_market.proofs.Pieces.{size_at_end, row_ends}
use Rattle.matrix_market.proofs.matrix_writer.row_size.Goals as goal

pub returns : goal.returns
returns c =
    let columns = iter_rest (zip_first c.loop-column.column-iterator) in
    let values = iter_rest (zip_second c.loop-column.column-iterator) in
    size_at_end c.loop-column.size (size_of (row_text c.args.row c.args.columns.now c.args.values.now)) (row_text c.args.row columns values) c.loop-column.invariant.3
    (row_ends c.args.row columns values (either_empty_from_Zip c.loop-column.column-iterator c.next.new.self c.next.result c.in-None.is c.next.ensures.steps)) c.loop-column.invariant.2
