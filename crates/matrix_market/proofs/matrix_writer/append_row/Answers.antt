use Rattle.std.proofs.lemmas.Slice.Zip.{either_empty_from_Zip}
use Rattle.std.specs.Iterator.Adapters.{zip_first, zip_second}
use Rattle.std.specs.Slice.Iter.{iter_rest}
use Rattle.matrix_market.proofs.Pieces.{at_end, row_ends}
use Rattle.matrix_market.proofs.matrix_writer.append_row.Goals as goal

pub returns-clause-items : goal.returns-clause-items
returns-clause-items c =
    at_end _ _ _ c.loop-column.invariant.2
    (row_ends c.args.row (iter_rest (zip_first c.loop-column.column-iterator)) (iter_rest (zip_second c.loop-column.column-iterator))
    (either_empty_from_Zip c.loop-column.column-iterator c.next.new.self c.next.result c.in-None.is c.next.ensures.steps))
