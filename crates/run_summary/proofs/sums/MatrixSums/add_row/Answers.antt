use Rattle.std.specs.Iterator.Adapters.{zip_first, zip_second}
use Rattle.std.specs.Slice.Iter.{iter_rest}
use Rattle.std.proofs.lemmas.List.Elements.{All-rest}
use Rattle.std.proofs.lemmas.Slice.Zip.{Zip-more, either_empty_from_Zip}
use Rattle.run_summary.specs.Summary.{IsSmall}
use Rattle.matrix_market.specs.Entries.{row_entries}
use Rattle.run_summary.proofs.Passes.{first_small, next_count, next_entry, row_end, row_entries-end}
use Rattle.run_summary.proofs.sums.MatrixSums.add_row.Goals as goal

pub loop-column-preserved : goal.loop-column-preserved
loop-column-preserved c =
    let before = c.loop-column.column-iterator in
    let after = c.next.new.self in
    let more = Zip-more before after c.next.result (c.in-Some.column, c.in-Some.value) c.in-Some.is c.next.ensures.steps in (
      (tt, tt),
      tt,
      next_entry c.args.row c.in-Some.column.now c.in-Some.value.now (iter_rest (zip_first before)) (iter_rest (zip_first after)) (iter_rest (zip_second before)) (iter_rest (zip_second after))
          c.loop-column.self c.add_entry.new.self _ more.0 more.1 (first_small (iter_rest (zip_second before)) (iter_rest (zip_second after)) c.in-Some.value.now more.1 c.loop-column.invariant.4) c.add_entry.ensures.sums
          c.loop-column.invariant.2,
      next_count c.in-Some.column.now (iter_rest (zip_first before)) (iter_rest (zip_first after)) _ c.loop-column.self c.add_entry.new.self _ more.0 c.add_entry.ensures.sums c.loop-column.invariant.3,
      All-rest IsSmall c.in-Some.value.now (iter_rest (zip_second after)) (iter_rest (zip_second before)) more.1 c.loop-column.invariant.4,
      c.add_entry.ensures.within,
    )

pub returns-clause-sums : goal.returns-clause-sums
returns-clause-sums c =
    let left = c.loop-column.column-iterator in
    row_end (row_entries c.args.row (iter_rest (zip_first left)) (iter_rest (zip_second left))) c.loop-column.self _
    (row_entries-end c.args.row (iter_rest (zip_first left)) (iter_rest (zip_second left)) (either_empty_from_Zip left c.next.new.self c.next.result c.in-None.is c.next.ensures.steps))
    c.loop-column.invariant.2
