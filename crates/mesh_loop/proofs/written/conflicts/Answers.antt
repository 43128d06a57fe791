use Rattle.std.proofs.Common.{ap, length, arith}
use Rattle.std.proofs.lemmas.List.FromFn.{length-map-range_with_len}
use Rattle.mesh_loop.specs.Setup.{written_rows}
use Rattle.mesh_loop.proofs.Gathering.{rows_more}
use Rattle.mesh_loop.proofs.written.conflicts.Goals as goal

pub add-requires : goal.add-requires
add-requires c =
    let count = length-map-range_with_len (written_rows c.args.setup.now) 0 c.loop-cell.cell in
    let same = ap length c.loop-cell.invariant in
    omega (arith, c.loop-cell-test.true, c.cells-cell-end.type_inv, count, same)

pub loop-cell-preserved : goal.loop-cell-preserved
loop-cell-preserved c =
    rows_more c.args.setup.now c.loop-cell.cell c.rows.result.now c.loop-cell.conflicts c.add.new.self c.rows.ensures.value c.loop-cell.invariant c.in_ok-add.ensures.added
