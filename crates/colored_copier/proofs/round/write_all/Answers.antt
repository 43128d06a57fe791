use Rattle.std.proofs.Common.{arith, ◌∙◌, ◌≡◌, ◌+◌, suc, ℕ}
use Rattle.colored_copier.proofs.Rows.{row_ready, row_done, all_done, row_named, row_at_index, row_among}
use Rattle.colored_copier.proofs.round.write_all.Goals as goal

one_more : (n : ℕ) → suc n ≡ n + 1
one_more n = omega arith

pub write_row-requires-clause-seat : goal.write_row-requires-clause-seat
write_row-requires-clause-seat g c κs within =
    let was = c.loop-i.invariant in (
      was.0 ∙ c.requires.seat.0,
      row_ready g.J.RowJob.count g.J.RowJob.rows_of g.J.RowJob.fits g.J.RowJob.row_step c.args.table.now.table.shared.key c.args.job.now c.args.item c.loop-i.i c.rows-rows.result.now c.args.seat.now.me.0 c.loop-i.seat.me c.requires.job.0 c.requires.table c.requires.job.1 c.rows-rows.ensures c.loop-i-test.true was.1,
    )

pub write_row-requires-clause-job : goal.write_row-requires-clause-job
write_row-requires-clause-job g c κs within = (c.requires.job.0, c.requires.job.1, row_named g.J.RowJob.count g.J.RowJob.rows_of g.J.RowJob.fits g.J.RowJob.row_step c.args.job.now c.args.item c.loop-i.i c.rows-rows.result.now c.rows-rows.ensures c.loop-i-test.true, c.requires.job.2)

pub row_place-place-requires-clause-row : goal.row_place-place-requires-clause-row
row_place-place-requires-clause-row g c κs within =
    row_at_index g.J.RowJob.count g.J.RowJob.rows_of g.J.RowJob.fits g.J.RowJob.row_step c.args.job.now c.args.item c.loop-i.i c.rows-rows.result.now c.rows-rows.ensures c.loop-i-test.true

pub row_place-place-requires-clause-among : goal.row_place-place-requires-clause-among
row_place-place-requires-clause-among g c κs within =
    row_among g.J.RowJob.count g.J.RowJob.rows_of g.J.RowJob.fits g.J.RowJob.row_step c.args.table.now.table.shared.key c.args.job.now c.args.item c.loop-i.i c.rows-rows.result.now c.requires.job.0 c.requires.table c.requires.job.1 c.rows-rows.ensures c.loop-i-test.true

pub loop-i-preserved : goal.loop-i-preserved
loop-i-preserved g c =
    let was = c.loop-i.invariant in (
      c.write_row.ensures.same ∙ was.0,
      row_done g.J.RowJob.count g.J.RowJob.rows_of g.J.RowJob.fits g.J.RowJob.row_step c.args.table.now.table.shared.key c.args.job.now c.args.item c.loop-i.i _ c.rows-rows.result.now c.args.seat.now.me.0 c.loop-i.seat.me c.write_row.new.seat.me c.requires.job.0 c.requires.table c.requires.job.1 c.rows-rows.ensures c.loop-i-test.true (one_more c.loop-i.i) was.1 c.write_row.ensures.me,
    )

pub returns-clause-me : goal.returns-clause-me
returns-clause-me g c = all_done g.J.RowJob.count g.J.RowJob.rows_of g.J.RowJob.fits g.J.RowJob.row_step c.args.table.now.table.shared.key c.args.job.now c.args.item c.loop-i.i c.rows-rows.result.now c.args.seat.now.me.0 c.loop-i.seat.me c.requires.job.0 c.requires.table c.requires.job.1 c.rows-rows.ensures (omega (arith, c.loop-i-test.false, c.loop-i.auto.i-end)) c.loop-i.invariant.1
