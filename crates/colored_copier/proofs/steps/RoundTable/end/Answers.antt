use Rattle.std.proofs.Common.{sym, subst}
use Rattle.colored_copier.specs.Conditions.{Worked}
use Rattle.colored_copier.proofs.Dones.{closes}
use Rattle.colored_copier.proofs.steps.RoundTable.end.Goals as goal

pub returns : goal.returns
returns g c =
    let key = c.args.self.table.shared.key in
    subst (Worked g.J.RowJob.count g.J.RowJob.rows_of g.J.RowJob.row_step key.job.value key.rows.value.items) (sym c.take_all.ensures)
    (closes g.J.RowJob.count g.J.RowJob.rows_of g.J.RowJob.fits g.J.RowJob.row_step key _ c.args.seat.me.0 _ _ c.requires.suits c.requires.items c.requires.seat.1 c.requires.seat.3 c.requires.seat.2 c.close_with.ensures.values.2)
