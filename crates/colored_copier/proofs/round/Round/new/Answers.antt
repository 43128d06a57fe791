use Rattle.std.proofs.Common.{ap, map, refl, subst}
use Rattle.colored_copier.specs.Places.{ArePlaced}
use Rattle.colored_copier.specs.Plans.{row_number}
use Rattle.colored_copier.proofs.Dones.{begins, made_sound}
use Rattle.colored_copier.proofs.round.Round.new.Goals as goal

pub new-requires-clause-rule : goal.new-requires-clause-rule
new-requires-clause-rule g c κs within = begins g.J.RowJob.count g.J.RowJob.rows_of g.J.RowJob.fits g.J.RowJob.row_step _ c.args.job.now c.args.rows.items c.args.rows.items c.of-2.ensures (ap (λ v. v.items) c.of-3.ensures) refl c.items-items.ensures c.requires.suits

pub of-requires-in-Ok-new-clause-sound : goal.of-requires-in-Ok-new-clause-sound
of-requires-in-Ok-new-clause-sound g c κs within =
    let made = c.in-Ok-new.ensures.ok in
    let placed = subst (λ l. ArePlaced (g.J.RowJob.rows_of c.args.job.now) (map row_number l) (g.J.RowJob.count c.args.job.now) c.in-Ok.field-0.places) c.deref.ensures.value c.in-Ok.ensures.places in
    made_sound g.J.RowJob.count g.J.RowJob.rows_of g.J.RowJob.fits g.J.RowJob.row_step _ _ c.args.job.now c.args.rows.items _ _ made.0 c.of-2.ensures (ap (λ v. v.items) c.of-3.ensures) c.items-items.ensures refl c.requires.seats.1 placed c.requires.suits
