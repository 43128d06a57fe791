use Rattle.std.proofs.Common.{arith, ap, ◌<◌, ◌+◌, ◌^◌}
use Rattle.atomic_table.specs.Table.{step}
use mathlib.Core.Option.{none}
use Rattle.ordered_pipeline.proofs.Jobs.{job_draws}
use Rattle.ordered_pipeline.proofs.steps.Line.draw.Goals as goal

pub fetch_add-requires : goal.fetch_add-requires
fetch_add-requires g c =
    let key = c.args.self.now.table.shared.key in
    let few = c.args.self.now.few in
    let small : key.items + key.seats + 1 < 2 ^ 64 = omega (arith, few.0, few.1, few.3) in (
      c.requires.0,
      omega (arith, c.args.self.now.sized.0),
      job_draws g.J.Job.has_room g.J.Job.stands g.J.Job.step key _ _ (step 0 0 0 0 none) c.args.seat.now.me c.requires.2 small c.requires.1 c.requires.4,
    )

pub returns-clause-event : goal.returns-clause-event
returns-clause-event g c =
    let few = c.args.self.now.few in
    let told = c.fetch_add.ensures.2 c.args.self.now.table.shared.key c.requires.2 in
    (c.requires.1, (λ lt. let t = told.0 (omega (arith, lt, few.0)) in (t.0, ap (λ m. m.0) t.1)), λ le. ap (λ m. m.0) (told.1 (omega (arith, le, few.0))))
