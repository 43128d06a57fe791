use Rattle.std.proofs.Common.{arith, ◌∙◌}
use Rattle.atomic_table.specs.Table.{step}
use mathlib.Core.Option.{none}
use Rattle.ordered_pipeline.proofs.Jobs.{finish_step}
use Rattle.ordered_pipeline.proofs.steps.Line.finish.Goals as goal

pub swap-found-requires : goal.swap-found-requires
swap-found-requires g c =
    let few = c.args.self.now.few in
    let sized = c.args.self.now.sized in
    let seat = c.requires.seat in
    let e = c.exchange.ensures in (
      e.0 ∙ seat.0,
      omega (arith, sized.0, sized.2),
      finish_step g.J.Job.has_room g.J.Job.stands g.J.Job.step c.args.self.now.table.shared.key _ _ c.args.n c.args.self.now.queue (step 0 0 0 0 none) c.args.seat.now.me c.exchange.new.seat.me c.args.copy seat.1 seat.2 seat.3 few.2 sized.2 e.3 c.requires.copy.0 c.requires.copy.1,
    )
