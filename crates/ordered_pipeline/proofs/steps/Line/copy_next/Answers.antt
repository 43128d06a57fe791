use Rattle.std.proofs.Common.{arith, ap, ◌∙◌}
use Rattle.atomic_table.specs.Table.{step}
use mathlib.Core.Option.{none}
use Rattle.ordered_pipeline.proofs.Jobs.{advance_step, pass_step, copied_found}
use Rattle.ordered_pipeline.proofs.steps.Line.copy_next.Goals as goal

pub store-requires : goal.store-requires
store-requires g c =
    let self = c.args.self.now in
    let taken = c.take_both-copy.ensures in (
      c.put_both.ensures.0 ∙ (taken.seat.0 ∙ c.requires.seat.0),
      omega (arith, self.sized.0),
      advance_step g.J.Job.has_room g.J.Job.stands g.J.Job.step self.table.shared.key _ _ c.args.n self.queue c.place-place.result (step 0 0 0 0 none) c.args.seat.now.me c.take_both-copy.new.seat.me c.put_both.new.seat.me _
          c.take_both-copy.result.0 c.take_both-copy.result.1 c.copy.new.state c.requires.seat.1 taken.values taken.seat.1 c.put_both.ensures.1 self.few.2 self.sized.2 c.place-place.ensures.0,
    )

pub swap-found-requires : goal.swap-found-requires
swap-found-requires g c =
    let self = c.args.self.now in
    let taken = c.take_both-copy.ensures in (
      c.store.ensures.0 ∙ (c.put_both.ensures.0 ∙ (taken.seat.0 ∙ c.requires.seat.0)),
      omega (arith, self.sized.0, c.place-next.ensures.1),
      pass_step g.J.Job.has_room g.J.Job.stands g.J.Job.step self.table.shared.key _ _ c.args.n self.queue c.place-place.result c.place-next.result (step 0 0 0 0 none) (step 0 0 0 0 none) c.args.seat.now.me c.take_both-copy.new.seat.me c.put_both.new.seat.me c.store.new.seat.me _
          c.take_both-copy.result.0 c.take_both-copy.result.1 c.copy.new.state c.requires.seat.1 taken.values taken.seat.1 c.put_both.ensures.1 self.few.2 self.sized.2
          (c.copy.ensures ∙ ap (λ j. g.J.Job.step j c.take_both-copy.result.1 c.args.n) c.requires.job.0) c.store.ensures.2 c.place-next.ensures.0,
    )

pub returns-clause-found : goal.returns-clause-found
returns-clause-found g c =
    let self = c.args.self.now in
    let taken = c.take_both-copy.ensures in
    (copied_found g.J.Job.has_room g.J.Job.stands g.J.Job.step self.table.shared.key c.args.n self.queue c.swap-found.result c.place-place.result (step 0 0 0 0 none) (step 0 0 0 0 none) c.args.seat.now.me c.take_both-copy.new.seat.me c.put_both.new.seat.me c.store.new.seat.me c.swap-found.new.seat.me _
    c.take_both-copy.result.0 c.take_both-copy.result.1 c.copy.new.state c.requires.seat.1 taken.values taken.seat.1 c.put_both.ensures.1 self.few.2
    (c.copy.ensures ∙ ap (λ j. g.J.Job.step j c.take_both-copy.result.1 c.args.n) c.requires.job.0) c.store.ensures.2 c.swap-found.ensures.2).0 (omega (arith, c.if-found-n.false))
