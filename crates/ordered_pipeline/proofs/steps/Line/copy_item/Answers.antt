use Rattle.std.proofs.Common.{ap, ◌∙◌}
use Rattle.ordered_pipeline.proofs.Tied.{rested_tie, next_tie}
use Rattle.ordered_pipeline.proofs.steps.Line.copy_item.Goals as goal

pub invariant_of-pass : goal.invariant_of-pass
invariant_of-pass g c =
    let i = c.pass.inside in
    rested_tie g.J.Job.has_room g.J.Job.stands g.J.Job.step i.copy i.over i.item i.looks c.requires.baton.0 i.seat.me c.copy_next.new.seat.me c.pass.invariant (ap (λ p. p.phase) c.pass.view_is ∙ c.requires.baton.1) c.if-not-copy_next.ensures.found

pub invariant_of-pass-2 : goal.invariant_of-pass-2
invariant_of-pass-2 g c =
    let i = c.pass.inside in
    next_tie g.J.Job.has_room g.J.Job.stands g.J.Job.step i.copy i.over i.item i.looks c.requires.baton.0 i.seat.me c.copy_next.new.seat.me c.args.self.now.table.shared.key c.pass.invariant (ap (λ p. p.phase) c.pass.view_is ∙ c.requires.baton.1) c.if-not-copy_next.ensures.found
