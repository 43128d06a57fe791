use Rattle.std.proofs.Common.{ap, sym, subst, ◌∙◌, ◌≡◌, Some}
use Rattle.ordered_pipeline.specs.declared.view.Phase.TheVariants.{Drawn}
use Rattle.ordered_pipeline.specs.Passes.{Ties}
use Rattle.ordered_pipeline.proofs.Tied.{drawn_here, started_tie, waiting_tie}
use Rattle.ordered_pipeline.proofs.steps.Line.start_item.Goals as goal

pub invariant_of-pass : goal.invariant_of-pass
invariant_of-pass g c =
    let i = c.pass.inside in
    let key = c.args.self.now.table.shared.key in
    let is-key : i.seat.me.0.key.key ≡ Some key = ap (λ p. p.key) c.pass.view_is ∙ c.requires.pass.1 in
    let f = c.in-Ok.ensures.found in
    let was : i.seat.me.0.phase ≡ Drawn c.requires.drawn.0 = ap (λ p. p.phase) c.pass.view_is ∙ c.requires.drawn.1 in
    let ph : i.seat.me.0.phase ≡ Drawn i.item = was ∙ ap Drawn (drawn_here g.J.Job.has_room g.J.Job.stands g.J.Job.step i.copy i.over i.item i.looks c.requires.drawn.0 i.seat.me c.pass.invariant was).2 in
    subst (λ o. Ties g.J.Job.has_room g.J.Job.stands g.J.Job.step o i.over i.item i.looks c.try_start.new.seat.me) (sym c.put.ensures)
    (started_tie g.J.Job.has_room g.J.Job.stands g.J.Job.step i.copy i.over i.item i.looks i.item f.1.0 c.args.self.now.queue i.seat.me c.try_start.new.seat.me key c.in-Ok.copy c.pass.invariant is-key ph c.args.self.now.few.2 f.1.3)

pub invariant_of-pass-in-Err : goal.invariant_of-pass-in-Err
invariant_of-pass-in-Err g c =
    let i = c.pass.inside in
    let was : i.seat.me.0.phase ≡ Drawn c.requires.drawn.0 = ap (λ p. p.phase) c.pass.view_is ∙ c.requires.drawn.1 in
    let ph : i.seat.me.0.phase ≡ Drawn i.item = was ∙ ap Drawn (drawn_here g.J.Job.has_room g.J.Job.stands g.J.Job.step i.copy i.over i.item i.looks c.requires.drawn.0 i.seat.me c.pass.invariant was).2 in
    waiting_tie g.J.Job.has_room g.J.Job.stands g.J.Job.step i.copy i.over i.item i.looks c.saturating_add-pass-inside.result i.item c.in-Err.c i.seat.me c.try_start.new.seat.me c.pass.invariant ph c.saturating_add-pass-inside.ensures c.in-Err.ensures.found.2
