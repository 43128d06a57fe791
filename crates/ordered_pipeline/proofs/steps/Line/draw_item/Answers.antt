use Rattle.std.proofs.Common.{arith, ap, ◌∙◌, ◌≡◌, Some}
use Rattle.ordered_pipeline.proofs.Tied.{drawn_tie, over_tie}
use Rattle.ordered_pipeline.proofs.steps.Line.draw_item.Goals as goal

pub invariant_of-pass : goal.invariant_of-pass
invariant_of-pass g c =
    let i = c.pass.inside in
    over_tie g.J.Job.has_room g.J.Job.stands g.J.Job.step i.copy i.over i.item i.looks c.draw-n.result i.seat.me c.draw-n.new.seat.me c.pass.invariant (ap (λ p. p.over) c.pass.view_is ∙ c.requires.idle.1) (ap (λ p. p.phase) c.pass.view_is ∙ c.requires.idle.0) (c.draw-n.ensures.over c.if-n-self.true)

pub invariant_of-pass-2 : goal.invariant_of-pass-2
invariant_of-pass-2 g c =
    let i = c.pass.inside in
    let key = c.args.self.now.table.shared.key in
    let is-key : i.seat.me.0.key.key ≡ Some key = ap (λ p. p.key) c.pass.view_is ∙ c.requires.pass.1 in
    let lt = c.if-n-self.false in
    drawn_tie g.J.Job.has_room g.J.Job.stands g.J.Job.step i.copy i.over i.item i.looks c.draw-n.result i.seat.me c.draw-n.new.seat.me key c.pass.invariant is-key (ap (λ p. p.over) c.pass.view_is ∙ c.requires.idle.1) (ap (λ p. p.phase) c.pass.view_is ∙ c.requires.idle.0)
    (omega (arith, lt, c.args.self.now.few.0)) (c.draw-n.ensures.item (omega (arith, lt))).1
