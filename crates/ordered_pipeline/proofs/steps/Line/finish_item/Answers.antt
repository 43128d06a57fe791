use Rattle.std.proofs.Common.{rules, arith, ap, sym, subst, refl, ◌∙◌, ◌≡◌, ◌<◌, ◌≤◌, ◌+◌, ◌%◌, ◌∷◌, [], Some, None}
use Rattle.ordered_pipeline.specs.declared.view.Phase.TheVariants.{Started}
use Rattle.ordered_pipeline.specs.Passes.{Ties}
use Rattle.ordered_pipeline.proofs.Tied.{started_here, finished_tie, left_tie}
use Rattle.ordered_pipeline.specs.declared.view.Cargo.TheVariants as cargo
use Rattle.ordered_pipeline.proofs.steps.Line.finish_item.Goals as goal

pub invariant_of-pass : goal.invariant_of-pass
invariant_of-pass g c =
    let i = c.pass.inside in
    subst (λ o. Ties g.J.Job.has_room g.J.Job.stands g.J.Job.step o i.over i.item i.looks c.finish.new.seat.me) (sym c.take.ensures.after)
    (left_tie g.J.Job.has_room g.J.Job.stands g.J.Job.step i.copy i.over i.item i.looks i.seat.me c.finish.new.seat.me c.pass.invariant c.if-not-finish.ensures.found)

pub invariant_of-pass-2 : goal.invariant_of-pass-2
invariant_of-pass-2 g c =
    let i = c.pass.inside in
    let key = c.args.self.now.table.shared.key in
    let is-key : i.seat.me.0.key.key ≡ Some key = ap (λ p. p.key) c.pass.view_is ∙ c.requires.pass.1 in
    let ph : i.seat.me.0.phase ≡ Started c.item-n.result = ap (λ p. p.phase) c.pass.view_is ∙ (c.requires.worked.0 ∙ ap Started (sym c.item-n.ensures)) in
    subst (λ o. Ties g.J.Job.has_room g.J.Job.stands g.J.Job.step o i.over i.item i.looks c.finish.new.seat.me) (sym c.take.ensures.after)
    (finished_tie g.J.Job.has_room g.J.Job.stands g.J.Job.step i.copy i.over i.item i.looks c.item-n.result i.seat.me c.finish.new.seat.me key c.pass.invariant is-key ph c.if-not-finish.ensures.found)

pub finish-requires-clause-seat : goal.finish-requires-clause-seat
finish-requires-clause-seat g c κs within =
    let i = c.pass.inside in
    let key = c.args.self.now.table.shared.key in
    let is-key : i.seat.me.0.key.key ≡ Some key = ap (λ p. p.key) c.pass.view_is ∙ c.requires.pass.1 in
    let ph : i.seat.me.0.phase ≡ Started c.item-n.result = ap (λ p. p.phase) c.pass.view_is ∙ (c.requires.worked.0 ∙ ap Started (sym c.item-n.ensures)) in
    let h = started_here g.J.Job.has_room g.J.Job.stands g.J.Job.step i.copy i.over i.item i.looks c.item-n.result i.seat.me key c.pass.invariant is-key ph in
    (ap (λ p. p.table) c.pass.view_is ∙ c.requires.pass.0, ph, is-key, h.0 ∙ ap (λ (q : Rattle.std.proofs.Common.ℕ). (c.item-n.result % q, cargo.Out) ∷ []) c.args.self.now.few.2, omega (arith, h.1, c.args.self.now.few.0))
