use Rattle.std.proofs.Common.{ap, sym, subst, ◌∙◌, ◌≡◌, Some, MatchBool}
use Rattle.colored_copier.specs.declared.view.Phase.TheVariants.{Claimed}
use Rattle.colored_copier.specs.Phases.{NotOver, IsOver}
use Rattle.colored_copier.proofs.Ties.{written_tie}
use Rattle.colored_copier.proofs.round.Round.write_rows.Goals as goal

pub invariant_of-pass : goal.invariant_of-pass
invariant_of-pass g c =
    let i = c.pass.inside in
    let key = c.self.inside.table.table.shared.key in
    let has-key : i.seat.me.0.key ≡ Some key = ap (λ p. p.key) c.pass.view_is ∙ (c.requires.pass.1 ∙ ap (λ r. Some r.key) (sym c.self.view_is)) in
    let at : i.seat.me.0.phase ≡ Claimed c.item-item.result = ap (λ p. p.phase) c.pass.view_is ∙ (c.requires.item.0 ∙ ap Claimed (sym c.item-item.ensures)) in
    (written_tie g.J.RowJob.rows_of g.J.RowJob.row_step i.written i.seat.me c.write_all.new.seat.me key c.item-item.result c.pass.invariant.0 has-key at c.write_all.ensures.me, subst (λ p. MatchBool i.over (IsOver p) (NotOver p)) (sym (ap (λ m. m.0.phase) c.write_all.ensures.me)) c.pass.invariant.1)
