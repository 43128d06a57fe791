use Rattle.std.proofs.Common.{arith, ap, sym, subst, ◌∙◌, ◌≡◌, ◌<◌, ◌≤◌, Some}
use Rattle.colored_copier.proofs.Ties.{claimed_tie, over_tie}
use Rattle.colored_copier.specs.Phases.{NotOver, IsOver}
use Rattle.colored_copier.proofs.round.Round.claim.Goals as goal

pub invariant_of-pass : goal.invariant_of-pass
invariant_of-pass g c =
    let i = c.pass.inside in
    let key = c.self.inside.table.table.shared.key in
    let has-key : i.seat.me.0.key ≡ Some key = ap (λ p. p.key) c.pass.view_is ∙ (c.requires.pass.1 ∙ ap (λ r. Some r.key) (sym c.self.view_is)) in
    let n = c.claim_number-number.result in
    let lt : n < key.items = omega (arith, c.if-number-self.true, c.self.invariant.0.items_is) in
    (claimed_tie g.J.RowJob.rows_of g.J.RowJob.row_step i.written i.seat.me c.claim_number-number.new.seat.me key n c.pass.invariant.0 has-key (subst (λ p. NotOver p.phase) (sym c.pass.view_is) c.requires.ready.1) lt (c.claim_number-number.ensures.item lt).0, subst NotOver (sym (ap (λ m. m.0.phase) (c.claim_number-number.ensures.item lt).0)) tt)

pub invariant_of-pass-else-number-self : goal.invariant_of-pass-else-number-self
invariant_of-pass-else-number-self g c =
    let i = c.pass.inside in
    let key = c.self.inside.table.table.shared.key in
    let has-key : i.seat.me.0.key ≡ Some key = ap (λ p. p.key) c.pass.view_is ∙ (c.requires.pass.1 ∙ ap (λ r. Some r.key) (sym c.self.view_is)) in
    let n = c.claim_number-number.result in
    let le : key.items ≤ n = omega (arith, c.if-number-self.false, c.self.invariant.0.items_is) in
    (over_tie g.J.RowJob.rows_of g.J.RowJob.row_step i.written i.seat.me c.claim_number-number.new.seat.me key n c.pass.invariant.0 has-key (subst (λ p. NotOver p.phase) (sym c.pass.view_is) c.requires.ready.1) (ap (λ p. p.written) c.pass.view_is ∙ c.requires.ready.0) (c.claim_number-number.ensures.over le), subst IsOver (sym (ap (λ m. m.0.phase) (c.claim_number-number.ensures.over le))) tt)
