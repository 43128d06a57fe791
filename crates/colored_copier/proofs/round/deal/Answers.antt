use Rattle.std.proofs.Common.{arith, ap}
use Rattle.colored_copier.proofs.Ties.{dealt_me}
use Rattle.colored_copier.proofs.round.deal.Goals as goal

pub deal_pass-next-requires-clause-dealer : goal.deal_pass-next-requires-clause-dealer
deal_pass-next-requires-clause-dealer g c κs within =
    let was = c.loop-number.invariant in
    let lt = c.loop-number-test.true in
    (was.0, ap (λ m. m.0.phase) was.1, ap (λ m. m.0.overs) was.1, omega (arith, ap (λ m. m.0.parts) was.1))

pub of-requires-after_bounds : goal.of-requires-after_bounds
of-requires-after_bounds g c κs within = (c.args.table.now.table.shared.key, dealt_me c.loop-number.dealer.me c.deal_pass-next.result.me c.args.table.now.table.shared.key c.deal_pass-next.ensures.both.1 (ap (λ m. m.0.key) c.loop-number.invariant.1))
