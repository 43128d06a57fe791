use Rattle.std.proofs.Common.{arith, sym, subst}
use Rattle.scratch_pool.specs.Pools.{AreIdle}
use Rattle.scratch_pool.proofs.Fresh.{fresh_are_idle}
use Rattle.scratch_pool.proofs.pool.deal.Goals as goal

pub returns-clause-idle : goal.returns-clause-idle
returns-clause-idle g c =
    let was = c.loop-number.invariant in
    (omega (arith, was.3, c.loop-number-test.false, c.loop-number.auto.number-end), subst (AreIdle c.args.places.now.table) (sym was.2) (fresh_are_idle c.args.places.now.table c.loop-number.number))
