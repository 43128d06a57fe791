use Rattle.scratch_pool.specs.Pools.{IsIdleAt}
use Rattle.machine_tests.proofs.borrowing.borrow.Given as goal

abbrev pub invariant-loop : goal.invariant-loop
invariant-loop l = IsIdleAt l.pool.table l.pass
