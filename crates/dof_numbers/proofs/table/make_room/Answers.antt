use Rattle.std.proofs.Common.{arith}
use Rattle.dof_numbers.proofs.table.make_room.Goals as goal

pub returns-clause-size : goal.returns-clause-size
returns-clause-size c = let e = c.loop.invariant.len in let h = c.loop.invariant.few in omega (arith, e, h)
