use Rattle.scratch_pool.proofs.States.{starts_new, states_are_exclusive}
use Rattle.scratch_pool.proofs.laws.pool_states_are_exclusive.Goals as goal

pub returns-clause-start : goal.returns-clause-start
returns-clause-start g c = starts_new

pub returns-clause-states : goal.returns-clause-states
returns-clause-states g c = states_are_exclusive
