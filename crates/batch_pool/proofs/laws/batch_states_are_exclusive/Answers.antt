use Rattle.batch_pool.proofs.States.{starts_new, states_are_exclusive}
use Rattle.batch_pool.proofs.laws.batch_states_are_exclusive.Goals as goal

pub returns-clause-start : goal.returns-clause-start
returns-clause-start c = starts_new

pub returns-clause-states : goal.returns-clause-states
returns-clause-states c = states_are_exclusive
