use Rattle.ordered_pipeline.proofs.States.{starts_new, states_are_ordered}
use Rattle.ordered_pipeline.proofs.laws.pipeline_states_are_ordered.Goals as goal

pub returns-clause-start : goal.returns-clause-start
returns-clause-start g c = starts_new

pub returns-clause-states : goal.returns-clause-states
returns-clause-states g c = states_are_ordered g.J.Job.has_room g.J.Job.stands g.J.Job.step
