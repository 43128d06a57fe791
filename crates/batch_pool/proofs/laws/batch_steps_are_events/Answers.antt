use Rattle.batch_pool.proofs.Events.{steps_are_events, events_keep_rule}
use Rattle.batch_pool.proofs.laws.batch_steps_are_events.Goals as goal

pub returns-clause-events : goal.returns-clause-events
returns-clause-events c = steps_are_events

pub returns-clause-kept : goal.returns-clause-kept
returns-clause-kept c = events_keep_rule
