use Rattle.scratch_pool.proofs.Events.{tries_are_events, returns_are_events, splits_are_events, joins_are_events}
use Rattle.scratch_pool.proofs.laws.pool_steps_are_events.Goals as goal

pub returns : goal.returns
returns g c = (tries_are_events, returns_are_events, splits_are_events, joins_are_events)
