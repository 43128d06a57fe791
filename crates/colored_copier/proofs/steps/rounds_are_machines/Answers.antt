use Rattle.colored_copier.proofs.Machines.{starts_fresh, states, claims_shown, splits_shown, joins_shown}
use Rattle.colored_copier.proofs.steps.rounds_are_machines.Goals as goal

pub returns-clause-start : goal.returns-clause-start
returns-clause-start g c = starts_fresh

pub returns-clause-states : goal.returns-clause-states
returns-clause-states g c = states

pub returns-clause-claims : goal.returns-clause-claims
returns-clause-claims g c = claims_shown

pub returns-clause-splits : goal.returns-clause-splits
returns-clause-splits g c = splits_shown

pub returns-clause-joins : goal.returns-clause-joins
returns-clause-joins g c = joins_shown
