use Rattle.ordered_pipeline.proofs.Events.{draws_are_events, looks_are_events, finishes_are_events, advances_are_events, passes_are_events, splits_are_events, joins_are_events}
use Rattle.ordered_pipeline.proofs.laws.pipeline_steps_are_events.Goals as goal

pub returns : goal.returns
returns g c =
    let room = g.J.Job.has_room in
    let stands = g.J.Job.stands in
    let step = g.J.Job.step in
    (draws_are_events room stands step, looks_are_events room stands step, finishes_are_events room stands step, advances_are_events room stands step, passes_are_events room stands step, splits_are_events room stands step, joins_are_events room stands step)
