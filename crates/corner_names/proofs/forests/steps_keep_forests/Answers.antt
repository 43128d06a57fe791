use Rattle.corner_names.proofs.Active.{step_forest}
use Rattle.corner_names.proofs.Start.{coarse_forest}
use Rattle.corner_names.proofs.forests.steps_keep_forests.Goals as goal

pub returns : goal.returns
returns c = record { start = coarse_forest; step = step_forest }
