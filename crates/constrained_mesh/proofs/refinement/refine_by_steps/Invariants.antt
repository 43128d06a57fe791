use Rattle.std.proofs.Common.{take, Ok}
use Rattle.constrained_mesh.specs.Steps.{RefinesBy}
use Rattle.constrained_mesh.proofs.refinement.refine_by_steps.Given as goal

abbrev pub invariant-loop-step : goal.invariant-loop-step
invariant-loop-step l = RefinesBy (take l.step l.problem.steps) l.initial.forest (Ok l.forest)
