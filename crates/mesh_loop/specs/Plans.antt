-- Plans within their ranges.
use Rattle.std.specs.Prelude.{◌<◌, ◌≤◌}
use Rattle.mesh_loop.specs.declared.plan.Plan.{Plan}

pub record IsWithinRanges (plan : Plan) : Type 0 where
  pub workers : (0 < plan.workers) × (plan.workers ≤ 64)
  pub queue : (0 < plan.queue) × (plan.queue ≤ 256)
  pub chunk : (0 < plan.chunk) × (plan.chunk ≤ 64)
  pub scratch : (0 < plan.scratch) × (plan.scratch ≤ 64)
  pub digits : plan.digits ≤ 64
