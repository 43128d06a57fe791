-- The ranges of what the words ask for.
use Rattle.std.specs.Prelude.{◌<◌, ◌≤◌}
use Rattle.run_words.specs.declared.options.Plan.{Plan}
use Rattle.run_words.specs.Choice.{greatest_degree, Source, texts, generated, Choice}

-- a grid has 1 to 512 cells in a row
abbrev pub IsOfSize : Source → Type 0
IsOfSize (texts mesh format problem) = Unit {0}
IsOfSize (generated n seed) = (0 < n) × (n ≤ 512)

-- 1 to 64 workers, 1 to 256 places, 1 to 64 cells in a piece, 1 to 64 scratch objects
pub record IsPlan (plan : Plan) : Type 0 where
  pub workers : (0 < plan.workers) × (plan.workers ≤ 64)
  pub queue : (0 < plan.queue) × (plan.queue ≤ 256)
  pub chunk : (0 < plan.chunk) × (plan.chunk ≤ 64)
  pub scratch : (0 < plan.scratch) × (plan.scratch ≤ 64)

pub record IsWithinRanges (choice : Choice) : Type 0 where
  pub source : IsOfSize choice.source
  pub plan : IsPlan choice.plan
  pub digits : choice.digits ≤ 64
  pub degree : (0 < choice.degree) × (choice.degree ≤ greatest_degree choice.mode)
