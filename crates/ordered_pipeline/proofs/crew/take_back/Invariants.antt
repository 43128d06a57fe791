use Rattle.std.proofs.Common.{◌≡◌, ◌≤◌, ◌+◌, true, vec_len}
use Rattle.std.specs.List.{All}
use Rattle.std.specs.Vec.{vec_capacity}
use Rattle.scratch_pool.specs.Pools as pools
use Rattle.ordered_pipeline.specs.Ending.{AreIdle}
use Rattle.ordered_pipeline.specs.Hands.{IsFinished}
use Rattle.ordered_pipeline.proofs.crew.take_back.Given as goal

abbrev pub invariant-loop-hand : goal.invariant-loop-hand
invariant-loop-hand g l = All (λ h. IsFinished l.pipeline.table l.pipeline.key l.pool.table h.pass h.scratch) l.hands.items
    × AreIdle l.pipeline.table l.passes.items × All (λ p. p.over ≡ true) l.passes.items × pools.AreIdle l.pool.table l.seats.items
    × (vec_len l.hands + vec_len l.passes ≡ vec_len l.initial.hands) × (vec_len l.seats ≡ vec_len l.passes) × (vec_len l.initial.hands ≤ vec_capacity l.passes) × (vec_len l.initial.hands ≤ vec_capacity l.seats)

abbrev pub decreases-loop-hand : goal.decreases-loop-hand
decreases-loop-hand g l = vec_len l.hands
