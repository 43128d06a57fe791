use Rattle.std.proofs.Common.{◌≡◌, ◌≤◌, ◌+◌, vec_len}
use Rattle.std.specs.List.{All}
use Rattle.std.specs.Vec.{vec_capacity}
use Rattle.scratch_pool.specs.Pools as pools
use Rattle.ordered_pipeline.specs.Fresh.{AreFresh}
use Rattle.ordered_pipeline.specs.Hands.{IsReady}
use Rattle.ordered_pipeline.proofs.crew.hand_out.Given as goal

abbrev pub invariant-loop-pass : goal.invariant-loop-pass
invariant-loop-pass g l = AreFresh l.pipeline.table l.pipeline.key l.passes.items × pools.AreIdle l.pool.table l.seats.items
    × (vec_len l.seats ≡ vec_len l.passes) × (vec_len l.passes + vec_len l.hands ≡ vec_len l.initial.passes) × (vec_len l.initial.passes ≤ vec_capacity l.hands)
    × (vec_capacity l.passes ≡ vec_capacity l.initial.passes) × (vec_capacity l.seats ≡ vec_capacity l.initial.seats)
    × All (λ h. IsReady l.pipeline.table l.pipeline.key l.pool.table h.pass h.scratch) l.hands.items

abbrev pub decreases-loop-pass : goal.decreases-loop-pass
decreases-loop-pass g l = vec_len l.passes
