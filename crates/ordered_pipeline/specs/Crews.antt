-- The crew of a run: a pipeline and a pool, and the hands of its workers.
use Rattle.std.specs.Prelude.{◌≡◌, ◌<◌, ◌≤◌, [], vec_len}
use Rattle.std.specs.Vec.{vec_capacity}
use Rattle.ordered_pipeline.specs.declared.crew.Crew.{Crew}

module _ {J Scratch C S : Type 0} where
  -- each seat of the pipeline and of the pool is with a hand, and there is room to take it back
  pub record IsManned (crew : Crew J Scratch C S) : Type 0 where
    pub some : 0 < crew.pipeline.key.seats
    pub pool : crew.pool.seats ≡ crew.pipeline.key.seats
    pub hands : vec_len crew.hands ≡ crew.pipeline.key.seats
    pub passes : (crew.passes.items ≡ []) × (crew.pipeline.key.seats ≤ vec_capacity crew.passes)
    pub seats : (crew.seats.items ≡ []) × (crew.pipeline.key.seats ≤ vec_capacity crew.seats)
