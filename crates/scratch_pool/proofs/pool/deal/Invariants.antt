use Rattle.std.proofs.Common.{◌≡◌, ◌≤◌, ◌-◌, vec_len, None, []}
use Rattle.std.specs.Vec.{vec_capacity}
use Rattle.scratch_pool.specs.Machine.{view, no_looks}
use Rattle.scratch_pool.specs.Pools.{fresh_passes}
use Rattle.scratch_pool.proofs.pool.deal.Given as goal

abbrev pub invariant-loop-number : goal.invariant-loop-number
invariant-loop-number g l = (l.seat.table_id ≡ l.places.table) × (l.seat.me ≡ (view (l.seats - l.number) l.number None no_looks, [])) × (l.passes.items ≡ fresh_passes l.places.table l.number)
    × (vec_len l.passes ≡ l.number) × (l.seats ≤ vec_capacity l.passes)
