use Rattle.std.proofs.Common.{◌≡◌, ◌≤◌, ◌+◌, ◌++◌, map, reverse, vec_len, Some}
use Rattle.std.specs.Vec.{vec_capacity}
use Rattle.scratch_pool.proofs.objects.unwrap_all.Given as goal

abbrev pub invariant-loop-object : goal.invariant-loop-object
invariant-loop-object g l = (map Some l.to.items ++ reverse l.from.items ≡ reverse l.initial.from.items) × (vec_len l.from + vec_len l.to ≤ vec_capacity l.to)

abbrev pub decreases-loop-object : goal.decreases-loop-object
decreases-loop-object g l = vec_len l.from
