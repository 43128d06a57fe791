use Rattle.std.proofs.Common.{◌≡◌, ◌≤◌, ◌+◌, ◌++◌, reverse, vec_len}
use Rattle.std.specs.Vec.{vec_capacity}
use Rattle.colored_sum.proofs.heap_rows.unbox_all.Given as goal

abbrev pub invariant-loop-number : goal.invariant-loop-number
invariant-loop-number l = (l.rows.items ++ reverse l.held.items ≡ reverse l.initial.held.items) × (vec_len l.held + vec_len l.rows ≤ vec_capacity l.rows)

abbrev pub decreases-loop-number : goal.decreases-loop-number
decreases-loop-number l = vec_len l.held
