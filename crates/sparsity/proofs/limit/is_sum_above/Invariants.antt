use Rattle.std.proofs.Common.{◌≡◌, ◌+◌, sum, take}
use Rattle.sparsity.proofs.limit.is_sum_above.Given as goal

abbrev pub invariant-loop-count : goal.invariant-loop-count
invariant-loop-count l = l.left + sum (take l.count-index l.counts) ≡ 33554432
