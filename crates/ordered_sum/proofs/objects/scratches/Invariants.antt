use Rattle.std.proofs.Common.{◌≡◌, vec_len}
use Rattle.ordered_sum.proofs.objects.scratches.Given as goal

abbrev pub invariant-loop-k : goal.invariant-loop-k
invariant-loop-k l = vec_len l.made ≡ l._k
