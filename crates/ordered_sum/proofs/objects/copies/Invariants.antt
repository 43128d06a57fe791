use Rattle.std.proofs.Common.{◌≡◌, length, vec_len}
use Rattle.std.specs.List.{All}
use Rattle.ordered_sum.proofs.objects.copies.Given as goal

abbrev pub invariant-loop-k : goal.invariant-loop-k
invariant-loop-k l = record {
  count : vec_len l.made ≡ l._k;
  room : All (λ copy. length copy ≡ l.chunk) l.made.items;
}
