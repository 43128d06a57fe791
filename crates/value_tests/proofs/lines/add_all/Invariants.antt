use Rattle.std.proofs.Common.{◌≡◌, length}
use Rattle.value_tests.proofs.lines.add_all.Given as goal

-- the set keeps its size
abbrev pub invariant-loop-k : goal.invariant-loop-k
invariant-loop-k l = length l.set ≡ 24
