use Rattle.std.proofs.Common.{◌≡◌, ◌+◌, take}
use Rattle.sparsity.specs.Coupled.{squares_of}
use Rattle.sparsity.proofs.limit.may_pass.Given as goal

abbrev pub invariant-loop-k : goal.invariant-loop-k
invariant-loop-k l = l.left + (l.size + squares_of (take l.k l.lists)) ≡ 33554432
