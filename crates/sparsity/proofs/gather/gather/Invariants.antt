use Rattle.std.proofs.Common.{◌≡◌, ◌≤◌, ◌||◌, ℕ, length}
use Rattle.sparsity.specs.Chains.{chain_has}
use Rattle.sparsity.specs.Coupled.{has, is_coupled}
use Rattle.sparsity.proofs.gather.gather.Given as goal

abbrev pub invariant-loop-link : goal.invariant-loop-link
invariant-loop-link l = record {
  link : l.link ≤ length l.chains.nodes.items;
  rest : (d : ℕ) → (has l.row.items d || chain_has l.lists l.chains.nodes.items d (length l.chains.nodes.items) l.link) ≡ is_coupled l.lists l.i d;
}

abbrev pub decreases-loop-link : goal.decreases-loop-link
decreases-loop-link l = l.link
