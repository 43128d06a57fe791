use Rattle.std.proofs.Common.{◌≡◌, length}
use Rattle.lumped_mass.specs.Sums.{with_shares}
use Rattle.lumped_mass.proofs.in_order.CellsJob.copy.Given as goal

abbrev pub invariant-loop-v : goal.invariant-loop-v
invariant-loop-v l = record {
  sums : l.state ≡ with_shares l.dofs l.copy l.initial.state l.v;
  len : length l.state ≡ length l.initial.state;
}
