use Rattle.std.proofs.Common.{◌≡◌, take, length, Ok}
use Rattle.constrained_mesh.specs.Nodes.{dof_told}
use Rattle.constrained_mesh.specs.Ties.{with_ties}
use Rattle.constrained_mesh.proofs.ties.add_ties.Given as goal

abbrev pub invariant-loop-k : goal.invariant-loop-k
invariant-loop-k l = record {
  size : length l.lines ≡ length l.initial.lines;
  so_far : with_ties (dof_told l.nodes.ids.now l.nodes.dofs.now) l.initial.lines (take l.k l.problem.ties) ≡ Ok l.lines;
}
