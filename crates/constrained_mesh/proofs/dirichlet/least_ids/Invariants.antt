use Rattle.std.proofs.Common.{◌≡◌, length}
use Rattle.constrained_mesh.specs.LeastIds.{HoldsLeast}
use Rattle.constrained_mesh.proofs.LeastLaws.{faces_below}
use Rattle.constrained_mesh.proofs.dirichlet.least_ids.Given as goal

abbrev pub invariant-loop-cell : goal.invariant-loop-cell
invariant-loop-cell l = record {
  size : length l.ids.items ≡ l.dofs.size;
  held : HoldsLeast l.dofs.degree l.forest l.problem (faces_below l.cell) l.ids.items;
}
