use Rattle.std.proofs.Common.{◌≡◌, length}
use Rattle.constrained_mesh.proofs.LineLaws.{AreDirichletBelow}
use Rattle.constrained_mesh.proofs.dirichlet.dirichlet_lines.Given as goal

abbrev pub invariant-loop-dof : goal.invariant-loop-dof
invariant-loop-dof l = record {
  size : length l.lines ≡ l.dofs.size;
  held : AreDirichletBelow l.dofs.degree l.forest l.problem l.dof l.lines;
}
