use Rattle.std.proofs.Common.{◌≡◌, take, Ok}
use Rattle.constrained_mesh.specs.Nodes.{dof_told}
use Rattle.constrained_mesh.specs.Ties.{terms_named}
use Rattle.constrained_mesh.proofs.ties.set_terms.Given as goal

abbrev pub invariant-loop-term : goal.invariant-loop-term
invariant-loop-term l = terms_named (dof_told l.nodes.ids.now l.nodes.dofs.now) (take l.term-index l.tie) ≡ Ok l.terms.items
