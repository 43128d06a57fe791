use Rattle.std.proofs.Common.{◌≡◌, ◌++◌, map, take}
use Rattle.affine_constraints.specs.declared.term.Term.{Term}
use Rattle.mesh_loop.proofs.masters.push_terms.Given as goal

abbrev pub invariant-loop-term : goal.invariant-loop-term
invariant-loop-term l = l.list.items ≡ l.initial.list.items ++ map (λ (term : Term). term.dof) (take l.term-index l.terms)
