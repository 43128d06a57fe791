use Rattle.std.proofs.Common.{◌≡◌, ◌∙◌, sym, ap, subst, ℕ, List, length, arith}
use Rattle.std.specs.Prelude.{All}
use Rattle.affine_constraints.specs.declared.term.Term.{Term}
use Rattle.affine_constraints.specs.Lines.{IsTerm}
use Rattle.constrained_mesh.specs.Nodes.{dof_told}
use Rattle.constrained_mesh.proofs.TieLaws.{dof_within, terms_within}
use Rattle.constrained_mesh.proofs.ties.add_tie.Goals as goal

pub add-requires-clause-dof : goal.add-requires-clause-dof
add-requires-clause-dof c =
    let w = dof_within (dof_told c.args.nodes.now.ids.now c.args.nodes.now.dofs.now) c.args.nodes.now.dofs.now.size c.requires.within c.args.node c.in-Ok.dof (sym c.in-Ok.ensures) in
    let s = c.requires.size in omega (arith, w, s)

pub add-requires-clause-terms : goal.add-requires-clause-terms
add-requires-clause-terms c =
    let w = terms_within (dof_told c.args.nodes.now.ids.now c.args.nodes.now.dofs.now) c.args.nodes.now.dofs.now.size c.requires.within c.args.tie.now c.set_terms.new.terms.items c.in-Ok-set_terms.ensures.ok c.requires.limits.light in
    let P : ℕ → List Term → Type 0 = λ size terms. All (IsTerm size) terms in
    subst (λ (size : ℕ). P size c.deref.result.now) (sym c.requires.size) (subst (P c.args.nodes.now.dofs.now.size) (sym c.deref.ensures.value) w.0)

pub add-requires-clause-count : goal.add-requires-clause-count
add-requires-clause-count c =
    let w = terms_within (dof_told c.args.nodes.now.ids.now c.args.nodes.now.dofs.now) c.args.nodes.now.dofs.now.size c.requires.within c.args.tie.now c.set_terms.new.terms.items c.in-Ok-set_terms.ensures.ok c.requires.limits.light in
    let few = c.requires.limits.few in
    let same : length c.deref.result.now ≡ length c.args.tie.now = ap length c.deref.ensures.value ∙ w.1 in
    omega (arith, same, few)
