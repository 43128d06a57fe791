use Rattle.std.proofs.Common.{◌∙◌, sym, ap, Ok}
use Rattle.std.proofs.lemmas.List.{get_or_default}
use Rattle.constrained_mesh.specs.Nodes.{dof_told}
use Rattle.constrained_mesh.proofs.TieLaws.{no_terms, term_more, term_fault}
use Rattle.constrained_mesh.proofs.ties.set_terms.Goals as goal

pub loop-term-init : goal.loop-term-init
loop-term-init c = no_terms (dof_told c.args.nodes.now.ids.now c.args.nodes.now.dofs.now) ∙ ap Ok (sym c.clear.ensures.items)

pub loop-term-preserved : goal.loop-term-preserved
loop-term-preserved c =
    term_more (dof_told c.args.nodes.now.ids.now c.args.nodes.now.dofs.now) c.args.tie.now c.loop-term.term-index _ c.loop-term.terms.items c.in-Ok.term c.loop-term-test.true (get_or_default c.args.tie.now c.loop-term.term-index _ _ c.loop-term-test.true) c.loop-term.invariant (sym c.in-Ok.ensures)
    ∙ ap Ok (sym c.in_ok-push-in-Ok.ensures.items)

pub returns-in-Err-clause-fault : goal.returns-in-Err-clause-fault
returns-in-Err-clause-fault c = λ known.
    term_fault (dof_told c.args.nodes.now.ids.now c.args.nodes.now.dofs.now) c.args.tie.now c.loop-term.term-index _ c.loop-term.terms.items c.in-Err.fault c.loop-term-test.true (get_or_default c.args.tie.now c.loop-term.term-index _ _ c.loop-term-test.true) c.loop-term.invariant (sym c.in-Err.ensures)
