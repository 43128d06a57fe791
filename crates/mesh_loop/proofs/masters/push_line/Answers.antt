use Rattle.affine_constraints.specs.Lines.{lines_in}
use Rattle.mesh_loop.proofs.MasterSteps.{free_line, full_line, free_below, full_below}
use Rattle.mesh_loop.proofs.masters.push_line.Goals as goal

pub returns-in_ok-push-in-None-clause-value : goal.returns-in_ok-push-in-None-clause-value
returns-in_ok-push-in-None-clause-value c =
    free_line (lines_in c.args.closed.now) c.args.dof c.args.list.now.items c.push.new.self.items c.in-None.ensures.value c.in_ok-push-in-None.ensures.items

pub returns-in_ok-push-in-None-clause-below : goal.returns-in_ok-push-in-None-clause-below
returns-in_ok-push-in-None-clause-below c = free_below (lines_in c.args.closed.now) _ c.args.dof c.in-None.ensures.value c.requires

pub returns-in_ok-push_terms-in-Some-clause-value : goal.returns-in_ok-push_terms-in-Some-clause-value
returns-in_ok-push_terms-in-Some-clause-value c =
    full_line (lines_in c.args.closed.now) c.args.dof (record { terms = c.in-Some.terms.now; constant = c.in-Some.field-0-1 }) c.args.list.now.items c.push_terms.new.list.items c.in-Some.ensures.value c.in_ok-push_terms-in-Some.ensures

pub returns-in_ok-push_terms-in-Some-clause-below : goal.returns-in_ok-push_terms-in-Some-clause-below
returns-in_ok-push_terms-in-Some-clause-below c =
    full_below (lines_in c.args.closed.now) _ c.args.dof (record { terms = c.in-Some.terms.now; constant = c.in-Some.field-0-1 }) c.in-Some.ensures.value c.in-Some.ensures.form.within.terms
