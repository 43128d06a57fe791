use Rattle.std.proofs.Common.{◌≡◌, ◌∙◌, sym, ap, true, false, ◌++◌, List}
use Rattle.std.proofs.lemmas.Result.{on_ok_weaker}
use Rattle.mesh_visits.specs.declared.visit.Visit.{Visit}
use Rattle.mesh_visits.specs.Steps.{subdomain_by, has_own}
use Rattle.mesh_visits.proofs.Choosing.{own_run, outer_run}
use Rattle.mesh_visits.proofs.Fits.{own_cell_fit, other_cell_fit}
use Rattle.mesh_visits.proofs.visits.push_cell.Goals as goal

pub returns-then-is_own-clause-visits : goal.returns-then-is_own-clause-visits
returns-then-is_own-clause-visits c =
    let own : has_own c.args.run.now c.args.cell ≡ true = sym c.is_own.ensures ∙ c.if-is_own.true in
    on_ok_weaker c.push_own_cell.result (λ added. added ∙ ap (λ (vs : List Visit). c.args.visits.now.items ++ vs) (sym (own_run (subdomain_by c.args.run.now) c.args.run.now.flags c.args.forest.now c.args.cell own)))
    c.push_own_cell.ensures.visits

pub returns-then-is_own-clause-fit : goal.returns-then-is_own-clause-fit
returns-then-is_own-clause-fit c =
    let own : has_own c.args.run.now c.args.cell ≡ true = sym c.is_own.ensures ∙ c.if-is_own.true in
    on_ok_weaker c.push_own_cell.result (own_cell_fit (subdomain_by c.args.run.now) c.args.run.now.flags c.args.forest.now c.args.cell own) c.push_own_cell.ensures.fit

pub returns-else-is_own-clause-visits : goal.returns-else-is_own-clause-visits
returns-else-is_own-clause-visits c =
    let other : has_own c.args.run.now c.args.cell ≡ false = sym c.is_own.ensures ∙ c.if-is_own.false in
    on_ok_weaker c.push_other_cell.result (λ added. added ∙ ap (λ (vs : List Visit). c.args.visits.now.items ++ vs) (sym (outer_run (subdomain_by c.args.run.now) c.args.run.now.flags c.args.forest.now c.args.cell other)))
    c.push_other_cell.ensures

pub returns-else-is_own-clause-fit : goal.returns-else-is_own-clause-fit
returns-else-is_own-clause-fit c =
    let other : has_own c.args.run.now c.args.cell ≡ false = sym c.is_own.ensures ∙ c.if-is_own.false in
    on_ok_weaker c.push_other_cell.result (λ added. other_cell_fit (subdomain_by c.args.run.now) c.args.run.now.flags c.args.forest.now c.args.cell other) c.push_other_cell.ensures
