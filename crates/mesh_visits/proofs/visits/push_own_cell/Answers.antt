use Rattle.std.proofs.lemmas.Result.{on_ok_weaker}
use Rattle.mesh_visits.specs.Steps.{chooses}
use Rattle.mesh_visits.proofs.Choosing.{last_added, first_added}
use Rattle.mesh_visits.proofs.Fits.{all_fit}
use Rattle.mesh_visits.proofs.visits.push_own_cell.Goals as goal

pub returns-in_ok-push_faces-clause-visits : goal.returns-in_ok-push_faces-clause-visits
returns-in_ok-push_faces-clause-visits c =
    on_ok_weaker c.push_chosen.result
    (last_added (chooses c.args.run.now c.args.cell) c.args.forest.now c.args.cell c.args.run.now.flags.cells_after_faces c.args.visits.now.items c.push_faces.new.visits.items c.push_chosen.new.visits.items
    c.if-run.true c.in_ok-push_faces.ensures.visits)
    c.push_chosen.ensures

pub returns-in_ok-push_faces-clause-fit : goal.returns-in_ok-push_faces-clause-fit
returns-in_ok-push_faces-clause-fit c =
    on_ok_weaker c.push_chosen.result (λ added. all_fit c.args.forest.now c.args.run.now.flags.cells_after_faces c.args.cell c.in_ok-push_faces.ensures.fit) c.push_chosen.ensures

pub returns-in_ok-push_chosen-clause-visits : goal.returns-in_ok-push_chosen-clause-visits
returns-in_ok-push_chosen-clause-visits c =
    on_ok_weaker c.push_faces-else-run.result
    (first_added (chooses c.args.run.now c.args.cell) c.args.forest.now c.args.cell c.args.run.now.flags.cells_after_faces c.args.visits.now.items c.push_chosen-else-run.new.visits.items c.push_faces-else-run.new.visits.items
    c.if-run.false c.in_ok-push_chosen.ensures)
    c.push_faces-else-run.ensures.visits

pub returns-in_ok-push_chosen-clause-fit : goal.returns-in_ok-push_chosen-clause-fit
returns-in_ok-push_chosen-clause-fit c =
    on_ok_weaker c.push_faces-else-run.result (all_fit c.args.forest.now c.args.run.now.flags.cells_after_faces c.args.cell) c.push_faces-else-run.ensures.fit
