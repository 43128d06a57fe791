use Rattle.std.proofs.lemmas.Result.{on_ok_weaker}
use Rattle.mesh_visits.specs.Steps.{chooses}
use Rattle.mesh_visits.proofs.Choosing.{four_added}
use Rattle.mesh_visits.proofs.Fits.{faces_fit}
use Rattle.mesh_visits.proofs.visits.push_faces.Goals as goal

pub returns-clause-visits : goal.returns-clause-visits
returns-clause-visits c =
    on_ok_weaker c.push_face-4.result
    (four_added (chooses c.args.run.now c.args.cell) c.args.forest.now c.args.cell c.args.visits.now.items c.push_face.new.visits.items c.push_face-2.new.visits.items c.push_face-3.new.visits.items c.push_face-4.new.visits.items
    c.in_ok-push_face.ensures.visits c.in_ok-push_face-2.ensures.visits c.in_ok-push_face-3.ensures.visits)
    c.push_face-4.ensures.visits

pub returns-clause-fit : goal.returns-clause-fit
returns-clause-fit c =
    on_ok_weaker c.push_face-4.result (λ added. faces_fit c.args.forest.now c.args.cell c.push_face.ensures.fit c.push_face-2.ensures.fit c.push_face-3.ensures.fit c.push_face-4.ensures.fit) c.push_face-4.ensures.visits
