use Rattle.std.proofs.Common.{◌≡◌, ◌∙◌, sym, ap, [], List, ◌++◌, append-nil}
use Rattle.mesh_visits.specs.declared.visit.Visit.{Visit}
use Rattle.mesh_visits.specs.Steps.{subdomain_by}
use Rattle.mesh_visits.specs.Runs.{outer_visits}
use Rattle.mesh_visits.specs.Visits.{all_visits}
use Rattle.mesh_visits.proofs.Choosing.{ghost_added, no_ghost_added, unwanted_added}
use Rattle.mesh_visits.proofs.visits.push_other_cell.Goals as goal
use Rattle.mesh_visits.proofs.visits.push_other_cell.Goals.{else-run-via-then-run+else-is_ghost, else-run-via-else-run}

pub returns-in_ok-push : goal.returns-in_ok-push
returns-in_ok-push c =
    c.in_ok-push.ensures.items
    ∙ ap (λ (vs : List Visit). c.args.visits.now.items ++ vs)
    (sym (ghost_added (subdomain_by c.args.run.now) c.args.run.now.flags c.args.forest.now c.args.cell (sym c.is_ghost.ensures ∙ c.if-is_ghost.true) c.if-run.true))

pub returns-else-run : goal.returns-else-run
returns-else-run c =
    let none : outer_visits (subdomain_by c.args.run.now) c.args.run.now.flags (all_visits c.args.run.now.flags.cells_after_faces c.args.forest.now c.args.cell) ≡ [] = elim c.else-run.branch [
      | else-run-via-then-run+else-is_ghost w ↦ no_ghost_added (subdomain_by c.args.run.now) c.args.run.now.flags c.args.forest.now c.args.cell (sym w.is_ghost.ensures ∙ w.if-is_ghost.false)
      | else-run-via-else-run w ↦ unwanted_added (subdomain_by c.args.run.now) c.args.run.now.flags c.args.forest.now c.args.cell w.if-run.false
    ] in
    sym (append-nil c.args.visits.now.items) ∙ ap (λ (vs : List Visit). c.args.visits.now.items ++ vs) (sym none)
