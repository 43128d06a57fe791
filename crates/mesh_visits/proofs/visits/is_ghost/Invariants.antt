use Rattle.std.proofs.Common.{◌≡◌, ℕ, ◌<◌, false}
use Rattle.std.specs.List.{list_any}
use Rattle.mesh_visits.specs.Visits.{face_visits}
use Rattle.mesh_visits.specs.Steps.{leads_to_own}
use Rattle.mesh_visits.proofs.visits.is_ghost.Given as goal

abbrev pub invariant-loop-face : goal.invariant-loop-face
invariant-loop-face l = (f : ℕ) → f < l.face → list_any (leads_to_own l.run) (face_visits l.forest (l.cell, f)) ≡ false
