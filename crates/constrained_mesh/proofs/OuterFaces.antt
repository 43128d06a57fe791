-- Which faces are on the boundary, by what lies on their other side.
use Rattle.std.proofs.Common.{◌≡◌, ◌∙◌, sym, ap, ℕ, ◌<◌, Bool, false, ◌&&◌, length}
use Rattle.std.specs.Prelude.{is_some}
use Rattle.corner_names.specs.Forest.{OnBoundary}
use Rattle.hanging_refine.specs.declared.sides.ActiveSide.{ActiveSide}
use Rattle.hanging_refine.specs.Coarse.{on_boundary}
use Rattle.hanging_refine.specs.Refined.{RefinedMesh, cell_at}
use Rattle.hanging_refine.specs.Grown.{IsGrown}
use Rattle.hanging_refine.specs.Sides.{IsSideOf, MeetsOnly}
use Rattle.problem_read.specs.Entries.{ProblemParts}
use Rattle.problem_read.specs.LookUps.{dirichlet_on}
use Rattle.mesh_visits.specs.Meeting.{is_outer}
use Rattle.mesh_visits.specs.Visits.{id_of}
use Rattle.mesh_visits.specs.SideVisits.{is_boundary}
use Rattle.mesh_visits.proofs.BySide.{outer_by_side}
use Rattle.mesh_visits.proofs.Meets.{outer_by}
use Rattle.constrained_mesh.specs.Dirichlet.{has_value}

pub outer_is : (forest : RefinedMesh) (problem : ProblemParts) (c f id : ℕ) (b : Bool) → OnBoundary (on_boundary forest.mesh) (cell_at forest c) f → id ≡ id_of forest (c, f) → is_some (dirichlet_on problem id) ≡ b → has_value forest problem (c, f) ≡ b
unfolding has_value is_outer
outer_is forest problem c f id b on is some =
    ap (λ o. o && is_some (dirichlet_on problem (id_of forest (c, f)))) (outer_by (on_boundary forest.mesh) (cell_at forest c) f on) ∙ ap (λ i. is_some (dirichlet_on problem i)) (sym is) ∙ some

pub inner_is : (forest : RefinedMesh) (problem : ProblemParts) (c f : ℕ) (side : ActiveSide) → IsGrown forest → c < length forest.cells → f < 4 → IsSideOf forest c f side → MeetsOnly forest c f side → is_boundary side ≡ false →
    has_value forest problem (c, f) ≡ false
unfolding has_value
inner_is forest problem c f side g hc hf is only inside =
    ap (λ o. o && is_some (dirichlet_on problem (id_of forest (c, f)))) (outer_by_side forest c f side g hc hf is only ∙ inside)
