-- Equal faces make the same contributions from both sides, since points follow the names of corners.
use Rattle.std.proofs.Common.{◌≡◌, ◌∙◌, sym, ap, refl, ℕ, zero, suc, ◌<◌, ⊎_elim, Bool, List, [], ◌∷◌, ◌++◌, length, filter, arith}
use Rattle.fem_fixed.specs.declared.mesh.Point.{Point}
use Rattle.quad_mesh.specs.Geometry.{point_at}
use Rattle.corner_names.specs.Names.{Cell, Name, SamePair}
use Rattle.corner_names.specs.Cells.{Corners, vertex, face_start, face_end}
use Rattle.corner_names.proofs.Across.{start_less, end_less}
use Rattle.hanging_refine.specs.Coarse.{corner_at}
use Rattle.hanging_refine.specs.Points.{vertex_point, cell_points}
use Rattle.hanging_refine.specs.Refined.{RefinedMesh, cell_at}
use Rattle.hanging_refine.specs.Grown.{IsGrown}
use Rattle.fixed_q1.specs.declared.places.Part.TheVariants.{Whole}
use Rattle.fixed_q1.specs.Places.{reference_place}
use Rattle.affine_constraints.specs.Lines.{Lines}
use Rattle.problem_read.specs.LookUps.{penalty_in}
use Rattle.cell_blocks.specs.Forms.{jump_form}
use Rattle.cell_blocks.specs.Blocks.{Given, block_of, dofs_of, points_of, end_points, with_dofs}
use Rattle.serial_sum.specs.declared.part.Contribution.{Contribution}
use Rattle.mesh_visits.specs.Meeting.{Face}
use Rattle.mesh_visits.specs.Visits.{part_visit}
use Rattle.mesh_visits.specs.Sharing.{IsFaceOf, IsOtherSide}
use Rattle.mesh_visits.specs.OverRuns.{IsTwoSided}
use Rattle.run_contributions.specs.RunContributions.{of_block, passing, AreOfMesh, AllBlocksAreTwoSided, ContributionsAddUp}
use Rattle.run_contributions.proofs.Counting.{counted, add_up}
use Rattle.run_contributions.proofs.Forms.{form_turned}
use Rattle.run_contributions.proofs.Halves.{other_side, cell_count, halves}
use Rattle.run_contributions.proofs.Points.{one_point}

point_is : (f : ℕ → Point) (v : ℕ) → v < 4 → point_at (f 0 ∷ f 1 ∷ f 2 ∷ f 3 ∷ []) v ≡ f v
point_is f zero h = refl
point_is f (suc zero) h = refl
point_is f (suc (suc zero)) h = refl
point_is f (suc (suc (suc zero))) h = refl
point_is f (suc (suc (suc (suc v)))) h = absurd (omega (arith, h))

abbrev corner_point : Given → ℕ → ℕ → Point
corner_point given c v = vertex_point given.forest.mesh (cell_at given.forest c) v

ends_are : (given : Given) (a : Face) → a.1 < 4 → end_points given a.0 a.1 ≡ corner_point given a.0 (face_start a.1) ∷ corner_point given a.0 (face_end a.1) ∷ []
ends_are given a h =
    ap (λ p. p ∷ point_at (points_of given a.0) (face_end a.1) ∷ []) (point_is (corner_point given a.0) (face_start a.1) (start_less a.1 h))
    ∙ ap (λ p. corner_point given a.0 (face_start a.1) ∷ p ∷ []) (point_is (corner_point given a.0) (face_end a.1) (end_less a.1 h))

-- the form of an equal face doesn't depend on whose ends it is given
same_form : (given : Given) → AreOfMesh given → (here there : List Point) (a b : Face) → IsFaceOf given.forest a → IsFaceOf given.forest b → IsOtherSide given.forest a b →
    jump_form given.dofs.degree here (reference_place b.1 Whole) there (reference_place a.1 Whole) (end_points given a.0 a.1) (penalty_in given.problem) ≡ jump_form given.dofs.degree here (reference_place b.1 Whole) there (reference_place a.1 Whole) (end_points given b.0 b.1) (penalty_in given.problem)
same_form given n here there a b ha hb edge =
    let m : Corners = corner_at given.forest.mesh in
    let sa : Name = vertex m (cell_at given.forest a.0) (face_start a.1) in
    let ea : Name = vertex m (cell_at given.forest a.0) (face_end a.1) in
    let sb : Name = vertex m (cell_at given.forest b.0) (face_start b.1) in
    let eb : Name = vertex m (cell_at given.forest b.0) (face_end b.1) in
    let pa : Point = corner_point given a.0 (face_start a.1) in
    let qa : Point = corner_point given a.0 (face_end a.1) in
    let pb : Point = corner_point given b.0 (face_start b.1) in
    let qb : Point = corner_point given b.0 (face_end b.1) in
    ap (λ ends. jump_form given.dofs.degree here (reference_place b.1 Whole) there (reference_place a.1 Whole) ends (penalty_in given.problem)) (ends_are given a ha.1)
    ∙ ⊎_elim
    (λ (s : (sa ≡ sb) × (ea ≡ eb)).
    ap (λ p. jump_form given.dofs.degree here (reference_place b.1 Whole) there (reference_place a.1 Whole) (p ∷ qa ∷ []) (penalty_in given.problem)) (one_point given.forest.mesh (cell_at given.forest a.0) (cell_at given.forest b.0) (face_start a.1) (face_start b.1) s.0)
    ∙ ap (λ q. jump_form given.dofs.degree here (reference_place b.1 Whole) there (reference_place a.1 Whole) (pb ∷ q ∷ []) (penalty_in given.problem)) (one_point given.forest.mesh (cell_at given.forest a.0) (cell_at given.forest b.0) (face_end a.1) (face_end b.1) s.1))
    (λ (s : (sa ≡ eb) × (ea ≡ sb)).
    ap (λ p. jump_form given.dofs.degree here (reference_place b.1 Whole) there (reference_place a.1 Whole) (p ∷ qa ∷ []) (penalty_in given.problem)) (one_point given.forest.mesh (cell_at given.forest a.0) (cell_at given.forest b.0) (face_start a.1) (face_end b.1) s.0)
    ∙ ap (λ q. jump_form given.dofs.degree here (reference_place b.1 Whole) there (reference_place a.1 Whole) (qb ∷ q ∷ []) (penalty_in given.problem)) (one_point given.forest.mesh (cell_at given.forest a.0) (cell_at given.forest b.0) (face_end a.1) (face_start b.1) s.1)
    ∙ form_turned given.dofs.degree here there (reference_place b.1 Whole) (reference_place a.1 Whole) pb qb (penalty_in given.problem) n.degree)
    edge.1
    ∙ sym (ap (λ ends. jump_form given.dofs.degree here (reference_place b.1 Whole) there (reference_place a.1 Whole) ends (penalty_in given.problem)) (ends_are given b hb.1))

edges : (lines : Lines) (given : Given) → AreOfMesh given → (test : Contribution → Bool) (a b : Face) → IsFaceOf given.forest a → IsFaceOf given.forest b → IsOtherSide given.forest a b →
    passing lines given test a.0 (part_visit a.1 Whole Whole b) ≡ passing lines given test b.0 (part_visit b.1 Whole Whole a)
unfolding block_of
edges lines given n test a b ha hb edge =
    other_side test lines given.dofs.degree (dofs_of given a.0) (dofs_of given b.0) (points_of given a.0) (points_of given b.0) (reference_place a.1 Whole) (reference_place b.1 Whole) (end_points given a.0 a.1) (penalty_in given.problem)
    n.degree (cell_count given n a.0 ha.0) (cell_count given n b.0 hb.0)
    ∙ ap (λ form. counted test (of_block lines (with_dofs (dofs_of given b.0 ++ dofs_of given a.0) form))) (same_form given n (points_of given b.0) (points_of given a.0) a b ha hb edge)

pub two_sided : AllBlocksAreTwoSided
two_sided lines given n test = record {
  edge = λ a b ha hb e. edges lines given n test a b ha hb e;
  half = λ k a b hk ha hb h. halves lines given n test k a b hk ha hb;
}

pub contributions_add_up : ContributionsAddUp
contributions_add_up lines given flags runs grown n each inside out none = add_up lines given flags runs grown each inside out none (two_sided lines given n)
