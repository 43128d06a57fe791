-- A part where one face is a half of the other makes the same contributions from both sides.
use Rattle.std.proofs.Common.{◌≡◌, ◌∙◌, sym, ap, ℕ, zero, suc, ◌+◌, ◌<◌, ℤ, Bool, List, ◌++◌, length, arith, length-append}
use Rattle.std.specs.Prelude.{slice_index_or, []}
use Rattle.fem_fixed.specs.declared.mesh.Point.{Point}
use Rattle.fixed_q1.specs.declared.geometry.Vector.{Vector}
use Rattle.fixed_q1.specs.declared.places.Part.TheVariants.{Whole, Half0, Half1}
use Rattle.fixed_q1.specs.Places.{reference_place}
use Rattle.affine_constraints.specs.Lines.{Lines}
use Rattle.dof_numbers.specs.Dofs.{IsDegree, names_each}
use Rattle.cell_blocks.specs.Forms.{jump_form}
use Rattle.cell_blocks.specs.Blocks.{Given, block_of, dofs_of, points_of, end_points, with_dofs}
use Rattle.problem_read.specs.LookUps.{penalty_in}
use Rattle.serial_sum.specs.declared.part.Contribution.{Contribution}
use Rattle.mesh_visits.specs.Meeting.{Face}
use Rattle.mesh_visits.specs.Visits.{part_visit}
use Rattle.mesh_visits.specs.Sharing.{IsFaceOf}
use Rattle.mesh_visits.specs.SideVisits.{half_part}
use Rattle.run_contributions.specs.RunContributions.{of_block, passing, AreOfMesh}
use Rattle.run_contributions.proofs.Counting.{counted}
use Rattle.run_contributions.proofs.Exchange.{exchanged_same}
use Rattle.run_contributions.proofs.Forms.{form_exchanged, form_whole}

-- a part seen from the other side
pub other_side : (test : Contribution → Bool) (lines : Lines) (degree : ℕ) (a b : List ℕ) (here there : List Point) (p q : Vector) (ends : List Point) (gamma : ℤ) → IsDegree degree → length a ≡ names_each degree → length b ≡ names_each degree →
    counted test (of_block lines (with_dofs (a ++ b) (jump_form degree here p there q ends gamma))) ≡ counted test (of_block lines (with_dofs (b ++ a) (jump_form degree there q here p ends gamma)))
other_side test lines degree a b here there p q ends gamma d mine theirs =
    let count : length (a ++ b) ≡ names_each degree + names_each degree = length-append a b ∙ (λ i. mine i + theirs i) in
    exchanged_same test lines (names_each degree) a b (jump_form degree here p there q ends gamma) mine count (λ form h. form_whole degree here there p q ends gamma (a ++ b) form d count h)
    ∙ sym (ap (λ form. counted test (of_block lines (with_dofs (b ++ a) form))) (form_exchanged degree here there p q ends gamma d))

pub cell_count : (given : Given) → AreOfMesh given → (c : ℕ) → c < length given.forest.cells → length (dofs_of given c) ≡ names_each given.dofs.degree
cell_count given n c h = let e = n.count in n.each c [] (omega (arith, e, h))

pub halves : (lines : Lines) (given : Given) → AreOfMesh given → (test : Contribution → Bool) (k : ℕ) (a b : Face) → k < 2 → IsFaceOf given.forest a → IsFaceOf given.forest b →
    passing lines given test a.0 (part_visit a.1 Whole (half_part k) b) ≡ passing lines given test b.0 (part_visit b.1 (half_part k) Whole a)
unfolding block_of
halves lines given n test zero a b hk ha hb =
    other_side test lines given.dofs.degree (dofs_of given a.0) (dofs_of given b.0) (points_of given a.0) (points_of given b.0) (reference_place a.1 Whole) (reference_place b.1 Half0) (end_points given a.0 a.1) (penalty_in given.problem)
    n.degree (cell_count given n a.0 ha.0) (cell_count given n b.0 hb.0)
halves lines given n test (suc zero) a b hk ha hb =
    other_side test lines given.dofs.degree (dofs_of given a.0) (dofs_of given b.0) (points_of given a.0) (points_of given b.0) (reference_place a.1 Whole) (reference_place b.1 Half1) (end_points given a.0 a.1) (penalty_in given.problem)
    n.degree (cell_count given n a.0 ha.0) (cell_count given n b.0 hb.0)
halves lines given n test (suc (suc k)) a b hk ha hb = absurd (omega (arith, hk))
