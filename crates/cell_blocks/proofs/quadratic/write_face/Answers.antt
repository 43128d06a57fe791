use Rattle.std.proofs.Common.{◌≡◌, FitsSigned, w64, lit≤, subst}
use Rattle.std.proofs.lemmas.Int.{to_z-of_z}
use Rattle.fixed_q1.specs.LocalForm.{LocalForm}
use Rattle.fixed_q2.specs.BoundaryForm.{boundary_form}
use Rattle.cell_blocks.specs.LocalBlocks.{IsBlock}
use Rattle.cell_blocks.proofs.Made.{held}
use Rattle.cell_blocks.proofs.Squares.{face_block}
use Rattle.cell_blocks.proofs.quadratic.write_face.Goals as goal

pub returns-clause-whole : goal.returns-clause-whole
returns-clause-whole c =
    let alpha : FitsSigned w64 c.args.alpha = c.ranges.alpha in
    let g : FitsSigned w64 c.args.g = c.ranges.g in
    let form : LocalForm = record { matrix = c.boundary_matrix2.new.matrix; load = c.boundary_matrix2.new.rhs } in
    let told : boundary_form c.args.ends.now c.args.alpha c.args.g ≡ form = simp to_z-of_z at c.boundary_matrix2.ensures.form in
    let P : LocalForm → Type 0 = λ f. IsBlock (record { dofs = c.args.dofs.now; form = f }) in
    held 3 c.args.dofs.now form c.hold.new.self c.hold.ensures.used (lit≤ tt) c.hold.ensures.block
    (subst P told (face_block c.args.ends.now c.args.alpha c.args.g c.args.dofs.now c.requires.dofs c.told-ends c.requires.ends c.requires.alpha c.requires.g))
