use Rattle.std.proofs.Common.{◌≡◌, FitsSigned, w64, lit≤}
use Rattle.std.proofs.lemmas.Int.{to_z-of_z}
use Rattle.fixed_q1.specs.LocalForm.{LocalForm}
use Rattle.fixed_q1.specs.BoundaryForm.{boundary_form}
use Rattle.cell_blocks.specs.LocalBlocks.{IsBlock}
use Rattle.cell_blocks.proofs.Made.{held, face_block}
use Rattle.cell_blocks.proofs.linear.write_face.Goals as goal

pub returns-clause-whole : goal.returns-clause-whole
returns-clause-whole c =
    let alpha : FitsSigned w64 c.args.alpha = c.ranges.alpha in
    let g : FitsSigned w64 c.args.g = c.ranges.g in
    let form : LocalForm = record { matrix = c.boundary_matrix.new.matrix; load = c.boundary_matrix.new.rhs } in
    let told : boundary_form c.args.ends.now c.args.alpha c.args.g ≡ form = simp to_z-of_z at c.boundary_matrix.ensures in
    let P : LocalForm → Type 0 = λ f. IsBlock (record { dofs = c.args.dofs.now; form = f }) in
    held 2 c.args.dofs.now form c.hold.new.self c.hold.ensures.used (lit≤ tt) c.hold.ensures.block
    (face_block c.args.dofs.now c.args.ends.now c.args.alpha c.args.g form c.requires.dofs c.told-ends c.requires.ends c.requires.alpha c.requires.g told)
