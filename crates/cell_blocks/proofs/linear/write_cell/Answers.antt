use Rattle.std.proofs.Common.{◌≡◌, FitsSigned, w64, Ok, lit≤}
use Rattle.std.proofs.lemmas.Int.{to_z-of_z}
use Rattle.fixed_q1.specs.LocalForm.{LocalForm}
use Rattle.fixed_q1.specs.CellForm.{cell_form}
use Rattle.cell_blocks.proofs.Made.{held, held_form, square_block, cell_square}
use Rattle.cell_blocks.proofs.linear.write_cell.Goals as goal

pub returns : goal.returns
returns c =
    let diffusion : FitsSigned w64 c.args.diffusion = c.ranges.diffusion in
    let source : FitsSigned w64 c.args.source = c.ranges.source in
    let form : LocalForm = record { matrix = c.cell_matrix.new.matrix; load = c.cell_matrix.new.rhs } in
    let ok : cell_form c.args.points.now c.args.diffusion c.args.source ≡ Ok form = simp to_z-of_z at c.in_ok-cell_matrix.ensures.ok in (
      held_form c.args.dofs.now form (cell_form c.args.points.now c.args.diffusion c.args.source) c.hold.new.self ok c.hold.ensures.block,
      held 4 c.args.dofs.now form c.hold.new.self c.hold.ensures.used (lit≤ tt) c.hold.ensures.block
          (square_block 4 c.args.dofs.now form (lit≤ tt) c.requires.dofs (cell_square c.args.points.now c.args.diffusion c.args.source form c.told-points c.requires.points c.requires.source ok)),
    )
