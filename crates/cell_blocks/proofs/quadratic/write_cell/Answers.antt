use Rattle.std.proofs.Common.{◌≡◌, FitsSigned, w64, Ok, lit≤}
use Rattle.std.proofs.lemmas.Int.{to_z-of_z}
use Rattle.fixed_q1.specs.LocalForm.{LocalForm}
use Rattle.fixed_q2.specs.CellForm.{cell_form}
use Rattle.cell_blocks.proofs.Made.{held, held_form}
use Rattle.cell_blocks.proofs.Squares.{cell_block}
use Rattle.cell_blocks.proofs.quadratic.write_cell.Goals as goal

pub returns : goal.returns
returns c =
    let diffusion : FitsSigned w64 c.args.diffusion = c.ranges.diffusion in
    let source : FitsSigned w64 c.args.source = c.ranges.source in
    let form : LocalForm = record { matrix = c.cell_matrix2.new.matrix; load = c.cell_matrix2.new.rhs } in
    let ok : cell_form c.args.points.now c.args.diffusion c.args.source ≡ Ok form = simp to_z-of_z at c.in_ok-cell_matrix2.ensures.ok in (
      held_form c.args.dofs.now form (cell_form c.args.points.now c.args.diffusion c.args.source) c.hold.new.self ok c.hold.ensures.block,
      held 9 c.args.dofs.now form c.hold.new.self c.hold.ensures.used (lit≤ tt) c.hold.ensures.block
          (cell_block c.args.points.now c.args.diffusion c.args.source c.args.dofs.now form c.told-points c.requires.points c.requires.source c.requires.dofs ok),
    )
