use Rattle.std.proofs.Common.{◌∙◌, arith}
use Rattle.dof_numbers.proofs.MasterSteps.{none_first, face_step, cell_step, whole_table, all_within}
use Rattle.dof_numbers.proofs.hanging.hanging_masters.Goals as goal

pub loop-cell-init : goal.loop-cell-init
loop-cell-init c = record { held = none_first c.args.dofs.now.degree c.args.forest.now c.in_ok-table.table.items c.in_ok-table.ensures.none; len = c.in_ok-table.ensures.size ∙ c.size.ensures }

pub loop-face-preserved : goal.loop-face-preserved
loop-face-preserved c = record {
  held = face_step c.args.dofs.now.degree c.requires.degree c.args.forest.now c.cells-cell-end.ensures.grown c.loop-cell.cell c.loop-face.face c.loop-face.table.items c.note_face.new.table.items c.loop-face.invariant.held c.note_face.ensures.noted;
  len = c.note_face.ensures.size ∙ c.loop-face.invariant.len;
}

pub loop-cell-preserved : goal.loop-cell-preserved
loop-cell-preserved c = record {
  held = cell_step c.args.dofs.now.degree c.args.forest.now c.loop-cell.cell c.loop-face.face c.loop-face.table.items c.loop-face-test.false c.loop-face.invariant.held;
  len = c.loop-face.invariant.len;
}

pub returns-clause-masters : goal.returns-clause-masters
returns-clause-masters c =
    let h = c.cells-cell-end.ensures.count in
    whole_table c.args.dofs.now.degree c.args.forest.now c.loop-cell.cell c.loop-cell.table.items (omega (arith, h, c.loop-cell-test.false)) c.loop-cell.invariant.held

pub returns-clause-within : goal.returns-clause-within
returns-clause-within c =
    let h = c.cells-cell-end.ensures.count in
    all_within c.args.dofs.now.degree c.requires.degree c.args.forest.now c.args.dofs.now.size c.loop-cell.table.items c.requires.size
    (whole_table c.args.dofs.now.degree c.args.forest.now c.loop-cell.cell c.loop-cell.table.items (omega (arith, h, c.loop-cell-test.false)) c.loop-cell.invariant.held)
