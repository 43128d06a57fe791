use Rattle.corner_names.specs.Cells.{face_start, face_end}
use Rattle.dof_numbers.proofs.Finer.{middle_numbered}
use Rattle.dof_numbers.proofs.Noting.{at_row}
use Rattle.dof_numbers.proofs.middle.middle_number.Goals as goal

pub returns : goal.returns
returns c =
    middle_numbered c.args.forest.now c.corners.ensures.names c.args.cell c.args.face c.args.smaller c.args.beyond c.requires.cell c.requires.face c.requires.smaller c.requires.beyond c.requires.half
    c.corners.result c.corners-corners.result c.start_of.result c.start_of-2.result c.end_of.result c.other.result
    (at_row c.corners.result _ c.start_of.result (face_start c.args.face) c.corners.ensures.value c.start_of.ensures.value)
    (at_row c.corners-corners.result _ c.start_of-2.result (face_start c.args.beyond) c.corners-corners.ensures.value c.start_of-2.ensures.value)
    (at_row c.corners-corners.result _ c.end_of.result (face_end c.args.beyond) c.corners-corners.ensures.value c.end_of.ensures.value)
    c.other.ensures
