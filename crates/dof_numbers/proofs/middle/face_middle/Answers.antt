use Rattle.dof_numbers.proofs.Finer.{no_vertex_by, not_boundary, not_equal, not_coarser}
use Rattle.dof_numbers.proofs.middle.face_middle.Goals as goal

pub returns-in-Boundary : goal.returns-in-Boundary
returns-in-Boundary c =
    no_vertex_by c.args.forest.now c.requires.grown c.args.cell c.args.face c.requires.cell c.requires.face (not_boundary c.args.forest.now c.requires.grown c.args.cell c.args.face c.in-Boundary.field-0 c.in-Boundary.ensures.only)

pub returns-in-Equal : goal.returns-in-Equal
returns-in-Equal c =
    no_vertex_by c.args.forest.now c.requires.grown c.args.cell c.args.face c.requires.cell c.requires.face
    (not_equal c.args.forest.now c.requires.grown c.args.cell c.args.face c.in-Equal.cell c.in-Equal.face c.in-Equal.ensures.side c.in-Equal.ensures.only)

pub returns-in-Coarser : goal.returns-in-Coarser
returns-in-Coarser c =
    no_vertex_by c.args.forest.now c.requires.grown c.args.cell c.args.face c.requires.cell c.requires.face
    (not_coarser c.args.forest.now c.requires.grown c.args.cell c.args.face c.in-Coarser.cell c.in-Coarser.face c.in-Coarser.half c.in-Coarser.ensures.side c.in-Coarser.ensures.only)
