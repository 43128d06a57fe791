use Rattle.cell_blocks.specs.Views.{given}
use Rattle.mesh_loop.proofs.Limited.{face_limited}
use Rattle.mesh_loop.proofs.limits.look_up_face.Goals as goal

pub returns-clause-block : goal.returns-clause-block
returns-clause-block c =
    face_limited (given c.args.setting.now) c.args.cell c.args.face c.args.id c.end_points-ends.result c.robin-robin.result c.requires.numbered c.end_points-ends.ensures.value c.end_points-ends.ensures.reach c.robin-robin.ensures.value c.robin-robin.ensures.small
