use Rattle.mesh_loop.specs.Parts.{shown}
use Rattle.mesh_loop.proofs.MasterSteps.{face_below}
use Rattle.mesh_loop.proofs.gather.push_face_dofs.Goals as goal

pub returns-then-degree-eq2-clause-below : goal.returns-then-degree-eq2-clause-below
returns-then-degree-eq2-clause-below c = face_below (shown c.args.source.now).given c.args.cell c.args.face c.requires.matched.numbered c.requires.cell c.requires.face

pub returns-clause-below : goal.returns-clause-below
returns-clause-below c = face_below (shown c.args.source.now).given c.args.cell c.args.face c.requires.matched.numbered c.requires.cell c.requires.face
