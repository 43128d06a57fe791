use Rattle.constrained_mesh.proofs.AnswerLaws.{some}
use Rattle.constrained_mesh.proofs.laws.meshes_have_an_answer.Goals as goal

pub returns : goal.returns
returns c = some
