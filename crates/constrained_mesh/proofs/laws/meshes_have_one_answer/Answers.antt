use Rattle.constrained_mesh.proofs.AnswerLaws.{one}
use Rattle.constrained_mesh.proofs.laws.meshes_have_one_answer.Goals as goal

pub returns : goal.returns
returns c = one
