use Rattle.constrained_mesh.proofs.DecidingLaws.{law}
use Rattle.constrained_mesh.proofs.laws.the_least_id_decides.Goals as goal

pub returns : goal.returns
returns c = law
