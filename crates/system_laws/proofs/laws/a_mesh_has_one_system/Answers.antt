use Rattle.system_laws.proofs.One.{one}
use Rattle.system_laws.proofs.laws.a_mesh_has_one_system.Goals as goal

pub returns : goal.returns
returns c = one
