use Rattle.system_laws.proofs.Some.{some}
use Rattle.system_laws.proofs.laws.a_mesh_has_a_set_up.Goals as goal

pub returns : goal.returns
returns c = some
