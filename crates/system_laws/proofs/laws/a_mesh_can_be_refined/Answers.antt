use Rattle.system_laws.proofs.Further.{some_forest}
use Rattle.system_laws.proofs.laws.a_mesh_can_be_refined.Goals as goal

pub returns : goal.returns
returns c = some_forest
