use Rattle.system_laws.proofs.Further.{one_forest, one_finer, one_system_on}
use Rattle.system_laws.proofs.laws.refined_meshes_are_one.Goals as goal

pub returns-clause-forest : goal.returns-clause-forest
returns-clause-forest c = one_forest

pub returns-clause-finer : goal.returns-clause-finer
returns-clause-finer c = one_finer

pub returns-clause-system : goal.returns-clause-system
returns-clause-system c = one_system_on
