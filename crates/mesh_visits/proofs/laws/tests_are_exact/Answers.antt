use Rattle.mesh_visits.proofs.Meets.{tests_exact}
use Rattle.mesh_visits.proofs.laws.tests_are_exact.Goals as goal

pub returns : goal.returns
returns c = tests_exact
