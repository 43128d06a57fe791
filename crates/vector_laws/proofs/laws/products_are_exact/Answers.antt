use Rattle.vector_laws.proofs.Exact.{exact}
use Rattle.vector_laws.proofs.laws.products_are_exact.Goals as goal

pub returns : goal.returns
returns c = exact
