use Rattle.vector_laws.proofs.Products.{one_product}
use Rattle.vector_laws.proofs.laws.systems_have_one_product.Goals as goal

pub returns : goal.returns
returns c = one_product c.cells_have_one_coloring.ensures
