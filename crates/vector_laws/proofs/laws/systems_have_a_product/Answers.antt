use Rattle.vector_laws.proofs.Products.{some_product}
use Rattle.vector_laws.proofs.laws.systems_have_a_product.Goals as goal

pub returns : goal.returns
returns c = some_product c.cells_have_a_coloring.ensures
