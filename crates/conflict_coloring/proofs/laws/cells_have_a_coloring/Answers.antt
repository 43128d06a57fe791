use Rattle.conflict_coloring.proofs.SomeColoring.{some_coloring}
use Rattle.conflict_coloring.proofs.laws.cells_have_a_coloring.Goals as goal

pub returns : goal.returns
returns c = some_coloring
