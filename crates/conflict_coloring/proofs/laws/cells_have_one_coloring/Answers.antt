use Rattle.conflict_coloring.proofs.OneColoring.{one_coloring}
use Rattle.conflict_coloring.proofs.laws.cells_have_one_coloring.Goals as goal

pub returns : goal.returns
returns c = one_coloring
