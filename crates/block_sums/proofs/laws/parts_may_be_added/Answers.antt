use Rattle.block_sums.proofs.CellSteps.{cell_allowed}
use Rattle.block_sums.proofs.laws.parts_may_be_added.Goals as goal

pub returns : goal.returns
returns c = λ pattern table cell blocks forms whole held. cell_allowed pattern table blocks forms whole held
