use Rattle.msh_read.proofs.Corners.{four_cornered}
use Rattle.msh_read.proofs.reader.quadrilaterals_have_four_corners.Goals as goal

pub returns : goal.returns
returns c = four_cornered
