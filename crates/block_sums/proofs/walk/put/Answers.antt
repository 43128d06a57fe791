use Rattle.block_sums.proofs.Runs.{one_adds}
use Rattle.block_sums.proofs.walk.put.Goals as goal

pub returns : goal.returns
returns g c = one_adds c.add.ensures.step c.add.ensures.fits
