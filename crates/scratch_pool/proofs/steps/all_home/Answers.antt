use Rattle.scratch_pool.proofs.Moves.{all_ones}
use Rattle.scratch_pool.proofs.steps.all_home.Goals as goal

pub returns : goal.returns
returns c = all_ones c.args.objects c.requires.1
