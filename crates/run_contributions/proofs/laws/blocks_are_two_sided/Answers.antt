use Rattle.run_contributions.proofs.Edges.{two_sided}
use Rattle.run_contributions.proofs.laws.blocks_are_two_sided.Goals as goal

pub returns : goal.returns
returns c = two_sided
