use Rattle.run_contributions.proofs.Edges.{contributions_add_up}
use Rattle.run_contributions.proofs.laws.contributions_add_up.Goals as goal

pub returns : goal.returns
returns c = contributions_add_up
