use Rattle.block_sums.proofs.Allowed.{block_allowed}
use Rattle.block_sums.proofs.laws.contributions_may_be_added.Goals as goal

pub returns : goal.returns
returns c = λ pattern lines block small is holds. block_allowed pattern lines block small is holds
