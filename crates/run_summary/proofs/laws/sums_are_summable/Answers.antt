use Rattle.run_summary.proofs.SumsFit.{sum_is_summable}
use Rattle.run_summary.proofs.laws.sums_are_summable.Goals as goal

pub returns : goal.returns
returns c = sum_is_summable
