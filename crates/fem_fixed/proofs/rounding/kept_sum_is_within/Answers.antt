use Rattle.fem_fixed.proofs.Kept.{added_small}
use Rattle.fem_fixed.proofs.rounding.kept_sum_is_within.Goals as goal

pub returns : goal.returns
returns c = λ digits entry term sum is. added_small digits entry term sum is
