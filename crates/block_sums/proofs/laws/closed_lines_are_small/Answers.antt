use Rattle.block_sums.proofs.Allowed.{closed_small}
use Rattle.block_sums.proofs.laws.closed_lines_are_small.Goals as goal

pub returns : goal.returns
returns c = λ table forms. closed_small table forms
