use Rattle.serial_sum.proofs.RowLaws.{all_rising}
use Rattle.block_sums.proofs.row_writing.columns_of.Goals as goal

pub returns-then-i-size-clause-rising : goal.returns-then-i-size-clause-rising
returns-then-i-size-clause-rising c = all_rising c.row.result.now c.row.ensures.rising
