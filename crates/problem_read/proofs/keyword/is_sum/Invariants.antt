use Rattle.std.proofs.Common.{◌≡◌, length}
use Rattle.problem_read.specs.Sums.{is_sum}
use Rattle.problem_read.proofs.keyword.is_sum.Given as goal

abbrev pub invariant-loop-word : goal.invariant-loop-word
invariant-loop-word l = is_sum l.words ≡ is_sum l.fn.words

abbrev pub decreases-loop-word : goal.decreases-loop-word
decreases-loop-word l = length l.words
