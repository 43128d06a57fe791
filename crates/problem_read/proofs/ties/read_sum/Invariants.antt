use Rattle.std.proofs.Common.{length, drop}
use Rattle.std.specs.Prelude.{pos, unwrap_or}
use Rattle.problem_read.proofs.Sums.{SumSoFar}
use Rattle.problem_read.proofs.ties.read_sum.Given as goal

abbrev pub invariant-loop-word : goal.invariant-loop-word
invariant-loop-word l = SumSoFar (drop 3 l.words) l.fn.terms.items l.terms.items (unwrap_or l.constant (pos 0)) l.left

abbrev pub decreases-loop-word : goal.decreases-loop-word
decreases-loop-word l = length l.left
