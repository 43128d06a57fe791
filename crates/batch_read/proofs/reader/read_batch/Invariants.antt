use Rattle.std.proofs.Common.{length}
use Rattle.batch_read.specs.Batch.{job_lines}
use Rattle.batch_read.specs.SoFar.{HoldsSoFar}
use Rattle.batch_read.proofs.reader.read_batch.Given as goal

abbrev pub invariant-loop-line : goal.invariant-loop-line
invariant-loop-line l = HoldsSoFar (job_lines l.text) l.jobs.items l.lines

abbrev pub decreases-loop-line : goal.decreases-loop-line
decreases-loop-line l = length l.lines.ahead
