use Rattle.std.proofs.Common.{length}
use Rattle.std.specs.Prelude.{Some}
use Rattle.fem_text.specs.WordLines.{text_lines}
use Rattle.problem_read.specs.Steps.{HoldsSoFar}
use Rattle.problem_read.proofs.reader.read_problem.Given as goal

abbrev pub invariant-loop-line : goal.invariant-loop-line
invariant-loop-line l = HoldsSoFar (text_lines (Some 35) l.text) l.tables l.lines

abbrev pub decreases-loop-line : goal.decreases-loop-line
decreases-loop-line l = length l.lines.ahead
