use Rattle.std.proofs.Common.{◌≡◌, ◌∷◌, length}
use Rattle.fem_text.specs.LineSteps.{line_seen}
use Rattle.fem_text.specs.WordLines.{without_comments}
use Rattle.fem_text.proofs.word_lines.WordLines.expect_behind_comments.Given as goal

abbrev pub invariant-loop-line : goal.invariant-loop-line
invariant-loop-line g l =
    (without_comments l.mark l.fn.self.ahead ≡ without_comments l.mark (line_seen l.line ∷ l.self.ahead)) × (l.self.past ≡ l.fn.self.past)

abbrev pub decreases-loop-line : goal.decreases-loop-line
decreases-loop-line g l = length l.self.ahead
