use Rattle.std.proofs.Common.{◌≡◌, ◌≤◌, ◌++◌, length, map, take}
use Rattle.fem_text.specs.Lines.{words_of}
use Rattle.fem_text.proofs.line_words.LineWords.of.Given as goal

abbrev pub invariant-loop-count : goal.invariant-loop-count
invariant-loop-count l = (length l.first ≡ 8) × (l.count ≤ 8) × (words_of l.line.bytes.now ≡ map (λ word. word.now) (take l.count l.first) ++ words_of l.left)

abbrev pub decreases-loop-count : goal.decreases-loop-count
decreases-loop-count l = length l.left
