use Rattle.std.proofs.Common.{length, map, string_bytes}
use Rattle.fem_text.specs.Lines.{words_of}
use Rattle.batch_read.specs.SoFar.{HoldsTexts}
use Rattle.batch_read.proofs.job.texts_of.Given as goal

abbrev pub invariant-loop-word : goal.invariant-loop-word
invariant-loop-word l = HoldsTexts (words_of l.line.bytes.now) (map string_bytes l.texts.items) l.left

abbrev pub decreases-loop-word : goal.decreases-loop-word
decreases-loop-word l = length l.left
