use Rattle.std.proofs.Common.{◌≡◌, length, map, string_bytes}
use Rattle.run_words.specs.Waits.{waits}
use Rattle.run_words.proofs.wait.wants_wait.Given as goal

abbrev pub invariant-loop-left : goal.invariant-loop-left
invariant-loop-left l = waits (map string_bytes l.words) ≡ waits (map string_bytes l.left)

abbrev pub decreases-loop-left : goal.decreases-loop-left
decreases-loop-left l = length l.left
