use Rattle.std.proofs.Common.{length, map, string_bytes}
use Rattle.run_words.specs.Held.{seen_settings, HoldsSoFar}
use Rattle.run_words.proofs.settings.Settings.read.Given as goal

abbrev pub invariant-loop-left : goal.invariant-loop-left
invariant-loop-left l = HoldsSoFar (map string_bytes l.words) (seen_settings l.settings) (map string_bytes l.left)

abbrev pub decreases-loop-left : goal.decreases-loop-left
decreases-loop-left l = length l.left
