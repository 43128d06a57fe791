use Rattle.std.proofs.Common.{◌<◌, ℕ, slice_index_or}
use Rattle.colored_copier.specs.Phases.{NotOver}
use Rattle.colored_copier.proofs.driver.run_colored.Given as goal

abbrev pub invariant-loop-i : goal.invariant-loop-i
invariant-loop-i g l = (k : ℕ) (d : _) → k < l.i → NotOver (slice_index_or l.hands k d).pass.phase
