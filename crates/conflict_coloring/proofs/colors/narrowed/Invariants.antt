use Rattle.std.proofs.Common.{◌≡◌, take}
use Rattle.conflict_coloring.proofs.colors.narrowed.Given as goal

abbrev pub invariant-loop-start : goal.invariant-loop-start
invariant-loop-start l = l.made.items ≡ take l.start-index l.starts
