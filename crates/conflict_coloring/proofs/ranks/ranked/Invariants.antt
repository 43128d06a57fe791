use Rattle.std.proofs.Common.{◌≡◌, take}
use Rattle.conflict_coloring.specs.Ranks.{ranked_by}
use Rattle.conflict_coloring.proofs.ranks.ranked.Given as goal

abbrev pub invariant-loop-cell : goal.invariant-loop-cell
invariant-loop-cell l = l.made ≡ ranked_by l.rising (take l.cell l.conflicts)
