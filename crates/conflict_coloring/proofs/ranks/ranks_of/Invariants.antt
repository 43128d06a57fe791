use Rattle.std.proofs.Common.{◌≡◌, map, take}
use Rattle.conflict_coloring.specs.Ranks.{rank_in}
use Rattle.conflict_coloring.proofs.ranks.ranks_of.Given as goal

abbrev pub invariant-loop-row : goal.invariant-loop-row
invariant-loop-row l = l.ranks.items ≡ map (rank_in l.rising) (take l.row-index l.rows)
