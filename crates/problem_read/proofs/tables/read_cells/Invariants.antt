use Rattle.std.proofs.Common.{length, drop}
use Rattle.fem_fixed.specs.Numbers.{id_of}
use Rattle.problem_read.proofs.Sums.{GivesSoFar}
use Rattle.problem_read.proofs.tables.read_cells.Given as goal

abbrev pub invariant-loop-word : goal.invariant-loop-word
invariant-loop-word l = GivesSoFar id_of (drop 1 l.words) l.cells.items l.left

abbrev pub decreases-loop-word : goal.decreases-loop-word
decreases-loop-word l = length l.left
