use Rattle.std.proofs.Common.{ℕ, ◌<◌, ◌-◌, ◌≡◌, true}
use Rattle.std.specs.BTreeSet.{contains}
use Rattle.conflict_coloring.specs.Board.{pair_cmp}
use Rattle.conflict_coloring.proofs.dsatur.least_free.Given as goal

abbrev pub invariant-loop-colour : goal.invariant-loop-colour
invariant-loop-colour l = record {
  least : (j : ℕ) → j < l.colour → contains pair_cmp l.used (l.cell, j) ≡ true;
  real : l.colour < 4294967295;
}

abbrev pub decreases-loop-colour : goal.decreases-loop-colour
decreases-loop-colour l = 4294967295 - l.colour
