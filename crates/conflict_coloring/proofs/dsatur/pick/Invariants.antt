use Rattle.std.proofs.Common.{ℕ, false, ◌≡◌, ◌==◌, ◌&&◌, ◌||◌, take, slice_index}
use Rattle.std.specs.BTreeSet.{contains}
use Rattle.conflict_coloring.specs.Conflict.{has}
use Rattle.conflict_coloring.specs.Colours.{cells_of}
use Rattle.conflict_coloring.specs.Links.{is_bare}
use Rattle.conflict_coloring.specs.Board.{IsBoard, pair_cmp}
use Rattle.conflict_coloring.proofs.dsatur.pick.Given as goal

abbrev pub invariant-loop-other : goal.invariant-loop-other
invariant-loop-other l = record {
  board : IsBoard l.conflicts (cells_of l.zones l.zone) (is_bare (cells_of l.zones l.zone) l.colours 4294967295) l.counts l.used l.keys;
  used : (d k : ℕ) → contains pair_cmp l.used (d, k) ≡ (contains pair_cmp l.initial.used (d, k) || (has (take l.other-index l.other-items) d && (is_bare (cells_of l.zones l.zone) l.colours 4294967295 d && l.colour == k)));
  kept : (d : ℕ) → has (cells_of l.zones l.zone) d ≡ false → slice_index l.counts d ≡ slice_index l.initial.counts d;
}
