use Rattle.std.proofs.Common.{false, ◌≡◌, ◌≤◌, ◌-◌, ◌==◌, ◌&&◌, ℕ, slice_index, take}
use Rattle.std.specs.BTreeSet.{contains}
use Rattle.conflict_coloring.specs.Conflict.{has}
use Rattle.conflict_coloring.specs.Colours.{IsRun, cells_of, degree}
use Rattle.conflict_coloring.specs.Links.{IsLinked, is_bare, key_cmp}
use Rattle.conflict_coloring.specs.Board.{IsBoard, AreNoted}
use Rattle.conflict_coloring.proofs.Spreads.{without}
use Rattle.conflict_coloring.proofs.dsatur.colour_zone.Given as goal

abbrev pub invariant-loop-cell : goal.invariant-loop-cell
invariant-loop-cell l = (s m d : ℕ) → d ≤ 4294967295 → contains key_cmp l.keys (s, m, 4294967295 - d) ≡ (has (take l.cell-index l.cells) d && (s == slice_index l.counts d && m == degree l.conflicts (cells_of l.zones l.zone) d))

abbrev pub invariant-loop-key : goal.invariant-loop-key
invariant-loop-key l = record {
  run : IsRun l.conflicts (cells_of l.zones l.zone) l.picks.items;
  linked : IsLinked (cells_of l.zones l.zone) l.colours 4294967295 l.picks.items;
  board : IsBoard l.conflicts (cells_of l.zones l.zone) (is_bare (cells_of l.zones l.zone) l.colours 4294967295) l.counts l.used l.keys;
  noted : AreNoted l.conflicts l.picks.items (is_bare (cells_of l.zones l.zone) l.colours 4294967295) l.used;
  kept : (d : ℕ) → has (cells_of l.zones l.zone) d ≡ false → slice_index l.colours d ≡ slice_index l.initial.colours d;
  kept_counts : (d : ℕ) → has (cells_of l.zones l.zone) d ≡ false → slice_index l.counts d ≡ slice_index l.initial.counts d;
}

abbrev pub decreases-loop-key : goal.decreases-loop-key
decreases-loop-key l = without 4294967295 l.colours
