use Rattle.std.proofs.Common.{◌≡◌, ◌++◌, map, take}
use Rattle.std.specs.List.{All, flat_map}
use Rattle.mesh_loop.specs.Setup.{visit_masters, visit_rows}
use Rattle.mesh_loop.specs.Parts.{shown, IsVisitBelow}
use Rattle.mesh_loop.proofs.Gathering.{coupled}
use Rattle.mesh_loop.proofs.gather.add_cell.Given as goal

abbrev pub invariant-loop-visit : goal.invariant-loop-visit
invariant-loop-visit l = record {
  couplings : l.couplings ≡ coupled l.initial.couplings.size (l.initial.couplings.lists ++ map (visit_masters (shown l.source) l.cell) (take l.visit-index l.visits));
  rows : l.room.rows.items ≡ l.initial.room.rows.items ++ flat_map (visit_rows (shown l.source) l.cell) (take l.visit-index l.visits);
  below : All (IsVisitBelow (shown l.source) l.cell) (take l.visit-index l.visits);
}
