use Rattle.std.proofs.Common.{◌≡◌, ◌<◌, ℕ, map}
use Rattle.std.specs.List.{All, flat_map, range_with_len}
use Rattle.mesh_loop.specs.Setup.{cell_visits, coupled_by, written_rows}
use Rattle.mesh_loop.specs.Parts.{shown, IsVisitBelow}
use Rattle.mesh_loop.proofs.Gathering.{coupled}
use Rattle.mesh_loop.proofs.gather.gather.Given as goal

abbrev pub invariant-loop-cell : goal.invariant-loop-cell
invariant-loop-cell l = record {
  couplings : l.couplings ≡ coupled (shown l.source).given.dofs.size (flat_map (coupled_by (shown l.source)) (range_with_len 0 l.cell));
  rows : l.rows ≡ map (written_rows (shown l.source)) (range_with_len 0 l.cell);
  below : (c : ℕ) → c < l.cell → All (IsVisitBelow (shown l.source) c) (cell_visits (shown l.source) c);
}
