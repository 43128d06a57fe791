use Rattle.std.proofs.Common.{◌≡◌, ℕ, ◌<◌, ◌≤◌, ◌*◌, length, slice_index_or, [], All}
use Rattle.dof_numbers.specs.Table.{told, Holds, seen_below}
use Rattle.dof_numbers.proofs.Rows.{IsVertexRow}
use Rattle.dof_numbers.proofs.dofs.Dofs.number_vertices.Given as goal

abbrev pub invariant-loop-cell : goal.invariant-loop-cell
invariant-loop-cell l = record {
  holds : Holds l.forest (seen_below 1 l.forest l.cell) (told l.table.nodes.items l.table.others.items) l.table.size;
  small : l.table.size ≤ 4 * l.cell;
  count : length l.rows.items ≡ l.cell;
  four : All (λ row. length row ≡ 4) l.rows.items;
  corners : (c : ℕ) → c < l.cell → IsVertexRow l.forest c (slice_index_or l.rows.items c []);
}
