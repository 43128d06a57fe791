use Rattle.std.proofs.Common.{◌≡◌, ℕ, ◌<◌, ◌≤◌, ◌*◌, length, slice_index_or, [], All}
use Rattle.dof_numbers.specs.Table.{told, Holds, seen_below, IsRow}
use Rattle.dof_numbers.proofs.dofs.Dofs.number_all.Given as goal

abbrev pub invariant-loop-cell : goal.invariant-loop-cell
invariant-loop-cell l = record {
  holds : Holds l.forest (seen_below 2 l.forest l.cell) (told l.table.nodes.items l.table.others.items) l.table.size;
  small : l.table.size ≤ 9 * l.cell;
  count : length l.rows.items ≡ l.cell;
  nine : All (λ row. length row ≡ 9) l.rows.items;
  rows : (c : ℕ) → c < l.cell → IsRow l.forest c (slice_index_or l.rows.items c []);
}
