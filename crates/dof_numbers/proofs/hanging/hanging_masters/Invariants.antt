use Rattle.std.proofs.Common.{◌≡◌, length}
use Rattle.dof_numbers.specs.Masters.{HoldsFirst}
use Rattle.dof_numbers.proofs.hanging.hanging_masters.Given as goal

abbrev pub invariant-loop-cell : goal.invariant-loop-cell
invariant-loop-cell l = record {
  held : HoldsFirst l.dofs.degree l.forest l.cell 0 l.table.items;
  len : length l.table.items ≡ l.dofs.size;
}

abbrev pub invariant-loop-face : goal.invariant-loop-face
invariant-loop-face l = record {
  held : HoldsFirst l.dofs.degree l.forest l.cell l.face l.table.items;
  len : length l.table.items ≡ l.dofs.size;
}
