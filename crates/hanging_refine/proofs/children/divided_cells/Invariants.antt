use Rattle.hanging_refine.specs.Step.{is_marked}
use Rattle.hanging_refine.proofs.Nexts.{NextBelow}
use Rattle.hanging_refine.proofs.children.divided_cells.Given as goal

abbrev pub invariant-loop-at : goal.invariant-loop-at
invariant-loop-at l = NextBelow l.initial.table l.table l.cells (is_marked l.marks) l.next.items l.at
