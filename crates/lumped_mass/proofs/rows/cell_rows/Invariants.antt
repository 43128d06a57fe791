use Rattle.lumped_mass.specs.Rows.{AreRising}
use Rattle.lumped_mass.proofs.rows.cell_rows.Given as goal

abbrev pub invariant-loop-cell : goal.invariant-loop-cell
invariant-loop-cell l = AreRising l.cells.dofs.now.cells l.rows l.cell
