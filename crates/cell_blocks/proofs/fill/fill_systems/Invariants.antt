use Rattle.cell_blocks.specs.Filling.{IsFilled}
use Rattle.cell_blocks.specs.Views.{given}
use Rattle.cell_blocks.proofs.fill.fill_systems.Given as goal

abbrev pub invariant-loop-visit : goal.invariant-loop-visit
invariant-loop-visit l = IsFilled (given l.setting) l.cell l.visits l.visit-index l.systems
