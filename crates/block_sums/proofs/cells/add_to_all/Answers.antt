use Rattle.std.proofs.Common.{None}
use Rattle.affine_constraints.specs.Lines.{lines_in}
use Rattle.block_sums.specs.Parts.{cell_contributions}
use Rattle.block_sums.proofs.CellSteps.{cell_allowed, rows_run}
use Rattle.block_sums.proofs.cells.add_to_all.Goals as goal

pub add_blocks-requires-clause-dofs : goal.add_blocks-requires-clause-dofs
add_blocks-requires-clause-dofs c = λ k d inside. (c.requires.holds k d inside).dofs

pub add_blocks-requires-clause-given : goal.add_blocks-requires-clause-given
add_blocks-requires-clause-given c = cell_allowed c.args.system.now.pattern.now c.args.system.now.closed.now c.args.copy.now c.size-lines.ensures.forms c.blocks-blocks.ensures.whole c.requires.holds

pub returns : goal.returns
returns c = record {
  run = rows_run c.args.system.now.digits c.args.system.now.pattern.now (cell_contributions (lines_in c.args.system.now.closed.now) c.args.copy.now) c.args.rows.now c.add_blocks.new.sum None c.add_blocks.result c.add_blocks.ensures.run;
  fits = c.add_blocks.ensures.fits;
  allowed = cell_allowed c.args.system.now.pattern.now c.args.system.now.closed.now c.args.copy.now c.size-lines.ensures.forms c.blocks-blocks.ensures.whole c.requires.holds;
}
