use Rattle.std.proofs.Common.{ℕ, List, true, subst}
use Rattle.affine_constraints.specs.Lines.{lines_in}
use Rattle.serial_sum.specs.Columns.{columns_at}
use Rattle.serial_sum.specs.Rows.{FitsRow}
use Rattle.block_sums.specs.Parts.{cell_contributions}
use Rattle.block_sums.proofs.CellSteps.{cell_allowed}
use Rattle.block_sums.proofs.RowCells.{for_columns, row_run}
use Rattle.block_sums.proofs.row_writing.add_to_row.Goals as goal

pub add_blocks-requires-clause-dofs : goal.add_blocks-requires-clause-dofs
add_blocks-requires-clause-dofs c = λ k d inside. (c.requires.holds k d inside).dofs

pub add_blocks-requires-clause-given : goal.add_blocks-requires-clause-given
add_blocks-requires-clause-given c =
    for_columns c.args.system.now.pattern.now c.columns_of.result.now c.args.i (cell_contributions (lines_in c.args.system.now.closed.now) c.args.copy.now) c.columns_of.ensures.value
    (cell_allowed c.args.system.now.pattern.now c.args.system.now.closed.now c.args.copy.now c.size-lines.ensures.forms c.blocks-blocks.ensures.whole c.requires.holds)

pub returns-clause-run : goal.returns-clause-run
returns-clause-run c =
    row_run c.args.system.now.digits c.columns_of.result.now (columns_at c.args.system.now.pattern.now c.args.i) c.args.i (cell_contributions (lines_in c.args.system.now.closed.now) c.args.copy.now) c.args.row.now c.add_blocks.new.sum true
    c.add_blocks.result c.columns_of.ensures.value c.add_blocks.ensures.run

pub returns-clause-fits : goal.returns-clause-fits
returns-clause-fits c =
    let P : List ℕ → Type 0 = λ columns. FitsRow columns c.add_blocks.new.sum in
    subst P c.columns_of.ensures.value c.add_blocks.ensures.fits
