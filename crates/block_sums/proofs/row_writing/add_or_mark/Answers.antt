use Rattle.std.proofs.Common.{sym, subst, true}
use Rattle.affine_constraints.specs.Lines.{lines_in}
use Rattle.sparsity.specs.declared.rows.Row.{Row}
use Rattle.sparsity.specs.declared.rows.MarkKind.TheVariants as kinds
use Rattle.serial_sum.specs.Columns.{columns_at}
use Rattle.serial_sum.specs.Rows.{FitsRow}
use Rattle.serial_sum.specs.Steps.{RowRun, row_step}
use Rattle.serial_sum.proofs.Fitting.{marked_fits}
use Rattle.block_sums.specs.Parts.{part_of_blocks}
use Rattle.block_sums.proofs.RowCells.{all_added, not_all_added}
use Rattle.block_sums.proofs.row_writing.add_or_mark.Goals as goal

pub returns-then-add_to_row-clause-row : goal.returns-then-add_to_row-clause-row
returns-then-add_to_row-clause-row c =
    let run : RowRun = row_step c.args.system.now.digits (columns_at c.args.system.now.pattern.now c.args.i) c.args.i (record { row = c.args.row.now; all = true })
    (part_of_blocks (lines_in c.args.system.now.closed.now) c.args.cell c.args.copy.now) in
    all_added c.args.cell c.add_to_row.new.row c.add_to_row.result run c.if-add_to_row.true c.add_to_row.ensures.run

pub returns : goal.returns
returns c =
    let run : RowRun = row_step c.args.system.now.digits (columns_at c.args.system.now.pattern.now c.args.i) c.args.i (record { row = c.args.row.now; all = true })
    (part_of_blocks (lines_in c.args.system.now.closed.now) c.args.cell c.args.copy.now) in
    let P : Row → Type 0 = FitsRow (columns_at c.args.system.now.pattern.now c.args.i) in
    record {
      row = not_all_added c.args.cell c.add_to_row.new.row c.mark.new.row c.add_to_row.result run c.if-add_to_row.false c.add_to_row.ensures.run c.mark.ensures;
      fits = subst P (sym c.mark.ensures) (marked_fits (columns_at c.args.system.now.pattern.now c.args.i) c.args.cell kinds.Sum c.add_to_row.new.row c.add_to_row.ensures.fits);
    }
