use Rattle.std.proofs.Common.{◌≡◌, ◌∙◌, sym, ap, subst, Some, None}
use Rattle.affine_constraints.specs.Lines.{lines_in}
use Rattle.cell_blocks.specs.Visited.{fault_in}
use Rattle.sparsity.specs.declared.rows.Row.{Row}
use Rattle.sparsity.specs.declared.rows.MarkKind.{MarkKind}
use Rattle.serial_sum.specs.Columns.{columns_at}
use Rattle.serial_sum.specs.Rows.{FitsRow}
use Rattle.serial_sum.specs.Marks.{marked, row_after_fault}
use Rattle.serial_sum.proofs.Fitting.{marked_fits}
use Rattle.block_sums.specs.Parts.{part_of_blocks}
use Rattle.block_sums.proofs.row_writing.write_row.Goals as goal

pub returns-in-Some : goal.returns-in-Some
returns-in-Some c =
    let told : Some c.in-Some.fault ≡ fault_in c.args.copy.now = sym c.in-Some.is ∙ c.fault.ensures in
    record {
      row = c.mark.ensures ∙ ap (λ (kind : MarkKind). marked c.args.cell kind c.args.row.now) c.kind_of.ensures
          ∙ ap (row_after_fault c.args.system.now.digits (columns_at c.args.system.now.pattern.now c.args.i) c.args.i c.args.row.now (part_of_blocks (lines_in c.args.system.now.closed.now) c.args.cell c.args.copy.now)) told;
      fits = (let P : Row → Type 0 = FitsRow (columns_at c.args.system.now.pattern.now c.args.i) in
          subst P (sym c.mark.ensures) (marked_fits (columns_at c.args.system.now.pattern.now c.args.i) c.args.cell c.kind_of.result c.args.row.now c.requires.fits));
    }

pub returns-in-None : goal.returns-in-None
returns-in-None c =
    let formed : None ≡ fault_in c.args.copy.now = sym c.in-None.is ∙ c.fault.ensures in
    record {
      row = c.add_or_mark.ensures.row
          ∙ ap (row_after_fault c.args.system.now.digits (columns_at c.args.system.now.pattern.now c.args.i) c.args.i c.args.row.now (part_of_blocks (lines_in c.args.system.now.closed.now) c.args.cell c.args.copy.now)) formed;
      fits = c.add_or_mark.ensures.fits;
    }
