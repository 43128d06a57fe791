use Rattle.std.proofs.Common.{to_z, of_z, subst, sym}
use Rattle.std.specs.Int.{w128}
use Rattle.sparsity.specs.declared.rows.Row.{Row}
use Rattle.serial_sum.specs.Rows.{FitsRow}
use Rattle.serial_sum.proofs.RowLaws.{row_fits}
use Rattle.serial_sum.proofs.one_row.OneRowAdder.add.Goals as goal

pub returns-clause-fits : goal.returns-clause-fits
returns-clause-fits c =
    let P : Row → Type 0 = FitsRow c.args.self.now.columns.now in
    subst P (sym c.add-added.ensures.row) (row_fits c.args.self.now.digits c.args.self.now.columns.now c.args.row.now c.args.given.target (to_z w128 (of_z w128 c.args.given.value)) c.requires.0)
