use Rattle.std.proofs.Common.{List, subst, sym}
use Rattle.sparsity.specs.declared.rows.Row.{Row}
use Rattle.serial_sum.specs.Rows.{FitsRows}
use Rattle.serial_sum.proofs.RowLaws.{rows_fit}
use Rattle.serial_sum.proofs.all_rows.AllRowsAdder.add.Goals as goal

pub returns-clause-fits : goal.returns-clause-fits
returns-clause-fits c =
    let P : List Row → Type 0 = λ rows. FitsRows c.args.self.now.pattern.now rows in
    subst P (sym c.add_contribution-added.ensures.rows) (rows_fit c.args.self.now.digits c.args.self.now.pattern.now c.args.rows.now c.args.given c.requires.0)
