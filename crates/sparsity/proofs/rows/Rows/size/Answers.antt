use Rattle.std.proofs.Common.{ap, length, arith}
use Rattle.sparsity.proofs.Numbered.{rows_length}
use Rattle.sparsity.proofs.rows.Rows.size.Goals as goal

pub returns : goal.returns
returns c = omega (arith, c.len.ensures, rows_length c.self.inside.rows.items, ap length c.self.view_is, c.self.inside.rows.ok)
