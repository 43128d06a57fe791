use Rattle.std.proofs.Common.{length, ap, arith}
use Rattle.cell_blocks.proofs.Entries.{row_past}
use Rattle.cell_blocks.proofs.block.Block.row.Goals as goal

pub returns : goal.returns
returns c = row_past c.args.self.now c.args.i c.is_within_limits.ensures (omega (arith, c.if-i-dofs.false, ap length c.dofs.ensures))
