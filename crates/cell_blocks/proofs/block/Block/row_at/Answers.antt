use Rattle.cell_blocks.proofs.Rooms.{row_long, row_small}
use Rattle.cell_blocks.proofs.block.Block.row_at.Goals as goal

pub returns-clause-length : goal.returns-clause-length
returns-clause-length c = row_long c.self.inside.system.now c.args.self.now c.self.view_is c.self.invariant c.args.i c.requires

pub returns-clause-small : goal.returns-clause-small
returns-clause-small c = row_small c.self.inside.system.now c.args.self.now c.self.view_is c.self.invariant c.args.i c.requires
