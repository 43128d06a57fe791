use Rattle.cell_blocks.proofs.Filled.{shown_whole}
use Rattle.cell_blocks.proofs.copy.CellCopy.blocks.Goals as goal

pub returns-clause-whole : goal.returns-clause-whole
returns-clause-whole c = shown_whole c.self.inside.fault c.self.inside.systems c.args.self.now c.self.view_is c.self.invariant
