use Rattle.mesh_loop.proofs.Covered.{all_written}
use Rattle.mesh_loop.proofs.setup.Setup.cells_are_written.Goals as goal

pub returns : goal.returns
returns c = all_written _ c.args.self.now c.self.view_is c.self.invariant.matched c.self.invariant.cells c.size-size.ensures.forms
