use Rattle.mesh_loop.specs.Parts.{shown}
use Rattle.mesh_loop.proofs.MasterSteps.{cell_below}
use Rattle.mesh_loop.proofs.gather.push_cell_dofs.Goals as goal

pub returns-clause-below : goal.returns-clause-below
returns-clause-below c =
    cell_below (shown c.args.source.now).given.forest (shown c.args.source.now).given.dofs c.args.cell c.of_cell.result.now c.requires.matched.numbered c.requires.cell c.of_cell.ensures
