use Rattle.std.proofs.Common.{rules}
use Rattle.cell_blocks.specs.Views.{given}
use Rattle.mesh_loop.proofs.Limited.{own_limited, some_of_cell}
use Rattle.mesh_loop.proofs.limits.look_up_own.Goals as goal

pub returns-clause-block : goal.returns-clause-block
returns-clause-block c =
    own_limited (given c.args.setting.now) c.args.cell c.points-points.result c.source-source.result c.material-material.result c.requires.numbered c.requires.cell c.points-points.ensures.value (search rules)
    c.points-points.ensures.reach c.material-material.ensures c.source-source.ensures.value c.source-source.ensures.small

pub returns-clause-some : goal.returns-clause-some
returns-clause-some c = some_of_cell (given c.args.setting.now) c.args.cell c.requires.numbered c.requires.cell
