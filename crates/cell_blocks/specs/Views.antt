-- What a setting shows.
use Rattle.cell_blocks.specs.declared.setting.Setting.{Setting}
use Rattle.cell_blocks.specs.Blocks.{Given}

abbrev pub given : Setting → Given
given setting = record { forest = setting.forest.now; dofs = setting.dofs.now; problem = setting.problem.now }
