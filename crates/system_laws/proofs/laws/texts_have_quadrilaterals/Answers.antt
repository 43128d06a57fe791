use Rattle.system_laws.proofs.Quadrilaterals.{four_cornered}
use Rattle.system_laws.proofs.laws.texts_have_quadrilaterals.Goals as goal

pub returns-clause-ucd : goal.returns-clause-ucd
returns-clause-ucd c = four_cornered

pub returns-clause-msh : goal.returns-clause-msh
returns-clause-msh c = c.quadrilaterals_have_four_corners.ensures
