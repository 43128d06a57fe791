use Rattle.fem_fixed.proofs.Kept.{short_unit_is, short_unit_size, unit_positive}
use Rattle.fem_fixed.proofs.rounding.power_of_two.Goals as goal

pub returns-clause-value : goal.returns-clause-value
returns-clause-value c = short_unit_is c.args.power c.requires

pub returns-clause-positive : goal.returns-clause-positive
returns-clause-positive c = rw (short_unit_is c.args.power c.requires) (unit_positive c.args.power)

pub returns-clause-size : goal.returns-clause-size
returns-clause-size c = rw (short_unit_is c.args.power c.requires) (short_unit_size c.args.power c.requires)
