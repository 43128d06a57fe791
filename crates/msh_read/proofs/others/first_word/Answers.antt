use Rattle.std.proofs.Common.{ap}
use Rattle.msh_read.specs.Others.{or_empty}
use Rattle.msh_read.proofs.others.first_word.Goals as goal

pub returns-in-Some : goal.returns-in-Some
returns-in-Some c = ap or_empty c.in-Some.ensures

pub returns-in-None : goal.returns-in-None
returns-in-None c = ap or_empty c.in-None.ensures
