use Rattle.corner_names.proofs.Active.{forest_covered}
use Rattle.corner_names.proofs.forests.faces_are_covered.Goals as goal

pub returns : goal.returns
returns c = forest_covered
