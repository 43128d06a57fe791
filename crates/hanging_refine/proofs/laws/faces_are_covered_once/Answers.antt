use Rattle.hanging_refine.proofs.OneSide.{covered_once}
use Rattle.hanging_refine.proofs.laws.faces_are_covered_once.Goals as goal

pub returns : goal.returns
returns c = covered_once
