use Rattle.affine_constraints.proofs.Existence.{an_answer}
use Rattle.affine_constraints.proofs.laws.lines_have_an_answer.Goals as goal

pub returns : goal.returns
returns c = an_answer
