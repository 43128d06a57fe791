use Rattle.vector_laws.proofs.Marked.{some_marking}
use Rattle.vector_laws.proofs.laws.forests_have_marks.Goals as goal

pub returns : goal.returns
returns c = some_marking
