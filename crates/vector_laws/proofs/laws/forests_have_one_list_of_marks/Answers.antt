use Rattle.vector_laws.proofs.Marked.{one_marking}
use Rattle.vector_laws.proofs.laws.forests_have_one_list_of_marks.Goals as goal

pub returns : goal.returns
returns c = one_marking c.marks_are_unique.ensures
