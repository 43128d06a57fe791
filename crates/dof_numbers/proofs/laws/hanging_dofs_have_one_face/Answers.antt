use Rattle.dof_numbers.proofs.Hung.{one_face}
use Rattle.dof_numbers.proofs.laws.hanging_dofs_have_one_face.Goals as goal

pub returns : goal.returns
returns c = one_face
