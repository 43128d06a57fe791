use Rattle.matrix_market.proofs.Matrices.{matrix_read_back}
use Rattle.matrix_market.proofs.laws.written_matrices_are_read_back.Goals as goal

pub returns : goal.returns
returns c = matrix_read_back
