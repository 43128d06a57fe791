use Rattle.matrix_market.proofs.RightSides.{vector_read_back}
use Rattle.matrix_market.proofs.laws.written_right_sides_are_read_back.Goals as goal

pub returns : goal.returns
returns c = vector_read_back
