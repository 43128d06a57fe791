use Rattle.answer_laws.proofs.SomeSums.{some_system_texts}
use Rattle.answer_laws.proofs.parts.systems_have_a_list_of_texts.Goals as goal

pub returns : goal.returns
returns c = some_system_texts c.sum_exists.ensures c.cells_have_a_coloring.ensures
