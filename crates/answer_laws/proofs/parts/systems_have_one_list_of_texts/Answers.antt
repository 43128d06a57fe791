use Rattle.answer_laws.proofs.Targets.{one_system_texts}
use Rattle.answer_laws.proofs.parts.systems_have_one_list_of_texts.Goals as goal

pub returns : goal.returns
returns c = one_system_texts c.sum_is_unique.ensures c.cells_have_one_coloring.ensures
