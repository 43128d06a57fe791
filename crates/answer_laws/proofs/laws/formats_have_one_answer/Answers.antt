use Rattle.answer_laws.proofs.Formats.{one_answer}
use Rattle.answer_laws.proofs.laws.formats_have_one_answer.Goals as goal

pub returns : goal.returns
returns c = one_answer c.one_reading.ensures c.mesh_texts_have_one_reading.ensures
