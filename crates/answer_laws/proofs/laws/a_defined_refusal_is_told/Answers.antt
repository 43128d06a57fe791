use Rattle.answer_laws.proofs.Runs.{refusal_told}
use Rattle.answer_laws.proofs.laws.a_defined_refusal_is_told.Goals as goal

pub returns : goal.returns
returns c = refusal_told c.words_have_one_answer.ensures c.words_without_texts_have_one_answer.ensures
