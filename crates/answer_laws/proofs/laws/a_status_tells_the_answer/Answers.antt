use Rattle.answer_laws.proofs.Runs.{zero_tells, others_tell}
use Rattle.answer_laws.proofs.laws.a_status_tells_the_answer.Goals as goal

pub returns-clause-written : goal.returns-clause-written
returns-clause-written c = zero_tells c.words_have_one_answer.ensures c.words_without_texts_have_one_answer.ensures

pub returns-clause-refused : goal.returns-clause-refused
returns-clause-refused c = others_tell c.words_have_one_answer.ensures c.words_without_texts_have_one_answer.ensures
