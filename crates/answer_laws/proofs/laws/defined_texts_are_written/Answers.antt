use Rattle.answer_laws.proofs.Runs.{texts_written}
use Rattle.answer_laws.proofs.laws.defined_texts_are_written.Goals as goal

pub returns : goal.returns
returns c = texts_written c.words_have_one_answer.ensures c.words_without_texts_have_one_answer.ensures
