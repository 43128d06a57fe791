use Rattle.answer_laws.proofs.Known.{generated_answer}
use Rattle.answer_laws.proofs.laws.words_without_texts_have_one_answer.Goals as goal

pub returns : goal.returns
returns c = generated_answer c.known_texts_have_one_answer.ensures
