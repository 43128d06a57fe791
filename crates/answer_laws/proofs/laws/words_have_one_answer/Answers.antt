use Rattle.answer_laws.proofs.Known.{held_answer}
use Rattle.answer_laws.proofs.laws.words_have_one_answer.Goals as goal

pub returns : goal.returns
returns c = held_answer c.known_texts_have_one_answer.ensures
