use Rattle.answer_laws.proofs.Refusals.{refused_words}
use Rattle.answer_laws.proofs.laws.refused_words_have_status_2.Goals as goal

pub returns : goal.returns
returns c = refused_words
