use Rattle.batch_laws.proofs.Doing.{status_2}
use Rattle.batch_laws.proofs.runs.refused_words_have_status_2.Goals as goal

pub returns : goal.returns
returns c = status_2 c.refused_words_have_status_2.ensures
