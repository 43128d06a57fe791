use Rattle.answer_laws.proofs.Complete.{complete}
use Rattle.answer_laws.proofs.laws.runs_are_complete.Goals as goal

pub returns : goal.returns
returns c = complete c.defined_texts_are_written.ensures c.a_defined_refusal_is_told.ensures
