use Rattle.batch_laws.proofs.Batches.{an_answer_of_batches}
use Rattle.batch_laws.proofs.laws.batches_have_an_answer.Goals as goal

pub returns : goal.returns
returns c = an_answer_of_batches c.one_reading.ensures c.words_have_an_answer.ensures c.sources_have_a_reading.ensures
