use Rattle.batch_laws.proofs.Batches.{one_answer_of_batches}
use Rattle.batch_laws.proofs.laws.batches_have_one_answer.Goals as goal

pub returns : goal.returns
returns c = one_answer_of_batches c.one_reading.ensures c.words_have_one_answer.ensures c.one_reading-2.ensures.jobs c.sources_have_one_reading.ensures
