use Rattle.batch_laws.proofs.Doing.{status_tells}
use Rattle.batch_laws.proofs.runs.a_status_tells_the_answer_of_a_batch.Goals as goal

pub returns : goal.returns
returns c = status_tells c.batches_have_an_answer.ensures c.answers_of_batches_are_done.ensures
