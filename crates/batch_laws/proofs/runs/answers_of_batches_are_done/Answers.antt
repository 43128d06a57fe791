use Rattle.batch_laws.proofs.Doing.{answers_are_done}
use Rattle.batch_laws.proofs.runs.answers_of_batches_are_done.Goals as goal

pub returns : goal.returns
returns c = answers_are_done c.batches_have_one_answer.ensures
