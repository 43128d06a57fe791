use Rattle.batch_laws.proofs.Batches.{write_what_runs_write}
use Rattle.batch_laws.proofs.laws.batches_write_what_runs_write.Goals as goal

pub returns : goal.returns
returns c = write_what_runs_write c.one_reading.ensures c.words_have_one_answer.ensures
