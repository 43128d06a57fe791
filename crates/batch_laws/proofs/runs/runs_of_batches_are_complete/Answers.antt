use Rattle.batch_laws.proofs.Doing.{batches_are_complete}
use Rattle.batch_laws.proofs.runs.runs_of_batches_are_complete.Goals as goal

pub returns : goal.returns
returns c = batches_are_complete c.answers_of_batches_are_done.ensures
