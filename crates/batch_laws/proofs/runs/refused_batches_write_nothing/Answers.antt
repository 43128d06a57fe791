use Rattle.batch_laws.proofs.Doing.{refused_write_nothing}
use Rattle.batch_laws.proofs.runs.refused_batches_write_nothing.Goals as goal

pub returns : goal.returns
returns c = refused_write_nothing c.batches_have_one_answer.ensures
