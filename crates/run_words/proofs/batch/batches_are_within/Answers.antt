use Rattle.run_words.proofs.BatchOf.{batch_within}
use Rattle.run_words.proofs.batch.batches_are_within.Goals as goal

pub returns : goal.returns
returns c = batch_within
