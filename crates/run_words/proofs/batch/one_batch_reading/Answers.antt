use Rattle.run_words.proofs.BatchOf.{batch_is_one}
use Rattle.run_words.proofs.batch.one_batch_reading.Goals as goal

pub returns : goal.returns
returns c = batch_is_one
