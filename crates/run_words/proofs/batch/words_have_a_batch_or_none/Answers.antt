use Rattle.run_words.proofs.BatchOf.{batch_or_not}
use Rattle.run_words.proofs.batch.words_have_a_batch_or_none.Goals as goal

pub returns : goal.returns
returns c = batch_or_not
