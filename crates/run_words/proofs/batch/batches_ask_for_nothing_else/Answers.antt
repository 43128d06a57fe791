use Rattle.run_words.proofs.BatchOf.{batch_alone}
use Rattle.run_words.proofs.batch.batches_ask_for_nothing_else.Goals as goal

pub returns : goal.returns
returns c = batch_alone
