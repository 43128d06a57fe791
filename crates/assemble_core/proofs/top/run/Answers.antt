use Rattle.run_words.specs.BatchWords.{seen_batch}
use Rattle.assemble_core.specs.Batch.{without_batch, with_batch}
use Rattle.assemble_core.proofs.top.run.Goals as goal

pub returns-in-Some : goal.returns-in-Some
returns-in-Some g c = with_batch (seen_batch c.in-Some.options) c.in-Some.ensures.some c.run_batch.ensures

pub returns-in-None : goal.returns-in-None
returns-in-None g c = without_batch c.in-None.ensures.none c.run_alone.ensures
