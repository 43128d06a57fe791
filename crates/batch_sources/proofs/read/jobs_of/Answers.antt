use Rattle.batch_sources.proofs.Shelving.{short_text}
use Rattle.batch_sources.proofs.read.jobs_of.Goals as goal

pub read_batch-requires : goal.read_batch-requires
read_batch-requires c = short_text c.args.shelf.now c.args.name.now c.in-Some.text.now c.in-Some.ensures c.requires.few
