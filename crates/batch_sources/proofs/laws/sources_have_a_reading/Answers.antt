use Rattle.batch_sources.proofs.SomeReading.{some_reading}
use Rattle.batch_sources.proofs.laws.sources_have_a_reading.Goals as goal

pub returns : goal.returns
returns c = some_reading c.one_reading.ensures.some
