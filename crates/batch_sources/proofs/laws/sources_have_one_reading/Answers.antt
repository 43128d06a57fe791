use Rattle.batch_sources.proofs.OneReading.{one_reading_of_sources}
use Rattle.batch_sources.proofs.laws.sources_have_one_reading.Goals as goal

pub returns : goal.returns
returns c = one_reading_of_sources c.one_reading.ensures c.one_reading-2.ensures.jobs c.one_reading-2.ensures.fault c.one_reading-2.ensures.apart
