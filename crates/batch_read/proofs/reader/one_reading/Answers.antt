use Rattle.batch_read.proofs.Readings.{one_fault, not_both, reads}
use Rattle.batch_read.proofs.reader.one_reading.Goals as goal

pub returns-clause-fault : goal.returns-clause-fault
returns-clause-fault c = one_fault

pub returns-clause-apart : goal.returns-clause-apart
returns-clause-apart c = not_both

pub returns-clause-some : goal.returns-clause-some
returns-clause-some c = reads c.words_have_a_job_or_none.ensures
