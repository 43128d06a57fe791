use Rattle.run_words.proofs.JobWords.{job_or_not}
use Rattle.run_words.proofs.job.words_have_a_job_or_none.Goals as goal

pub returns : goal.returns
returns c = job_or_not
