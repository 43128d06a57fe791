use Rattle.std.proofs.Common.{map, string_bytes, subst, sym, ◌∙◌}
use Rattle.run_words.specs.Jobs.{AskForJob, AskForNoJob}
use Rattle.batch_read.proofs.SoFar.{none_of}
use Rattle.batch_read.proofs.job.Job.asking.Goals as goal

pub returns-else-asks : goal.returns-else-asks
returns-else-asks c = λ job. none_of c.read_job.result (AskForNoJob (map string_bytes c.as_slice.result.now)) c.read_job.ensures.none (sym c.is_some-asks.ensures ∙ c.if-asks.false) job.choice (subst (λ l. AskForJob (map string_bytes l) job.choice) (sym c.as_slice.ensures.value) job.asks)
