use Rattle.std.proofs.Common.{map, string_bytes}
use Rattle.run_words.specs.Held.{seen_settings}
use Rattle.run_words.proofs.JobWords.{asks_job, asks_no_job, cannot_ask_job}
use Rattle.run_words.proofs.job.read_job.Goals as goal

pub returns-in-None-clause-none : goal.returns-in-None-clause-none
returns-in-None-clause-none c = cannot_ask_job (map string_bytes c.args.words.now) c.in-None.ensures.none

pub returns-in-Some-clause-some : goal.returns-in-Some-clause-some
returns-in-Some-clause-some c =
    asks_job (map string_bytes c.args.words.now) (seen_settings c.in-Some.settings) c.job_of.result c.in-Some.ensures.some c.job_of.ensures

pub returns-in-Some-clause-none : goal.returns-in-Some-clause-none
returns-in-Some-clause-none c =
    asks_no_job (map string_bytes c.args.words.now) (seen_settings c.in-Some.settings) c.job_of.result c.in-Some.ensures.some c.job_of.ensures
