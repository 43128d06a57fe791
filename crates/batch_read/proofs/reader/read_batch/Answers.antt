use Rattle.std.proofs.lemmas.Result.{err_from_is_err_and}
use Rattle.batch_read.specs.Batch.{job_lines}
use Rattle.batch_read.proofs.SoFar.{one_job, fails_or_memory}
use Rattle.batch_read.proofs.reader.read_batch.Goals as goal

pub loop-line-preserved : goal.loop-line-preserved
loop-line-preserved c =
    one_job (job_lines c.args.text.now) c.loop-line.jobs.items c.add_job.new.jobs.items c.loop-line.lines c.next_line.new.self c.in-Some.line c.loop-line.invariant c.in-Some.ensures
    c.in_ok-add_job.ensures.added c.in_ok-add_job.ensures.job c.in_ok-add_job.ensures.few

pub returns-in_err-add_job-clause-err : goal.returns-in_err-add_job-clause-err
returns-in_err-add_job-clause-err c =
    let p = err_from_is_err_and c.from_residual.result c.from_residual.ensures.1 in
    rw (p.1, p.2)
    (fails_or_memory c.args.text.now c.loop-line.jobs.items c.loop-line.lines c.next_line.new.self c.in-Some.line c.in_err-add_job.field-0.0 c.loop-line.invariant c.in-Some.ensures c.in_err-add_job.ensures.err)
