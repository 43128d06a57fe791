use Rattle.std.proofs.Common.{sym}
use Rattle.batch_run.proofs.Parts.{output_more}
use Rattle.batch_run.proofs.text.text_of.Goals as goal

pub loop-job-preserved : goal.loop-job-preserved
loop-job-preserved c =
    output_more c.args.answers.now c.loop-job.job c.index-answers-job.result c.outcome.result.now.status c.outcome.result.now.text.items c.loop-job.text.items c.push_part.new.text.items c.loop-job-test.true
    (sym c.index-answers-job.is) c.loop-job.invariant c.outcome.ensures c.in_ok-push_part.ensures
