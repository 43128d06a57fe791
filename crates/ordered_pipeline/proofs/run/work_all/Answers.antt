use Rattle.std.proofs.Common.{◌∙◌}
use Rattle.ordered_pipeline.specs.Hands.{IsFinished}
use Rattle.ordered_pipeline.proofs.HandLaws.{written_whole}
use Rattle.ordered_pipeline.proofs.run.work_all.Goals as goal

pub returns-clause-finished : goal.returns-clause-finished
returns-clause-finished g c =
    written_whole (λ h. IsFinished c.args.pipeline.now.table c.args.pipeline.now.key c.args.pool.now.table h.pass h.scratch) c.args.hands.now.len c.run_ordered.new.hands c.args.hands.now.items
    (c.run_ordered.ensures.len ∙ c.as_mut_slice.ensures.len) c.run_ordered.ensures.finished
