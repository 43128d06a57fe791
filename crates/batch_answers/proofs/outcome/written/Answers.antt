use Rattle.std.proofs.Common.{sym, ap, ◌∙◌, ◌++◌}
use Rattle.batch_answers.proofs.Ended.{text_more}
use Rattle.batch_answers.proofs.outcome.written.Goals as goal

pub loop-target-preserved : goal.loop-target-preserved
loop-target-preserved c =
    text_more c.args.targets.now c.loop-target.target-index c.target-item.result c.loop-target.text.items c.extend_from_slice.new.self.items c.loop-target-test.true (sym c.target-item.is) c.loop-target.invariant
    (c.in_ok-extend_from_slice.ensures.items ∙ ap (λ list. c.loop-target.text.items ++ list) c.as_slice.ensures.value)
