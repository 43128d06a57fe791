use Rattle.std.proofs.Common.{◌≡◌, ◌<◌, ◌∙◌, ap, length, arith}
use Rattle.ordered_pipeline.specs.Fold.{fold}
use Rattle.ordered_pipeline.proofs.HandLaws.{some_over}
use Rattle.ordered_pipeline.proofs.crew.Crew.end.Goals as goal

pub returns-clause-state : goal.returns-clause-state
returns-clause-state g c =
    let key = c.args.self.pipeline.key in
    let passes = c.take_back.new.passes in
    let some : 0 < length passes.items = omega (arith, passes.ok.0, c.take_back.ensures.count.0, c.requires.manned.hands, c.requires.manned.some) in
    c.close-copies.ensures.state ∙ ap (fold g.J.Job.step key.job.value key.state.value) (c.close-copies.ensures.over (some_over passes.items some c.take_back.ensures.over))
