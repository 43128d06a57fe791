use Rattle.std.proofs.Common.{arith, ap, sym, ◌≡◌, ◌∙◌}
use Rattle.ordered_pipeline.proofs.Begins.{begins}
use Rattle.ordered_pipeline.proofs.Slotted.{first_words}
use Rattle.ordered_pipeline.proofs.pipeline.lay_out.Goals as goal

pub returns-in-Err-clause-err : goal.returns-in-Err-clause-err
returns-in-Err-clause-err g c = c.unpack.ensures c.args.copies.items c.args.state (c.wrap_all.new.to.items, c.push_reserved.ensures.items, c.wrap_all.ensures.values)

pub returns-clause-err : goal.returns-clause-err
returns-clause-err g c = c.unpack-in-Err-new.ensures c.args.copies.items c.args.state (c.wrap_all.new.to.items, c.in-Err-new.ensures.err ∙ c.push_reserved.ensures.items, c.wrap_all.ensures.values)

pub new-requires-2-clause-rule : goal.new-requires-2-clause-rule
new-requires-2-clause-rule g c κs within =
    let same : c.args.key.queue ≡ c.len-queue.result = omega (arith, c.requires.key.0, c.len-queue.ensures) in
    begins g.J.Job.has_room g.J.Job.stands g.J.Job.step c.args.key c.args.copies.items c.args.state c.push_reserved.new.self.items c.as_slice.result.now (c.wrap_all.new.to.items, c.push_reserved.ensures.items, c.wrap_all.ensures.values)
    c.requires.copies.2 (sym c.requires.key.1) (c.as_slice.ensures.value ∙ (c.in-Ok.ensures ∙ ap first_words (sym same))) (omega (arith, c.requires.key.0, c.len-queue.ensures, c.args.copies.ok.0)) (omega (arith, c.requires.key.0, c.requires.copies.0))
