use Rattle.std.proofs.Common.{arith, ap, ◌∙◌, ◌-◌, ◌+◌, ◌≡◌, ℕ, []}
use Rattle.ordered_pipeline.specs.declared.view.Phase.TheVariants.{Idle}
use Rattle.ordered_pipeline.specs.Machine.{view, known, dealing}
use Rattle.ordered_pipeline.proofs.Begins.{dealt_passes}
use Rattle.ordered_pipeline.proofs.Fresh.{are_fresh}
use Rattle.ordered_pipeline.specs.Lines.{line_table, line_key}
use Rattle.ordered_pipeline.proofs.Tied.{dealt_me}
use Rattle.ordered_pipeline.proofs.pipeline.deal.Goals as goal

pub split-next-requires-after_bounds : goal.split-next-requires-after_bounds
split-next-requires-after_bounds g c κs within =
    let was = c.loop-number.invariant in
    (was.0, (ap (λ m. m.0.phase) was.1, ap (λ m. m.0.drawn) was.1, omega (arith, ap (λ m. m.0.parts) was.1, ap (λ m. m.0.overs) was.1)))

pub of-requires-after_bounds : goal.of-requires-after_bounds
of-requires-after_bounds g c κs within = ((line_key c.args.line.now), dealt_me c.loop-number.seat.me c.split-next.result.me (line_key c.args.line.now) c.split-next.ensures.right.1 (ap (λ m. m.0.key) c.loop-number.invariant.1))

pub loop-number-preserved : goal.loop-number-preserved
loop-number-preserved g c =
    let was = c.loop-number.invariant in
    let e = c.split-next.ensures in
    let key = (line_key c.args.line.now) in
    let n = c.loop-number.number in
    let fewer : c.args.seats - n - 1 ≡ c.args.seats - (n + 1) = omega arith in (
      e.left.0 ∙ was.0,
      e.left.1 ∙ (ap (λ m. (dealing m.0, m.1)) was.1 ∙ ap (λ (k : ℕ). (view k 0 (n + 1) Idle 0 0 0 (known key), [])) fewer),
      dealt_passes c.loop-number.passes.items c.push_reserved.new.self.items _ (line_table c.args.line.now) _ key n _ c.push_reserved.ensures.items was.2 (c.of.ensures key (ap (λ m. m.0.key) e.right.1 ∙ ap (λ m. m.0.key) was.1)) (e.right.0 ∙ was.0) (ap (λ m. m.0.number) e.right.1 ∙ ap (λ m. m.0.number) was.1),
      omega (arith, c.push_reserved.ensures.len, was.3),
      omega (arith, c.push_reserved.ensures.capacity, was.4),
    )

pub returns-clause-fresh : goal.returns-clause-fresh
returns-clause-fresh g c =
    let was = c.loop-number.invariant in
    (omega (arith, was.3, c.loop-number-test.false, c.loop-number.auto.number-end), are_fresh (line_table c.args.line.now) (line_key c.args.line.now) c.loop-number.number c.loop-number.passes.items was.2)
