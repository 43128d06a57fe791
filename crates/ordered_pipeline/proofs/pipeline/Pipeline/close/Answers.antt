use Rattle.std.proofs.Common.{arith, ap, sym, subst, ◌∙◌, ◌≡◌, ◌+◌, ◌<◌, max, vec_len, ℕ}
use Rattle.std.specs.List.{All}
use Rattle.scratch_pool.specs.Counts.{total}
use Rattle.ordered_pipeline.specs.Ending.{AreIdle, greatest}
use Rattle.ordered_pipeline.specs.Lines.{line_table}
use Rattle.ordered_pipeline.proofs.Closing.{overs_of, greatest_popped, overs_popped, popped_idle, none_left, some_over}
use Rattle.ordered_pipeline.proofs.pipeline.Pipeline.close.Goals as goal

pub loop-pass-init : goal.loop-pass-init
loop-pass-init g c =
    let both = popped_idle (line_table c.self.inside.line) _ _ _ c.in-Some.ensures.items (subst (λ r. AreIdle r.table c.args.passes.items) (sym c.self.view_is) c.requires.idle) in
    let i = c.into_seat-seat.ensures in (
      i.0 ∙ both.1.0,
      i.3,
      i.1,
      omega (arith, i.2, c.in-Some.ensures.cases, c.requires.all, ap (λ r. r.key.seats) c.self.view_is),
      ap (λ (d : ℕ). max d (greatest c.pop.new.self.items)) i.4 ∙ sym (greatest_popped _ _ _ c.in-Some.ensures.items),
      overs_popped _ _ _ c.in-Some.ensures.items ∙ ap (λ (n : ℕ). n + total overs_of c.pop.new.self.items) (sym i.5),
      both.0,
    )

pub into_seat-requires-after_bounds : goal.into_seat-requires-after_bounds
into_seat-requires-after_bounds g c κs within = (popped_idle (line_table c.self.inside.line) _ _ _ c.in-Some-pop.ensures.items c.loop-pass.invariant.6).1.1

pub join-requires-clause-other : goal.join-requires-clause-other
join-requires-clause-other g c κs within =
    let pass = (popped_idle (line_table c.self.inside.line) _ _ _ c.in-Some-pop.ensures.items c.loop-pass.invariant.6).1 in
    let i = c.into_seat.ensures in
    (i.0 ∙ pass.0, i.3, i.1)

pub loop-pass-preserved : goal.loop-pass-preserved
loop-pass-preserved g c =
    let was = c.loop-pass.invariant in
    let rest = (popped_idle (line_table c.self.inside.line) _ _ _ c.in-Some-pop.ensures.items was.6).0 in
    let i = c.into_seat.ensures in
    let e = c.join.ensures in (
      e.0 ∙ was.0,
      ap (λ m. m.0.phase) e.1 ∙ was.1,
      ap (λ m. m.1) e.1 ∙ was.2,
      omega (arith, ap (λ m. m.0.parts) e.1, i.2, was.3, c.in-Some-pop.ensures.cases),
      omega (arith, ap (λ m. m.0.drawn) e.1, i.4, was.4, greatest_popped _ _ _ c.in-Some-pop.ensures.items),
      omega (arith, ap (λ m. m.0.overs) e.1, i.5, was.5, overs_popped _ _ _ c.in-Some-pop.ensures.items),
      rest,
    )

pub returns-clause-over : goal.returns-clause-over
returns-clause-over g c = λ any.
    let empty : vec_len c.loop-pass.passes ≡ 0 = omega (arith, c.in_default-pop.ensures.cases) in
    let some : 0 < total overs_of c.args.passes.items = some_over c.args.passes.items any.0 any.1 any.2 any.3 any.4 in
    c.end-copies.ensures.over (omega (arith, some, c.loop-pass.invariant.5, (none_left c.loop-pass.passes.items (sym c.loop-pass.passes.ok.0 ∙ empty)).0))
    ∙ (c.self.invariant.0.count_is ∙ ap (λ r. g.J.Job.count r.key.job.value) c.self.view_is)

pub returns-clause-copies : goal.returns-clause-copies
returns-clause-copies g c = subst (λ r. (vec_len c.end-copies.result.copies ≡ r.key.queue) × All (g.J.Job.has_room r.key.job.value) c.end-copies.result.copies.items) c.self.view_is c.end-copies.ensures.copies
