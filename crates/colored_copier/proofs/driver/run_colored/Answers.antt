use Rattle.std.proofs.Common.{arith, length-set, subst, sym, inl, inr, ⊎_elim, ◌∙◌, ◌<◌, length}
use Rattle.scratch_pool.specs.Pools.{RoseBelow}
use Rattle.colored_copier.proofs.HandLaws.{finished_all}
use Rattle.colored_copier.proofs.Sets.{set_by, any_set}
use Rattle.colored_copier.proofs.Ties.{not_both}
use Rattle.colored_copier.specs.Phases.{IsOver}
use Rattle.colored_copier.specs.Hands.{IsThrough}
use Rattle.colored_copier.proofs.driver.run_colored.Goals as goal

pub returns-then-is_over-clause-over : goal.returns-then-is_over-clause-over
returns-then-is_over-clause-over g c = (c.loop-i.i, c.index-hands-i.result, c.loop-i-test.true, sym c.index-hands-i.is, subst (λ h. IsOver h.pass.phase) (sym c.index-hands-i.is) c.if-is_over.ensures)

pub work_all-requires-clause-pass : goal.work_all-requires-clause-pass
work_all-requires-clause-pass g c κs within =
    let e = (c.in_threads.ensures.each 0 c.index-hands-0.result c.requires.all.0).0 in
    let r = (c.requires.hands 0 c.index-hands-0.result c.requires.all.0).0 in
    ((e.same.0 ∙ r.of_round.0, e.same.2 ∙ r.of_round.1), e.written, c.loop-i.invariant 0 c.index-hands-0.result (omega (arith, c.loop-i-test.false, c.in_threads.ensures.len, c.requires.all.0)))

pub returns-clause-each : goal.returns-clause-each
returns-clause-each g c =
    let e = (c.in_threads.ensures.each 0 c.index-hands-0.result c.requires.all.0).0 in
    let w = c.work_all.ensures.pass in
    set_by (λ h i. IsThrough c.args.pool.now.objects h.pass h.scratch i.pass i.scratch × g.J.RowJob.has_room c.args.job.now i.copy)
    c.args.hands.now c.in_threads.new.hands 0 _ c.index-hands-0.result c.in_threads.ensures.len c.requires.all.0 c.in_threads.ensures.each (
      record {
        same = (w.0.0 ∙ e.same.0, w.0.1 ∙ e.same.1, w.0.2 ∙ e.same.2);
        written = w.2;
        same_scratch = e.same_scratch;
        empty = e.empty;
        over_or_fresh = inl w.1;
      },
      c.work_all.ensures.room,
    )

pub returns-clause-over : goal.returns-clause-over
returns-clause-over g c =
    let lt : 0 < length c.in_threads.new.hands = omega (arith, c.in_threads.ensures.len, c.requires.all.0) in
    any_set (λ h. IsOver h.pass.phase) c.in_threads.new.hands 0 _ lt c.work_all.ensures.pass.1

pub returns-clause-spare : goal.returns-clause-spare
returns-clause-spare g c =
    inr (set_by (λ h i. RoseBelow c.args.pool.now.objects h.scratch.looks i.scratch.looks)
    c.args.hands.now c.in_threads.new.hands 0 _ c.index-hands-0.result c.in_threads.ensures.len c.requires.all.0
    (λ k d lt. ⊎_elim
    (λ o. absurd (not_both _ o (c.loop-i.invariant k d (omega (arith, c.loop-i-test.false, c.in_threads.ensures.len, lt)))))
    (λ f. f.1)
    (c.in_threads.ensures.each k d lt).0.over_or_fresh)
    (⊎_elim
    (λ o. absurd (not_both _ o (c.loop-i.invariant 0 c.index-hands-0.result (omega (arith, c.loop-i-test.false, c.in_threads.ensures.len, c.requires.all.0)))))
    (λ f. f.1)
    (c.in_threads.ensures.each 0 c.index-hands-0.result c.requires.all.0).0.over_or_fresh))

pub returns-then-is_over-clause-finished : goal.returns-then-is_over-clause-finished
returns-then-is_over-clause-finished g c =
    finished_all (λ h. h.pass) (λ h. h.scratch) (λ h. g.J.RowJob.has_room c.args.job.now h.copy) c.args.round.now c.args.pool.now.table c.args.pool.now.objects c.args.hands.now c.in_threads.new.hands c.in_threads.ensures.len c.requires.hands c.in_threads.ensures.each

pub returns-clause-finished : goal.returns-clause-finished
returns-clause-finished g c =
    finished_all (λ h. h.pass) (λ h. h.scratch) (λ h. g.J.RowJob.has_room c.args.job.now h.copy) c.args.round.now c.args.pool.now.table c.args.pool.now.objects c.args.hands.now _ (length-set c.in_threads.new.hands 0 _ ∙ c.in_threads.ensures.len) c.requires.hands (returns-clause-each g c)
