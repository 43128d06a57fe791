use Rattle.std.proofs.Common.{arith, ap, sym, subst, ◌∙◌, ◌≡◌, length, vec_len}
use Rattle.std.specs.List.{All, Any}
use Rattle.colored_copier.specs.Crews.{AreHome}
use Rattle.colored_copier.specs.Hands.{IsReady, IsFinished}
use Rattle.colored_copier.specs.Phases.{IsOver}
use Rattle.colored_copier.proofs.Popped.{fresh_count, fresh_are, lent_back}
use Rattle.colored_copier.proofs.crew.work_round.Goals as goal

pub hand_out-requires-clause-home : goal.hand_out-requires-clause-home
hand_out-requires-clause-home g c κs within =
    let n : vec_len c.args.started.passes ≡ c.crew.inside.workers = c.args.started.passes.ok.0 ∙ ap length c.requires.passes ∙ fresh_count c.args.started.round c.args.crew.now.workers ∙ sym (ap (λ v. v.workers) c.crew.view_is) in
    subst (λ k. AreHome k c.crew.inside.pool.table c.crew.inside.tools) (sym n) c.crew.invariant.2

pub hand_out-requires-clause-copies : goal.hand_out-requires-clause-copies
hand_out-requires-clause-copies g c κs within = subst (All (g.J.RowJob.has_room c.args.job.now)) (sym (ap (λ v. v.copies) c.crew.view_is)) c.requires.copies

pub hand_out-requires-clause-passes : goal.hand_out-requires-clause-passes
hand_out-requires-clause-passes g c κs within = fresh_are c.args.started.round c.args.crew.now.workers c.args.started.passes.items c.requires.passes

pub hand_out-requires-clause-room : goal.hand_out-requires-clause-room
hand_out-requires-clause-room g c κs within =
    let n : vec_len c.args.started.passes ≡ c.args.crew.now.workers = c.args.started.passes.ok.0 ∙ ap length c.requires.passes ∙ fresh_count c.args.started.round c.args.crew.now.workers in
    (c.requires.hands.0, omega (arith, n, c.requires.hands.1))

pub run_colored-requires-clause-all : goal.run_colored-requires-clause-all
run_colored-requires-clause-all g c κs within =
    let n : vec_len c.args.started.passes ≡ c.args.crew.now.workers = c.args.started.passes.ok.0 ∙ ap length c.requires.passes ∙ fresh_count c.args.started.round c.args.crew.now.workers in
    let all : length c.as_mut_slice.result.now ≡ c.args.crew.now.workers = ap length c.as_mut_slice.ensures.value ∙ sym c.hand_out.new.hands.ok.0 ∙ c.hand_out.ensures.count ∙ n in
    (omega (arith, all, c.crew.invariant.0, ap (λ v. v.workers) c.crew.view_is), all ∙ sym c.requires.job.1)

pub run_colored-requires-clause-hands : goal.run_colored-requires-clause-hands
run_colored-requires-clause-hands g c κs within =
    subst (All (λ hand. IsReady c.args.started.round c.crew.inside.pool.table hand.pass hand.scratch × g.J.RowJob.has_room c.args.job.now hand.copy)) (sym c.as_mut_slice.ensures.value) c.hand_out.ensures.ready

pub take_back-requires-clause-finished : goal.take_back-requires-clause-finished
take_back-requires-clause-finished g c κs within =
    let back = lent_back c.run_colored.new.hands c.hand_out.new.hands.items c.hand_out.new.hands.len (c.run_colored.ensures.len ∙ ap length c.as_mut_slice.ensures.value) c.hand_out.new.hands.ok.0 in
    subst (All (λ hand. IsFinished c.args.started.round c.crew.inside.pool.table hand.pass hand.scratch × g.J.RowJob.has_room c.args.job.now hand.copy)) (sym back) c.run_colored.ensures.finished

pub take_back-requires-clause-over : goal.take_back-requires-clause-over
take_back-requires-clause-over g c κs within =
    let back = lent_back c.run_colored.new.hands c.hand_out.new.hands.items c.hand_out.new.hands.len (c.run_colored.ensures.len ∙ ap length c.as_mut_slice.ensures.value) c.hand_out.new.hands.ok.0 in
    subst (Any (λ hand. IsOver hand.pass.phase)) (sym back) c.run_colored.ensures.over

pub close-requires-clause-all : goal.close-requires-clause-all
close-requires-clause-all g c κs within =
    let n : vec_len c.args.started.passes ≡ c.args.crew.now.workers = c.args.started.passes.ok.0 ∙ ap length c.requires.passes ∙ fresh_count c.args.started.round c.args.crew.now.workers in
    c.take_back.ensures.count ∙ c.hand_out.ensures.count ∙ n ∙ sym c.requires.job.1

pub invariant_of-crew : goal.invariant_of-crew
invariant_of-crew g c =
    let n : vec_len c.args.started.passes ≡ c.crew.inside.workers = c.args.started.passes.ok.0 ∙ ap length c.requires.passes ∙ fresh_count c.args.started.round c.args.crew.now.workers ∙ sym (ap (λ v. v.workers) c.crew.view_is) in
    (c.crew.invariant.0, c.crew.invariant.1, subst (λ k. AreHome k c.crew.inside.pool.table c.take_back.new.tools) (c.hand_out.ensures.count ∙ n) c.take_back.ensures.home)
