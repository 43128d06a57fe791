use Rattle.std.proofs.Common.{arith, ap, ◌∙◌, ◌++◌, ◌∷◌, [], vec_len}
use Rattle.machine_tests.specs.declared.rounds.Pairs.{Pairs}
use Rattle.colored_copier.proofs.PairLaws.{suits_pairs}
use Rattle.colored_copier.proofs.HandLaws.{done_two, over_two}
use Rattle.machine_tests.proofs.rounds.run.Goals as goal

pub new-requires-2-clause-suits : goal.new-requires-2-clause-suits
new-requires-2-clause-suits g c κs = suits_pairs (λ (j : Pairs). vec_len j.rows) c.in_ok-job.job c.in_ok-rows.rows.items 17 c.in_ok-rows.ensures c.in_ok-job.job.few (omega (arith, c.in_ok-job.ensures))

pub close-requires-clause-done : goal.close-requires-clause-done
close-requires-clause-done g c κs =
    done_two (λ h. h.pass) _ c.work_in_threads.new.hands.items _ _ _ c.two-left-2.ensures.0
    (c.push_reserved-4.ensures.items ∙ ap (λ l. l ++ c.two-left-2.result.1.pass ∷ []) (c.push_reserved-3.ensures.items ∙ ap (λ l. l ++ c.two-left-2.result.0.pass ∷ []) c.two-left.ensures.1))
    (λ k d lt. let f = (c.work_in_threads.ensures.finished k d lt).0 in (f.of_round.0, f.free))

pub close-requires-clause-over : goal.close-requires-clause-over
close-requires-clause-over g c κs =
    over_two (λ h. h.pass) c.work_in_threads.new.hands.items _ _ _ c.two-left-2.ensures.0
    (c.push_reserved-4.ensures.items ∙ ap (λ l. l ++ c.two-left-2.result.1.pass ∷ []) (c.push_reserved-3.ensures.items ∙ ap (λ l. l ++ c.two-left-2.result.0.pass ∷ []) c.two-left.ensures.1))
    c.work_in_threads.ensures.over
