use Rattle.std.proofs.Common.{arith, sym, subst, vec_len}
use Rattle.machine_tests.specs.declared.rounds.Pairs.{Pairs}
use Rattle.colored_copier.specs.Phases.{IsOver}
use Rattle.colored_copier.proofs.PairLaws.{suits_pairs}
use Rattle.colored_copier.proofs.HandLaws.{any_last}
use Rattle.machine_tests.proofs.rounds.one_pass_claims_two_items_and_is_over.Goals as goal

pub new-requires-clause-suits : goal.new-requires-clause-suits
new-requires-clause-suits g c κs = suits_pairs (λ (j : Pairs). vec_len j.rows) c.in_ok-job.job c.in_ok-rows.rows.items 5 c.in_ok-rows.ensures c.in_ok-job.job.few (omega (arith, c.in_ok-job.ensures))

pub close-back-requires-clause-over : goal.close-back-requires-clause-over
close-back-requires-clause-over g c κs = any_last (λ p. IsOver p.phase) _ _ c.claim.new.pass c.push_reserved.ensures.items (subst IsOver (sym c.in-Over.ensures.found.1) tt)
