use Rattle.std.proofs.Common.{arith, ap, sym, ◌∙◌, ◌++◌, ◌∷◌, []}
use Rattle.std.proofs.lemmas.List.FromFn.{map-range_with_len_more}
use Rattle.colored_copier.proofs.PairLaws.{pair_of}
use Rattle.machine_tests.proofs.rounds.make_pairs.Goals as goal

pub loop-i-preserved : goal.loop-i-preserved
loop-i-preserved c = (
  c.in_ok-push.ensures.items ∙ (ap (λ l. l ++ pair_of c.loop-i.i ∷ []) c.loop-i.invariant.0 ∙ sym (map-range_with_len_more pair_of 0 c.loop-i.i c.loop-i.i (omega arith))),
  omega (arith, c.in_ok-push.ensures.len, c.loop-i.invariant.1),
)
