use Rattle.std.proofs.Common.{arith, ap, sym, ◌∙◌, ◌++◌, ◌∷◌, []}
use Rattle.std.proofs.lemmas.List.FromFn.{map-range_with_len_more}
use Rattle.colored_copier.proofs.PairLaws.{hundred}
use Rattle.machine_tests.proofs.rounds.hundreds.Goals as goal

pub loop-row-preserved : goal.loop-row-preserved
loop-row-preserved c = c.in_ok-push.ensures.items ∙ (ap (λ l. l ++ hundred c.loop-row.row ∷ []) c.loop-row.invariant ∙ sym (map-range_with_len_more hundred 0 c.loop-row.row c.loop-row.row (omega arith)))
