use Rattle.std.proofs.Common.{◌∙◌, ◌++◌, ◌∷◌, [], ℕ, List, ap, sym, map, take}
use Rattle.conflict_coloring.specs.Ranks.{rank_in}
use Rattle.conflict_coloring.proofs.Ranking.{ranks_more}
use Rattle.conflict_coloring.proofs.ranks.ranks_of.Goals as goal

pub loop-row-preserved : goal.loop-row-preserved
loop-row-preserved c =
    c.in_ok-push.ensures.items ∙ ap (λ (xs : List ℕ). xs ++ c.rank_of.result ∷ []) c.loop-row.invariant
    ∙ ap (λ (r : ℕ). map (rank_in c.args.rising.now) (take c.loop-row.row-index c.args.rows.now) ++ r ∷ []) c.rank_of.ensures
    ∙ sym (ranks_more c.args.rising.now c.args.rows.now c.loop-row.row-index c.loop-row-test.true)
