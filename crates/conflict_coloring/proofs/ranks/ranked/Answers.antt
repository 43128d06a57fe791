use Rattle.std.proofs.Common.{◌∙◌, ◌<◌, ◌≤◌, ◌++◌, ◌∷◌, [], ℕ, List, ap, sym, length, map, take, arith}
use Rattle.std.proofs.lemmas.List.{length-take, take_all}
use Rattle.conflict_coloring.specs.Ranks.{rank_in, ranked_by}
use Rattle.conflict_coloring.proofs.Ranking.{ranked_more, length_ranked}
use Rattle.conflict_coloring.proofs.ranks.ranked.Goals as goal

pub add-requires : goal.add-requires
add-requires c =
    let a = ap length c.loop-cell.invariant ∙ length_ranked (take c.loop-cell.cell c.args.conflicts.now) c.args.rising.now in
    let n = length-take c.loop-cell.cell c.args.conflicts.now in
    let t = c.loop-cell-test.true in
    let f = c.len-cell-end.ensures.few in
    omega arith

pub loop-cell-preserved : goal.loop-cell-preserved
loop-cell-preserved c =
    let below : c.loop-cell.cell < length c.args.conflicts.now = (let t = c.loop-cell-test.true in let n = c.len-cell-end.ensures.count in omega arith) in
    c.in_ok-add.ensures.added ∙ ap (λ (xs : List (List ℕ)). xs ++ c.deref.result.now ∷ []) c.loop-cell.invariant
    ∙ ap (λ (r : List ℕ). ranked_by c.args.rising.now (take c.loop-cell.cell c.args.conflicts.now) ++ r ∷ []) (c.deref.ensures.value ∙ c.in_ok-ranks.ensures ∙ ap (map (rank_in c.args.rising.now)) c.rows.ensures)
    ∙ sym (ranked_more c.args.rising.now c.args.conflicts.now c.loop-cell.cell below)

pub returns : goal.returns
returns c =
    let end : length c.args.conflicts.now ≤ c.loop-cell.cell = (let t = c.loop-cell-test.false in let n = c.len-cell-end.ensures.count in omega arith) in
    c.loop-cell.invariant ∙ ap (ranked_by c.args.rising.now) (take_all c.loop-cell.cell c.args.conflicts.now end)
