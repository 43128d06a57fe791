use Rattle.std.proofs.Common.{◌≡◌, ◌∙◌, ap, List, ◌++◌, ℤ, FitsSigned}
use Rattle.std.specs.Int.{w128}
use Rattle.std.proofs.lemmas.Int.{to_z-of_z}
use Rattle.fixed_q1.specs.Evaluation.{four_from, jump_block}
use Rattle.fixed_q1.proofs.Symmetry.{blocks_joined, numbers, half, rows_are}
use Rattle.fixed_q1.proofs.penalty.entries_of.Goals as goal

pub returns : goal.returns
returns c =
    let gamma : ℤ = c.args.gamma in
    let q : List ℤ = c.args.factors.now in
    let fits : FitsSigned w128 gamma = c.ranges.gamma in
    let raw_here = c.own_block-here.ensures in
    let raw_across = c.mixed_block-across.ensures in
    let raw_there = c.own_block-there.ensures in
    let here : c.own_block-here.result ≡ jump_block gamma q (four_from 0) (four_from 0) = simp to_z-of_z at raw_here in
    let across : c.mixed_block-across.result ≡ jump_block gamma q (four_from 0) (four_from 4) = simp to_z-of_z at raw_across in
    let there : c.own_block-there.result ≡ jump_block gamma q (four_from 4) (four_from 4) = simp to_z-of_z at raw_there in
    rows_are _ _ _ _ _ _ _ _ _ _ _ _ _ _ _ _ c.joined.ensures c.joined-2.ensures c.joined-3.ensures c.joined-4.ensures
    (c.joined-5.ensures ∙ ap (λ x. numbers x ++ half c.own_block-there.result 0) c.column.ensures)
    (c.joined-6.ensures ∙ ap (λ x. numbers x ++ half c.own_block-there.result 1) c.column-2.ensures)
    (c.joined-7.ensures ∙ ap (λ x. numbers x ++ half c.own_block-there.result 2) c.column-3.ensures)
    (c.joined-8.ensures ∙ ap (λ x. numbers x ++ half c.own_block-there.result 3) c.column-4.ensures)
    ∙ blocks_joined gamma q c.own_block-here.result c.mixed_block-across.result c.own_block-there.result here across there
