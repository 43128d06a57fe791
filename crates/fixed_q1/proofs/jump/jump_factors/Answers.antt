use Rattle.std.proofs.Common.{◌≡◌, ◌∙◌, sym}
use Rattle.fixed_q1.specs.declared.geometry.Vector.{Vector}
use Rattle.fixed_q1.specs.Geometry.{vector}
use Rattle.fixed_q1.specs.JumpForm.{jump_factors}
use Rattle.fixed_q1.specs.Evaluation.{evaluation_at}
use Rattle.fixed_q1.proofs.Jumps.{placed, regular_sides, factors_kept, factors_distorted, factors_steep, factors_whole, factors_all_small}
use Rattle.fixed_q1.proofs.jump.jump_factors.Goals as goal

pub returns-then-has_folded_side-clause-fault : goal.returns-then-has_folded_side-clause-fault
returns-then-has_folded_side-clause-fault c =
    let p : Vector = vector c.args.here_at.0 c.args.here_at.1 in
    let q : Vector = vector c.args.there_at.0 c.args.there_at.1 in
    let here : c.evaluate_at-scratch.result ≡ evaluation_at c.args.here.now p =
    placed c.args.here.now p c.place.result c.evaluate_at-scratch.result c.evaluate_at-scratch.ensures.value c.place.ensures in
    let there : c.evaluate_at-scratch-2.result ≡ evaluation_at c.args.there.now q =
    placed c.args.there.now q c.place-2.result c.evaluate_at-scratch-2.result c.evaluate_at-scratch-2.ensures.value c.place-2.ensures in
    factors_distorted c.args.here.now c.args.there.now p q c.args.ends.now c.evaluate_at-scratch.result c.evaluate_at-scratch-2.result
    here there (sym c.has_folded_side.ensures ∙ c.if-has_folded_side.true)

pub factors_of-factors-requires-clause-here : goal.factors_of-factors-requires-clause-here
factors_of-factors-requires-clause-here c =
    (regular_sides c.evaluate_at-scratch.result c.evaluate_at-scratch-2.result c.evaluate_at-scratch.ensures.bounded c.evaluate_at-scratch-2.ensures.bounded
    (sym c.has_folded_side.ensures ∙ c.if-has_folded_side.false)).0

pub factors_of-factors-requires-clause-there : goal.factors_of-factors-requires-clause-there
factors_of-factors-requires-clause-there c =
    (regular_sides c.evaluate_at-scratch.result c.evaluate_at-scratch-2.result c.evaluate_at-scratch.ensures.bounded c.evaluate_at-scratch-2.ensures.bounded
    (sym c.has_folded_side.ensures ∙ c.if-has_folded_side.false)).1

pub returns-then-has_large_factor-clause-fault : goal.returns-then-has_large_factor-clause-fault
returns-then-has_large_factor-clause-fault c =
    let p : Vector = vector c.args.here_at.0 c.args.here_at.1 in
    let q : Vector = vector c.args.there_at.0 c.args.there_at.1 in
    let here : c.evaluate_at-scratch.result ≡ evaluation_at c.args.here.now p =
    placed c.args.here.now p c.place.result c.evaluate_at-scratch.result c.evaluate_at-scratch.ensures.value c.place.ensures in
    let there : c.evaluate_at-scratch-2.result ≡ evaluation_at c.args.there.now q =
    placed c.args.there.now q c.place-2.result c.evaluate_at-scratch-2.result c.evaluate_at-scratch-2.ensures.value c.place-2.ensures in
    let factors : c.factors_of-factors.result ≡ jump_factors c.args.here.now p c.args.there.now q c.args.ends.now =
    factors_kept c.args.here.now c.args.there.now p q c.normal_to.result c.args.ends.now c.evaluate_at-scratch.result c.evaluate_at-scratch-2.result
    c.factors_of-factors.result c.normal_to.ensures.value here there c.factors_of-factors.ensures in
    factors_steep c.args.here.now c.args.there.now p q c.args.ends.now c.evaluate_at-scratch.result c.evaluate_at-scratch-2.result c.factors_of-factors.result
    here there (sym c.has_folded_side.ensures ∙ c.if-has_folded_side.false) factors (sym c.has_large_factor.ensures ∙ c.if-has_large_factor.true)

pub returns-clause-ok : goal.returns-clause-ok
returns-clause-ok c =
    let p : Vector = vector c.args.here_at.0 c.args.here_at.1 in
    let q : Vector = vector c.args.there_at.0 c.args.there_at.1 in
    let here : c.evaluate_at-scratch.result ≡ evaluation_at c.args.here.now p =
    placed c.args.here.now p c.place.result c.evaluate_at-scratch.result c.evaluate_at-scratch.ensures.value c.place.ensures in
    let there : c.evaluate_at-scratch-2.result ≡ evaluation_at c.args.there.now q =
    placed c.args.there.now q c.place-2.result c.evaluate_at-scratch-2.result c.evaluate_at-scratch-2.ensures.value c.place-2.ensures in
    let factors : c.factors_of-factors.result ≡ jump_factors c.args.here.now p c.args.there.now q c.args.ends.now =
    factors_kept c.args.here.now c.args.there.now p q c.normal_to.result c.args.ends.now c.evaluate_at-scratch.result c.evaluate_at-scratch-2.result
    c.factors_of-factors.result c.normal_to.ensures.value here there c.factors_of-factors.ensures in
    factors_whole c.args.here.now c.args.there.now p q c.args.ends.now c.evaluate_at-scratch.result c.evaluate_at-scratch-2.result c.factors_of-factors.result
    here there (sym c.has_folded_side.ensures ∙ c.if-has_folded_side.false) factors (sym c.has_large_factor.ensures ∙ c.if-has_large_factor.false)

pub returns-clause-small : goal.returns-clause-small
returns-clause-small c = factors_all_small c.factors_of-factors.result (sym c.has_large_factor.ensures ∙ c.if-has_large_factor.false)
