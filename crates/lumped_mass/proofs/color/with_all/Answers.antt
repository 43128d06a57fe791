use Rattle.std.proofs.Common.{◌∙◌, ap, pos, FitsSigned, w64, arith, rules, get_or, cond, ◌==◌, refl}
use Rattle.std.specs.Prelude.{slice_index}
use Rattle.std.specs.Int.{w128}
use Rattle.std.proofs.lemmas.Int.{to_z-of_z}
use Rattle.lumped_mass.proofs.Wraps.{step, from_value, gives, all_shares}
use Rattle.lumped_mass.proofs.color.with_all.Goals as goal

pub loop-v-init : goal.loop-v-init
loop-v-init c =
    let value : FitsSigned w128 c.args.value = c.ranges.value in
    simp to_z-of_z (from_value (gives c.args.dofs.now c.args.shares.now c.args.dof) c.args.value value)

pub loop-v-preserved : goal.loop-v-preserved
loop-v-preserved c =
    let share : FitsSigned w64 (get_or c.args.shares.now c.loop-v.v (pos 0)) = search rules in
    let made : FitsSigned w128 c.with_one-sum.result = record { sfits = c.with_one-sum.type_inv } in
    step (gives c.args.dofs.now c.args.shares.now c.args.dof) _ _ _ _ c.loop-v.v c.loop-v.invariant
    (ap (λ x. cond (slice_index c.args.dofs.now c.loop-v.v == c.args.dof) x (pos 0)) (to_z-of_z w64 (get_or c.args.shares.now c.loop-v.v (pos 0)) share))
    (to_z-of_z w128 c.with_one-sum.result made ∙ c.with_one-sum.ensures)

pub returns : goal.returns
returns c = all_shares c.args.dofs.now c.args.shares.now c.args.dof c.args.value _ _ c.loop-v.v (omega (arith, c.loop-v.auto.v-end, c.loop-v-test.false)) (to_z-of_z w128 c.args.value c.ranges.value) c.loop-v.invariant
