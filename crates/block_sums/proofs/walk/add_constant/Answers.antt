use Rattle.std.proofs.Common.{◌≡◌, ◌∷◌, [], FitsSigned, to_z, of_z, w64, arith}
use Rattle.std.specs.Int.{w128}
use Rattle.std.proofs.lemmas.Int.{to_z-of_z}
use Rattle.serial_sum.specs.declared.part.Target.TheVariants.{RightSide}
use Rattle.block_sums.specs.Contributions.{to, constant_terms}
use Rattle.block_sums.specs.Shares.{constant_share}
use Rattle.std.proofs.lemmas.List.Elements.{All-head}
use Rattle.serial_sum.specs.declared.part.Contribution.{Contribution}
use Rattle.block_sums.proofs.Runs.{same_adds}
use Rattle.block_sums.proofs.Splits.{all_same}
use Rattle.block_sums.proofs.Values.{fits_weight, not_zero, constant_left}
use Rattle.block_sums.proofs.walk.add_constant.Goals as goal

pub put-requires-clause-given : goal.put-requires-clause-given
put-requires-clause-given g c =
    let weight : FitsSigned w64 c.args.master.weight = fits_weight c.args.master.weight (omega (arith, c.requires.weight)) in
    let entry : FitsSigned w128 c.args.entry = c.ranges.entry in
    let constant : FitsSigned w64 c.args.constant = c.ranges.constant in
    let share : FitsSigned w128 c.constant_share.result = record { sfits = c.constant_share.type_inv } in
    let told : c.constant_share.result ≡ constant_share c.args.master.weight c.args.entry c.args.constant = simp to_z-of_z at c.constant_share.ensures.value in
    let value : to_z w128 (of_z w128 c.constant_share.result) ≡ constant_share c.args.master.weight c.args.entry c.args.constant = simp to_z-of_z told in
    let given : Contribution = to c.args.master.dof RightSide (to_z w128 (of_z w128 c.constant_share.result)) in
    All-head (g.A.Adder.may_add c.args.adder.now) given []
    (all_same (g.A.Adder.may_add c.args.adder.now) (given ∷ []) (constant_terms c.args.master.dof c.args.master.weight c.args.entry c.args.constant)
    (constant_left c.args.master.dof c.args.master.weight c.args.entry c.args.constant (to_z w128 (of_z w128 c.constant_share.result)) (not_zero c.args.constant c.if-constant-eq0.false) value) c.requires.given)

pub returns : goal.returns
returns g c =
    let weight : FitsSigned w64 c.args.master.weight = fits_weight c.args.master.weight (omega (arith, c.requires.weight)) in
    let entry : FitsSigned w128 c.args.entry = c.ranges.entry in
    let constant : FitsSigned w64 c.args.constant = c.ranges.constant in
    let share : FitsSigned w128 c.constant_share.result = record { sfits = c.constant_share.type_inv } in
    let told : c.constant_share.result ≡ constant_share c.args.master.weight c.args.entry c.args.constant = simp to_z-of_z at c.constant_share.ensures.value in
    let value : to_z w128 (of_z w128 c.constant_share.result) ≡ constant_share c.args.master.weight c.args.entry c.args.constant = simp to_z-of_z told in
    same_adds
    (constant_left c.args.master.dof c.args.master.weight c.args.entry c.args.constant (to_z w128 (of_z w128 c.constant_share.result)) (not_zero c.args.constant c.if-constant-eq0.false) value) c.put.ensures
