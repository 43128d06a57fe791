use Rattle.std.proofs.Common.{◌≡◌, ◌∙◌, ◌<◌, ◌∷◌, [], ap, ℤ, pos, FitsSigned, to_z, of_z, w64, arith}
use Rattle.std.specs.Prelude.{unsigned_abs}
use Rattle.std.specs.Int.{w128}
use Rattle.std.proofs.lemmas.Int.{to_z-of_z, to_z_pos}
use Rattle.serial_sum.specs.declared.part.Target.TheVariants.{Column, RightSide}
use Rattle.block_sums.specs.Contributions.{to}
use Rattle.block_sums.specs.Shares.{load_share}
use Rattle.std.proofs.lemmas.List.Elements.{All-head, All-tail}
use Rattle.serial_sum.specs.declared.part.Contribution.{Contribution}
use Rattle.block_sums.proofs.Runs.{same_single, both_add}
use Rattle.block_sums.proofs.Splits.{at_same}
use Rattle.block_sums.proofs.Values.{fits_weight, fits_share}
use Rattle.block_sums.proofs.walk.add_own.Goals as goal

pub put-told-requires-clause-given : goal.put-told-requires-clause-given
put-told-requires-clause-given g c =
    let diagonal : FitsSigned w128 c.args.diagonal = fits_share c.args.diagonal (omega (arith, c.requires.diagonal)) in
    let constant : FitsSigned w64 c.args.constant = fits_weight c.args.constant c.requires.constant in
    let size : c.unsigned_abs-size.result ≡ unsigned_abs c.args.diagonal = simp to_z-of_z at c.unsigned_abs-size.ensures.value in
    let small : c.unsigned_abs-size.result < 170141183460469231731687303715884105728 = omega (arith, size, c.requires.diagonal) in
    let whole : to_z w128 c.unsigned_abs-size.result ≡ pos (unsigned_abs c.args.diagonal) = to_z_pos w128 c.unsigned_abs-size.result small ∙ ap pos size in
    let own : Contribution = to c.args.dof (Column c.args.dof) (pos (unsigned_abs c.args.diagonal)) in
    let side : Contribution = to c.args.dof RightSide (load_share c.args.constant (pos (unsigned_abs c.args.diagonal))) in
    at_same (g.A.Adder.may_add c.args.adder.now) (to c.args.dof (Column c.args.dof) (to_z w128 c.unsigned_abs-size.result)) own (ap (λ (v : ℤ). to c.args.dof (Column c.args.dof) v) whole)
    (All-head (g.A.Adder.may_add c.args.adder.now) own (side ∷ []) c.requires.given)

pub put-requires-clause-given : goal.put-requires-clause-given
put-requires-clause-given g c =
    let diagonal : FitsSigned w128 c.args.diagonal = fits_share c.args.diagonal (omega (arith, c.requires.diagonal)) in
    let constant : FitsSigned w64 c.args.constant = fits_weight c.args.constant c.requires.constant in
    let share : FitsSigned w128 c.load_share.result = record { sfits = c.load_share.type_inv } in
    let size : c.unsigned_abs-size.result ≡ unsigned_abs c.args.diagonal = simp to_z-of_z at c.unsigned_abs-size.ensures.value in
    let small : c.unsigned_abs-size.result < 170141183460469231731687303715884105728 = omega (arith, size, c.requires.diagonal) in
    let whole : to_z w128 c.unsigned_abs-size.result ≡ pos (unsigned_abs c.args.diagonal) = to_z_pos w128 c.unsigned_abs-size.result small ∙ ap pos size in
    let told : c.load_share.result ≡ load_share c.args.constant (to_z w128 c.unsigned_abs-size.result) = simp to_z-of_z at c.load_share.ensures.value in
    let value : to_z w128 (of_z w128 c.load_share.result) ≡ load_share c.args.constant (pos (unsigned_abs c.args.diagonal)) = simp to_z-of_z (told ∙ ap (load_share c.args.constant) whole) in
    let own : Contribution = to c.args.dof (Column c.args.dof) (pos (unsigned_abs c.args.diagonal)) in
    let side : Contribution = to c.args.dof RightSide (load_share c.args.constant (pos (unsigned_abs c.args.diagonal))) in
    at_same (g.A.Adder.may_add c.args.adder.now) (to c.args.dof RightSide (to_z w128 (of_z w128 c.load_share.result))) side (ap (λ (v : ℤ). to c.args.dof RightSide v) value)
    (All-head (g.A.Adder.may_add c.args.adder.now) side [] (All-tail (g.A.Adder.may_add c.args.adder.now) own (side ∷ []) c.requires.given))

pub returns : goal.returns
returns g c =
    let diagonal : FitsSigned w128 c.args.diagonal = fits_share c.args.diagonal (omega (arith, c.requires.diagonal)) in
    let constant : FitsSigned w64 c.args.constant = fits_weight c.args.constant c.requires.constant in
    let share : FitsSigned w128 c.load_share.result = record { sfits = c.load_share.type_inv } in
    let size : c.unsigned_abs-size.result ≡ unsigned_abs c.args.diagonal = simp to_z-of_z at c.unsigned_abs-size.ensures.value in
    let small : c.unsigned_abs-size.result < 170141183460469231731687303715884105728 = omega (arith, size, c.requires.diagonal) in
    let whole : to_z w128 c.unsigned_abs-size.result ≡ pos (unsigned_abs c.args.diagonal) = to_z_pos w128 c.unsigned_abs-size.result small ∙ ap pos size in
    let told : c.load_share.result ≡ load_share c.args.constant (to_z w128 c.unsigned_abs-size.result) = simp to_z-of_z at c.load_share.ensures.value in
    let value : to_z w128 (of_z w128 c.load_share.result) ≡ load_share c.args.constant (pos (unsigned_abs c.args.diagonal)) = simp to_z-of_z (told ∙ ap (load_share c.args.constant) whole) in
    both_add (same_single (ap (λ (v : ℤ). to c.args.dof (Column c.args.dof) v) whole) c.put-told.ensures) (same_single (ap (λ (v : ℤ). to c.args.dof RightSide v) value) c.put.ensures)
