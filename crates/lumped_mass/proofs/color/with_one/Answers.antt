use Rattle.std.proofs.Common.{◌∙◌, ◌+ℤ◌, ap, FitsSigned, w64}
use Rattle.std.specs.Int.{w128, int_wrap}
use Rattle.std.proofs.lemmas.Int.{to_z-of_z}
use Rattle.lumped_mass.proofs.Wraps.{goes}
use Rattle.lumped_mass.proofs.color.with_one.Goals as goal

pub returns-then-at-dof : goal.returns-then-at-dof
returns-then-at-dof c =
    let value : FitsSigned w128 c.args.value = c.ranges.value in
    let from : FitsSigned w128 c.from.result = record { sfits = c.from.type_inv } in
    let share : FitsSigned w64 c.args.share = c.ranges.share in
    let sum : FitsSigned w128 c.wrapped_sum.result = record { sfits = c.wrapped_sum.type_inv } in
    let h = c.wrapped_sum.ensures in
    let k = c.from.ensures in
    let made = simp to_z-of_z at h in
    let same = simp to_z-of_z at k in
    to_z-of_z w128 c.wrapped_sum.result sum ∙ goes c.args.value c.args.share c.wrapped_sum.result c.args.at c.args.dof c.if-at-dof.true (made ∙ ap (λ x. int_wrap w128 (c.args.value +ℤ x)) same)
