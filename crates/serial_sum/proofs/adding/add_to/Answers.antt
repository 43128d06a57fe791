use Rattle.std.proofs.Common.{◌≡◌, ◌∙◌, sym, FitsSigned, ◌^◌, lit<}
use Rattle.std.specs.Prelude.{Some, None}
use Rattle.std.specs.Int.{w128}
use Rattle.std.proofs.lemmas.Int.{to_z-of_z}
use Rattle.fem_fixed.specs.KeptSum.{added}
use Rattle.fem_fixed.proofs.Sizes.{size_fits}
use Rattle.serial_sum.proofs.KeptSizes.{added_small}
use Rattle.serial_sum.proofs.RowLaws.{next_added, next_stays}
use Rattle.serial_sum.proofs.adding.add_to.Goals as goal

pub returns-in-Some-clause-next : goal.returns-in-Some-clause-next
returns-in-Some-clause-next c =
    let fits : FitsSigned w128 c.args.entry = size_fits c.args.entry (2 ^ 80) c.requires.entry (lit< tt) in
    let value_fits : FitsSigned w128 c.args.value = c.ranges.value in
    let told : added c.args.digits c.args.entry c.args.value ≡ Some c.in-Some.now = sym (simp to_z-of_z at c.in-Some.ensures) in
    let now_fits : FitsSigned w128 c.in-Some.now = size_fits c.in-Some.now (2 ^ 80) (added_small c.args.digits c.args.entry c.args.value c.in-Some.now told) (lit< tt) in
    to_z-of_z w128 c.in-Some.now now_fits ∙ next_added c.args.digits c.args.entry c.args.value c.in-Some.now told

pub returns-in-None-clause-next : goal.returns-in-None-clause-next
returns-in-None-clause-next c =
    let fits : FitsSigned w128 c.args.entry = size_fits c.args.entry (2 ^ 80) c.requires.entry (lit< tt) in
    let value_fits : FitsSigned w128 c.args.value = c.ranges.value in
    let told : added c.args.digits c.args.entry c.args.value ≡ None = sym (simp to_z-of_z at c.in-None.ensures) in
    to_z-of_z w128 c.args.entry fits ∙ next_stays c.args.digits c.args.entry c.args.value told
