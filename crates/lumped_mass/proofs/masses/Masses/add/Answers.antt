use Rattle.std.proofs.Common.{FitsSigned, rules, w64}
use Rattle.std.specs.Int.{w128}
use Rattle.std.proofs.lemmas.Int.{to_z-of_z}
use Rattle.lumped_mass.proofs.Wraps.{share_added}
use Rattle.lumped_mass.proofs.masses.Masses.add.Goals as goal

pub returns : goal.returns
returns c =
    let at : FitsSigned w128 c.index.result.now = search rules in
    let from : FitsSigned w128 c.from.result = record { sfits = c.from.type_inv } in
    let share : FitsSigned w64 c.args.share = c.ranges.share in
    let sum : FitsSigned w128 c.wrapped_sum.result = record { sfits = c.wrapped_sum.type_inv } in
    let h = c.wrapped_sum.ensures in
    let k = c.from.ensures in
    let made = simp to_z-of_z at h in
    let same = simp to_z-of_z at k in
    share_added c.self.inside.values.items c.args.self.now c.args.dof c.args.share c.index.result.now c.from.result c.wrapped_sum.result _ c.self.view_is c.requires c.index.ensures same made (to_z-of_z w128 c.wrapped_sum.result sum)
