use Rattle.std.proofs.Common.{◌∙◌, FitsSigned, rules, slice_index}
use Rattle.std.specs.Int.{w128}
use Rattle.std.proofs.lemmas.Int.{to_z-of_z}
use Rattle.lumped_mass.proofs.Wraps.{row_added}
use Rattle.lumped_mass.proofs.color.ColorRowJob.copy_row.Goals as goal

pub returns : goal.returns
returns c =
    let value : FitsSigned w128 c.args.value.now = search rules in
    let made : FitsSigned w128 c.with_all.result = record { sfits = c.with_all.type_inv } in
    let h = c.with_all.ensures in
    let k = simp to_z-of_z at h in
    to_z-of_z w128 c.with_all.result made
    ∙ row_added c.args.self.now.all.now.forest.now c.args.self.now.all.now.dofs.now (slice_index c.args.self.now.cells.now c.args.item) c.args.row c.args.value.now c.with_all.result c.dofs_of-dofs.result.now c.args.copy.now c.dofs_of-dofs.ensures.value
    c.requires.2 k
