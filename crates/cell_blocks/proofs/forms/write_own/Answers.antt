use Rattle.std.proofs.Common.{◌≡◌, ◌≢◌, ◌∙◌, sym, FitsSigned, w64}
use Rattle.std.proofs.lemmas.Int.{to_z-of_z}
use Rattle.fixed_q1.specs.CellForm.{cell_form as bilinear_form}
use Rattle.fixed_q2.specs.CellForm.{cell_form as biquadratic_form}
use Rattle.cell_blocks.specs.Blocks.{Given, with_dofs}
use Rattle.cell_blocks.specs.Filling.{IsMade}
use Rattle.cell_blocks.specs.Views.{given}
use Rattle.cell_blocks.proofs.Visited.{by_two, by_other, own_made}
use Rattle.cell_blocks.proofs.forms.write_own.Goals as goal

pub returns-then-degree-eq2 : goal.returns-then-degree-eq2
returns-then-degree-eq2 c =
    let g : Given = given c.args.setting.now in
    let d : FitsSigned w64 c.diffusion-diffusion.result = record { sfits = c.diffusion-diffusion.type_inv } in
    let s : FitsSigned w64 c.source-source.result = record { sfits = c.source-source.type_inv } in
    let two : g.dofs.degree ≡ 2 = sym c.degree.ensures ∙ c.if-degree-eq2.true in
    let made : IsMade (with_dofs c.of_cell-dofs.result.now (biquadratic_form c.points-points.result c.diffusion-diffusion.result c.source-source.result)) c.write_cell.new.system c.write_cell.result = simp to_z-of_z at c.write_cell.ensures in
    own_made g c.args.cell c.of_cell-dofs.result.now c.points-points.result c.material-material.result c.diffusion-diffusion.result c.source-source.result
    (biquadratic_form c.points-points.result c.diffusion-diffusion.result c.source-source.result) c.write_cell.new.system c.write_cell.result
    c.of_cell-dofs.ensures c.points-points.ensures.value c.material-material.ensures c.diffusion-diffusion.ensures.value c.source-source.ensures.value
    (by_two g.dofs.degree _ (bilinear_form c.points-points.result c.diffusion-diffusion.result c.source-source.result) two) made

pub returns : goal.returns
returns c =
    let g : Given = given c.args.setting.now in
    let d : FitsSigned w64 c.diffusion-diffusion.result = record { sfits = c.diffusion-diffusion.type_inv } in
    let s : FitsSigned w64 c.source-source.result = record { sfits = c.source-source.type_inv } in
    let other : g.dofs.degree ≢ 2 = λ e. c.if-degree-eq2.false (c.degree.ensures ∙ e) in
    let made : IsMade (with_dofs c.of_cell-dofs.result.now (bilinear_form c.points-points.result c.diffusion-diffusion.result c.source-source.result)) c.write_cell-2.new.system c.write_cell-2.result = simp to_z-of_z at c.write_cell-2.ensures in
    own_made g c.args.cell c.of_cell-dofs.result.now c.points-points.result c.material-material.result c.diffusion-diffusion.result c.source-source.result
    (bilinear_form c.points-points.result c.diffusion-diffusion.result c.source-source.result) c.write_cell-2.new.system c.write_cell-2.result
    c.of_cell-dofs.ensures c.points-points.ensures.value c.material-material.ensures c.diffusion-diffusion.ensures.value c.source-source.ensures.value
    (by_other g.dofs.degree (biquadratic_form c.points-points.result c.diffusion-diffusion.result c.source-source.result) _ other) made
