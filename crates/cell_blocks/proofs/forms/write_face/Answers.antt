use Rattle.std.proofs.Common.{◌≡◌, ◌≢◌, ◌∙◌, sym, FitsSigned, w64}
use Rattle.std.proofs.lemmas.Int.{to_z-of_z}
use Rattle.fixed_q1.specs.BoundaryForm.{boundary_form as linear_edge}
use Rattle.fixed_q2.specs.BoundaryForm.{boundary_form as quadratic_edge}
use Rattle.cell_blocks.specs.Blocks.{Given}
use Rattle.cell_blocks.specs.Lending.{block_in}
use Rattle.cell_blocks.specs.Views.{given}
use Rattle.cell_blocks.proofs.Made.{robin_small, robin_fits}
use Rattle.cell_blocks.proofs.Visited.{by_two, by_other, face_made, only_ends}
use Rattle.cell_blocks.proofs.forms.write_face.Goals as goal

pub returns-then-degree-eq2-clause-value : goal.returns-then-degree-eq2-clause-value
returns-then-degree-eq2-clause-value c =
    let g : Given = given c.args.setting.now in
    let small = robin_small c.robin.result c.unwrap_or-alpha.result c.robin.ensures.small c.unwrap_or-alpha.ensures in
    let alpha : FitsSigned w64 c.unwrap_or-alpha.result.0 = robin_fits c.unwrap_or-alpha.result.0 small.0 in
    let flux : FitsSigned w64 c.unwrap_or-alpha.result.1 = robin_fits c.unwrap_or-alpha.result.1 small.1 in
    let two : g.dofs.degree ≡ 2 = sym c.degree.ensures ∙ c.if-degree-eq2.true in
    let block : block_in c.write_face.new.system ≡ record { dofs = c.end_and_middle_dofs-dofs.result; form = quadratic_edge c.end_points-ends.result c.unwrap_or-alpha.result.0 c.unwrap_or-alpha.result.1 } = simp to_z-of_z at c.write_face.ensures.block in
    face_made g c.args.cell c.args.face c.args.id c.end_and_middle_dofs-dofs.result c.end_points-ends.result c.robin.result c.unwrap_or-alpha.result (quadratic_edge c.end_points-ends.result c.unwrap_or-alpha.result.0 c.unwrap_or-alpha.result.1) (block_in c.write_face.new.system)
    c.end_and_middle_dofs-dofs.ensures c.end_points-ends.ensures.value c.robin.ensures.value c.unwrap_or-alpha.ensures (by_two g.dofs.degree (quadratic_edge c.end_points-ends.result c.unwrap_or-alpha.result.0 c.unwrap_or-alpha.result.1) (linear_edge c.end_points-ends.result c.unwrap_or-alpha.result.0 c.unwrap_or-alpha.result.1) two) block

pub returns-clause-value : goal.returns-clause-value
returns-clause-value c =
    let g : Given = given c.args.setting.now in
    let small = robin_small c.robin.result c.unwrap_or-alpha.result c.robin.ensures.small c.unwrap_or-alpha.ensures in
    let alpha : FitsSigned w64 c.unwrap_or-alpha.result.0 = robin_fits c.unwrap_or-alpha.result.0 small.0 in
    let flux : FitsSigned w64 c.unwrap_or-alpha.result.1 = robin_fits c.unwrap_or-alpha.result.1 small.1 in
    let other : g.dofs.degree ≢ 2 = λ e. c.if-degree-eq2.false (c.degree.ensures ∙ e) in
    let block : block_in c.write_face-2.new.system ≡ record { dofs = c.end_dofs-dofs.result; form = linear_edge c.end_points-ends.result c.unwrap_or-alpha.result.0 c.unwrap_or-alpha.result.1 } = simp to_z-of_z at c.write_face-2.ensures.block in
    face_made g c.args.cell c.args.face c.args.id c.end_dofs-dofs.result c.end_points-ends.result c.robin.result c.unwrap_or-alpha.result (linear_edge c.end_points-ends.result c.unwrap_or-alpha.result.0 c.unwrap_or-alpha.result.1) (block_in c.write_face-2.new.system)
    (c.end_dofs-dofs.ensures ∙ only_ends g c.args.cell c.args.face other) c.end_points-ends.ensures.value c.robin.ensures.value c.unwrap_or-alpha.ensures (by_other g.dofs.degree (quadratic_edge c.end_points-ends.result c.unwrap_or-alpha.result.0 c.unwrap_or-alpha.result.1) (linear_edge c.end_points-ends.result c.unwrap_or-alpha.result.0 c.unwrap_or-alpha.result.1) other) block
