use Rattle.std.proofs.Common.{◌≡◌, ◌≢◌, ◌∙◌, ◌++◌, sym, FitsSigned, w64, arith}
use Rattle.std.proofs.lemmas.Int.{to_z-of_z}
use Rattle.fixed_q1.specs.declared.geometry.Vector.{Vector}
use Rattle.fixed_q1.specs.Geometry.{vector}
use Rattle.fixed_q1.specs.JumpForm.{jump_form as bilinear_jump}
use Rattle.fixed_q2.specs.JumpForm.{jump_form as biquadratic_jump}
use Rattle.cell_blocks.specs.Blocks.{Given, with_dofs}
use Rattle.cell_blocks.specs.Filling.{IsMade}
use Rattle.cell_blocks.specs.Views.{given}
use Rattle.cell_blocks.proofs.Visited.{by_two, by_other, part_made, eight_of}
use Rattle.cell_blocks.proofs.forms.write_part.Goals as goal

pub write_part-requires-2-clause-dofs : goal.write_part-requires-2-clause-dofs
write_part-requires-2-clause-dofs c =
    let g : Given = given c.args.setting.now in
    let other : g.dofs.degree ≢ 2 = λ e. c.if-degree-eq2.false (c.degree.ensures ∙ e) in
    eight_of g.dofs.degree g.dofs.cells c.args.here.cell c.args.there.cell c.of_cell-mine.result.now c.of_cell-theirs.result.now other c.requires.numbered.each
    (omega (arith, c.requires.cell, c.requires.numbered.count)) (omega (arith, c.requires.other, c.requires.numbered.count)) c.of_cell-mine.ensures c.of_cell-theirs.ensures

pub returns-then-degree-eq2 : goal.returns-then-degree-eq2
returns-then-degree-eq2 c =
    let g : Given = given c.args.setting.now in
    let gamma : FitsSigned w64 c.penalty-gamma.result = record { sfits = c.penalty-gamma.type_inv } in
    let here_at : Vector = vector c.of-place.result.here_at.0 c.of-place.result.here_at.1 in
    let there_at : Vector = vector c.of-place.result.there_at.0 c.of-place.result.there_at.1 in
    let two : g.dofs.degree ≡ 2 = sym c.degree.ensures ∙ c.if-degree-eq2.true in
    let made : IsMade (with_dofs (c.of_cell-mine.result.now ++ c.of_cell-theirs.result.now) (biquadratic_jump c.of-place.result.here here_at c.of-place.result.there there_at c.of-place.result.ends c.penalty-gamma.result)) c.write_part.new.system c.write_part.result = simp to_z-of_z at c.write_part.ensures in
    part_made g c.args.here.cell c.args.here.face c.args.there.cell c.args.there.face c.args.here.part c.args.there.part c.of_cell-mine.result.now c.of_cell-theirs.result.now
    c.of-place.result.here c.of-place.result.there c.of-place.result.ends here_at there_at c.penalty-gamma.result (biquadratic_jump c.of-place.result.here here_at c.of-place.result.there there_at c.of-place.result.ends c.penalty-gamma.result) c.write_part.new.system c.write_part.result
    c.of_cell-mine.ensures c.of_cell-theirs.ensures c.of-place.ensures.here c.of-place.ensures.there c.of-place.ensures.here_at c.of-place.ensures.there_at c.of-place.ensures.ends c.penalty-gamma.ensures.value
    (by_two g.dofs.degree (biquadratic_jump c.of-place.result.here here_at c.of-place.result.there there_at c.of-place.result.ends c.penalty-gamma.result) (bilinear_jump c.of-place.result.here here_at c.of-place.result.there there_at c.of-place.result.ends c.penalty-gamma.result) two) made

pub returns : goal.returns
returns c =
    let g : Given = given c.args.setting.now in
    let gamma : FitsSigned w64 c.penalty-gamma.result = record { sfits = c.penalty-gamma.type_inv } in
    let here_at : Vector = vector c.of-place.result.here_at.0 c.of-place.result.here_at.1 in
    let there_at : Vector = vector c.of-place.result.there_at.0 c.of-place.result.there_at.1 in
    let other : g.dofs.degree ≢ 2 = λ e. c.if-degree-eq2.false (c.degree.ensures ∙ e) in
    let made : IsMade (with_dofs (c.of_cell-mine.result.now ++ c.of_cell-theirs.result.now) (bilinear_jump c.of-place.result.here here_at c.of-place.result.there there_at c.of-place.result.ends c.penalty-gamma.result)) c.write_part-2.new.system c.write_part-2.result = simp to_z-of_z at c.write_part-2.ensures in
    part_made g c.args.here.cell c.args.here.face c.args.there.cell c.args.there.face c.args.here.part c.args.there.part c.of_cell-mine.result.now c.of_cell-theirs.result.now
    c.of-place.result.here c.of-place.result.there c.of-place.result.ends here_at there_at c.penalty-gamma.result (bilinear_jump c.of-place.result.here here_at c.of-place.result.there there_at c.of-place.result.ends c.penalty-gamma.result) c.write_part-2.new.system c.write_part-2.result
    c.of_cell-mine.ensures c.of_cell-theirs.ensures c.of-place.ensures.here c.of-place.ensures.there c.of-place.ensures.here_at c.of-place.ensures.there_at c.of-place.ensures.ends c.penalty-gamma.ensures.value
    (by_other g.dofs.degree (biquadratic_jump c.of-place.result.here here_at c.of-place.result.there there_at c.of-place.result.ends c.penalty-gamma.result) (bilinear_jump c.of-place.result.here here_at c.of-place.result.there there_at c.of-place.result.ends c.penalty-gamma.result) other) made
