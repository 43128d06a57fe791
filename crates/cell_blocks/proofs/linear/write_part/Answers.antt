use Rattle.std.proofs.Common.{◌≡◌, ◌∙◌, ◌++◌, FitsSigned, w64, Ok, lit≤, length-append}
use Rattle.std.proofs.lemmas.Int.{to_z-of_z}
use Rattle.fixed_q1.specs.declared.geometry.Vector.{Vector}
use Rattle.fixed_q1.specs.Geometry.{vector}
use Rattle.fixed_q1.specs.LocalForm.{LocalForm, zero_load}
use Rattle.fixed_q1.specs.JumpForm.{jump_form, part_numbers}
use Rattle.cell_blocks.proofs.Made.{held, held_form, square_block, part_square}
use Rattle.cell_blocks.proofs.linear.write_part.Goals as goal

pub returns : goal.returns
returns c =
    let gamma : FitsSigned w64 c.args.gamma = c.ranges.gamma in
    let here_at : Vector = vector c.args.place.now.here_at.0 c.args.place.now.here_at.1 in
    let there_at : Vector = vector c.args.place.now.there_at.0 c.args.place.now.there_at.1 in
    let form : LocalForm = record { matrix = c.jump_matrix.new.matrix; load = zero_load part_numbers } in
    let ok : jump_form c.args.place.now.here here_at c.args.place.now.there there_at c.args.place.now.ends c.args.gamma ≡ Ok form = simp to_z-of_z at c.in_ok-jump_matrix.ensures.ok in (
      held_form (c.args.mine.now ++ c.args.theirs.now) form (jump_form c.args.place.now.here here_at c.args.place.now.there there_at c.args.place.now.ends c.args.gamma) c.hold_both.new.self ok c.hold_both.ensures.block,
      held 8 (c.args.mine.now ++ c.args.theirs.now) form c.hold_both.new.self c.hold_both.ensures.used (lit≤ tt) c.hold_both.ensures.block
          (square_block 8 (c.args.mine.now ++ c.args.theirs.now) form (lit≤ tt) (length-append c.args.mine.now c.args.theirs.now ∙ c.requires.dofs) (part_square c.args.place.now.here c.args.place.now.there here_at there_at c.args.place.now.ends c.args.gamma form ok)),
    )
