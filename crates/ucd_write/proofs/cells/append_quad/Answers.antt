use Rattle.std.proofs.Common.{decimal}
use Rattle.std.specs.Prelude.{codes}
use Rattle.fem_text.specs.Written.{line_of}
use Rattle.ucd_write.specs.Text.{corner_words, quad_line}
use Rattle.ucd_write.proofs.Joined.{type_joined}
use Rattle.ucd_write.proofs.cells.append_quad.Goals as goal

pub returns-clause-items : goal.returns-clause-items
unfolding quad_line
returns-clause-items c =
    type_joined c.args.text.now.items c.append_number.new.text.items c.append_number-2.new.text.items c.append_corners.new.text.items
    (decimal c.args.number) (decimal c.args.quad.now.material) (codes "quad") (line_of (corner_words c.args.ids.now c.args.quad.now.corners))
    c.append_number.ensures.items c.append_number-2.ensures.items c.append_corners.ensures.items
