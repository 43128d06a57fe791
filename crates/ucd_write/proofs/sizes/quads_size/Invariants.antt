use Rattle.std.proofs.Common.{◌≡◌, ◌≤◌, ◌+◌, ◌*◌, drop, length}
use Rattle.fem_text.specs.Written.{text_of}
use Rattle.ucd_write.specs.Text.{quad_lines}
use Rattle.ucd_write.proofs.sizes.quads_size.Given as goal

-- the size so far and that of the quadrilaterals that are left are the whole size
abbrev pub invariant-loop-i : goal.invariant-loop-i
invariant-loop-i l =
    (l.size + length (text_of (quad_lines l.ids (l.i + 1) (drop l.i l.quads))) ≡ length (text_of (quad_lines l.ids 1 l.quads))) × (l.size ≤ 160 * l.i)
