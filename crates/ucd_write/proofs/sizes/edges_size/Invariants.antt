use Rattle.std.proofs.Common.{◌≡◌, ◌≤◌, ◌+◌, ◌*◌, drop, length}
use Rattle.fem_text.specs.Written.{text_of}
use Rattle.ucd_write.specs.Text.{edge_lines}
use Rattle.ucd_write.proofs.sizes.edges_size.Given as goal

-- the size so far and that of the lines that are left are the whole size
abbrev pub invariant-loop-i : goal.invariant-loop-i
invariant-loop-i l =
    (l.size + length (text_of (edge_lines l.ids (l.first + l.i) (drop l.i l.lines))) ≡ length (text_of (edge_lines l.ids l.first l.lines))) × (l.size ≤ 120 * l.i)
