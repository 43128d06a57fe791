use Rattle.std.proofs.Common.{◌≡◌, ◌≤◌, ◌+◌, ◌*◌, drop, length}
use Rattle.fem_text.specs.Written.{text_of}
use Rattle.ucd_write.specs.Text.{node_lines}
use Rattle.ucd_write.proofs.sizes.nodes_size.Given as goal

-- the size so far and that of the nodes that are left are the whole size
abbrev pub invariant-loop-i : goal.invariant-loop-i
invariant-loop-i l =
    (l.size + length (text_of (node_lines (drop l.i l.ids) (drop l.i l.points))) ≡ length (text_of (node_lines l.ids l.points))) × (l.size ≤ 120 * l.i)
