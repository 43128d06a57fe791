use Rattle.std.proofs.Common.{◌≡◌, ◌≤◌, ◌++◌, vec_capacity, drop}
use Rattle.fem_text.specs.Written.{text_of}
use Rattle.ucd_write.specs.Text.{node_lines}
use Rattle.ucd_write.proofs.nodes.append_nodes.Given as goal

-- the text so far and the nodes that are left are the whole text
abbrev pub invariant-loop-i : goal.invariant-loop-i
invariant-loop-i l = record {
  text : l.text.items ++ text_of (node_lines (drop l.i l.ids) (drop l.i l.points)) ≡ l.fn.text.items ++ text_of (node_lines l.ids l.points);
  room : vec_capacity l.fn.text ≤ vec_capacity l.text;
}
