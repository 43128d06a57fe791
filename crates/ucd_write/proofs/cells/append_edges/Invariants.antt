use Rattle.std.proofs.Common.{◌≡◌, ℕ, ◌+◌, ◌<◌, ◌≤◌, ◌++◌, vec_capacity, drop, slice_index_or}
use Rattle.fem_fixed.specs.declared.mesh.LineSpec.{LineSpec}
use Rattle.fem_text.specs.Written.{text_of}
use Rattle.ucd_write.specs.Ranges.{IsRangedLine}
use Rattle.ucd_write.specs.Text.{edge_lines}
use Rattle.ucd_write.proofs.cells.append_edges.Given as goal

-- the text so far and the lines that are left are the whole text
abbrev pub invariant-loop-i : goal.invariant-loop-i
invariant-loop-i l = record {
  text : l.text.items ++ text_of (edge_lines l.ids (l.first + l.i) (drop l.i l.lines)) ≡ l.fn.text.items ++ text_of (edge_lines l.ids l.first l.lines);
  room : vec_capacity l.fn.text ≤ vec_capacity l.text;
  ranges : (k : ℕ) (d : LineSpec) → k < l.i → IsRangedLine (slice_index_or l.lines k d);
}
