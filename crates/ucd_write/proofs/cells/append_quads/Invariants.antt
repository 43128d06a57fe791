use Rattle.std.proofs.Common.{◌≡◌, ℕ, ◌+◌, ◌<◌, ◌≤◌, ◌++◌, vec_capacity, drop, slice_index_or}
use Rattle.fem_fixed.specs.declared.mesh.QuadSpec.{QuadSpec}
use Rattle.fem_text.specs.Written.{text_of}
use Rattle.ucd_write.specs.Ranges.{IsRangedQuad}
use Rattle.ucd_write.specs.Text.{quad_lines}
use Rattle.ucd_write.proofs.cells.append_quads.Given as goal

-- the text so far and the quadrilaterals that are left are the whole text
abbrev pub invariant-loop-i : goal.invariant-loop-i
invariant-loop-i l = record {
  text : l.text.items ++ text_of (quad_lines l.ids (l.i + 1) (drop l.i l.quads)) ≡ l.fn.text.items ++ text_of (quad_lines l.ids 1 l.quads);
  room : vec_capacity l.fn.text ≤ vec_capacity l.text;
  ranges : (k : ℕ) (d : QuadSpec) → k < l.i → IsRangedQuad (slice_index_or l.quads k d);
}
