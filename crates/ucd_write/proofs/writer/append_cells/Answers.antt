use Rattle.std.specs.Prelude.{All}
use Rattle.ucd_write.specs.Ranges.{IsRangedQuad, IsRangedLine}
use Rattle.std.proofs.Common.{◌≡◌, ◌∙◌, sym, ap, subst, ℕ, List, ◌+◌, ◌≤◌, ◌++◌, length}
use Rattle.fem_fixed.specs.declared.mesh.QuadSpec.{QuadSpec}
use Rattle.fem_fixed.specs.declared.mesh.LineSpec.{LineSpec}
use Rattle.fem_text.specs.Written.{text_of}
use Rattle.ucd_write.specs.Text.{quad_lines, edge_lines}
use Rattle.ucd_write.proofs.Whole.{cells_written, quads_room, edges_room}
use Rattle.ucd_write.proofs.writer.append_cells.Goals as goal

pub append_quads-requires-clause-room : goal.append_quads-requires-clause-room
append_quads-requires-clause-room c =
    let text = c.args.text.now.items in
    subst (λ now. length now ≤ c.args.text.now.cap) (λ i. text ++ text_of (quad_lines (sym c.ids.ensures i) 1 (sym c.quads.ensures i)))
    (quads_room c.args.parts.now text c.args.text.now.cap c.requires.room)

pub append_edges-requires-clause-room : goal.append_edges-requires-clause-room
append_edges-requires-clause-room c =
    let mesh = c.args.parts.now in
    let text = c.args.text.now.items in
    let next : ℕ = length c.quads-2.result.now + 1 in
    let first : c.append_quads.new.text.items ≡ text ++ text_of (quad_lines mesh.ids 1 mesh.quads) =
    c.append_quads.ensures.items ∙ (λ i. text ++ text_of (quad_lines (c.ids.ensures i) 1 (c.quads.ensures i))) in
    subst (λ now. length now ≤ c.append_quads.new.text.cap) (λ i. c.append_quads.new.text.items ++ text_of (edge_lines (sym c.ids-2.ensures i) next (sym c.lines.ensures i)))
    (edges_room mesh text c.append_quads.new.text.items next c.args.text.now.cap c.append_quads.new.text.cap first (ap (λ quads. length quads + 1) c.quads-2.ensures)
    c.requires.room c.append_quads.ensures.room)

pub returns-clause-items : goal.returns-clause-items
returns-clause-items c =
    let mesh = c.args.parts.now in
    let text = c.args.text.now.items in
    let next : ℕ = length c.quads-2.result.now + 1 in
    let first : c.append_quads.new.text.items ≡ text ++ text_of (quad_lines mesh.ids 1 mesh.quads) =
    c.append_quads.ensures.items ∙ (λ i. text ++ text_of (quad_lines (c.ids.ensures i) 1 (c.quads.ensures i))) in
    let second : c.append_edges.new.text.items ≡ c.append_quads.new.text.items ++ text_of (edge_lines mesh.ids next mesh.lines) =
    c.append_edges.ensures.items ∙ (λ i. c.append_quads.new.text.items ++ text_of (edge_lines (c.ids-2.ensures i) next (c.lines.ensures i))) in
    cells_written mesh text c.append_quads.new.text.items c.append_edges.new.text.items next first (ap (λ quads. length quads + 1) c.quads-2.ensures) second

pub returns-clause-quads : goal.returns-clause-quads
returns-clause-quads c = subst (λ (quads : List QuadSpec). All IsRangedQuad quads) c.quads.ensures c.append_quads.ensures.ranges

pub returns-clause-lines : goal.returns-clause-lines
returns-clause-lines c = subst (λ (lines : List LineSpec). All IsRangedLine lines) c.lines.ensures c.append_edges.ensures.ranges
