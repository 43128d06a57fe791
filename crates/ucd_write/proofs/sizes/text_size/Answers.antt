use Rattle.std.proofs.Common.{◌∙◌, ap, ℕ, List, ◌+◌, length}
use Rattle.fem_fixed.specs.declared.mesh.QuadSpec.{QuadSpec}
use Rattle.fem_text.specs.Written.{text_of}
use Rattle.ucd_write.specs.Text.{node_lines, quad_lines, edge_lines}
use Rattle.ucd_write.proofs.Lengths.{mesh_length}
use Rattle.ucd_write.proofs.sizes.text_size.Goals as goal

pub returns : goal.returns
returns c =
    let mesh = c.args.parts.now in
    let next : ℕ = length c.quads.result.now + 1 in
    mesh_length mesh (length c.points.result.now) (length c.quads.result.now + length c.lines.result.now) next
    c.header_size-header.result c.nodes_size-nodes.result c.quads_size-first.result c.edges_size-last.result
    (ap length c.points.ensures) (λ i. length (c.quads.ensures i) + length (c.lines.ensures i)) (ap (λ (quads : List QuadSpec). length quads + 1) c.quads.ensures)
    c.header_size-header.ensures.value
    (c.nodes_size-nodes.ensures.value ∙ (λ i. length (text_of (node_lines (c.ids.ensures i) (c.points-2.ensures i)))))
    (c.quads_size-first.ensures.value ∙ (λ i. length (text_of (quad_lines (c.ids-2.ensures i) 1 (c.quads-2.ensures i)))))
    (c.edges_size-last.ensures.value ∙ (λ i. length (text_of (edge_lines (c.ids-3.ensures i) next (c.lines-2.ensures i)))))
