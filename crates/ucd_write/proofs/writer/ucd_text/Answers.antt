use Rattle.std.proofs.Common.{◌≡◌, ◌∙◌, sym, ap, subst, ℕ, List, ◌+◌, ◌<◌, ◌≤◌, ◌^◌, ◌++◌, length, arith}
use Rattle.std.specs.Prelude.{All}
use Rattle.ucd_read.specs.Ucd.{Ucd}
use Rattle.ucd_write.proofs.ReadBack.{read_back}
use Rattle.fem_text.specs.Written.{text_of}
use Rattle.ucd_write.specs.Text.{node_lines, mesh_text}
use Rattle.ucd_write.proofs.Whole.{mesh_written, header_room, nodes_room, cells_room}
use Rattle.ucd_write.proofs.writer.ucd_text.Goals as goal

pub append_header-requires : goal.append_header-requires
append_header-requires c =
    let mesh = c.args.parts.now in
    let whole : length (mesh_text mesh) ≤ c.in_ok-text.text.cap = omega (arith, c.text_size.ensures, c.in_ok-text.ensures.exact) in
    header_room mesh c.in_ok-text.text.items (length c.points.result.now) (length c.quads.result.now + length c.lines.result.now) c.in_ok-text.text.cap
    c.in_ok-text.ensures.items (ap length c.points.ensures) (λ i. length (c.quads.ensures i) + length (c.lines.ensures i)) whole

pub append_nodes-requires-clause-room : goal.append_nodes-requires-clause-room
append_nodes-requires-clause-room c =
    let mesh = c.args.parts.now in
    let first = c.append_header.new.text.items in
    let more = c.append_header.new.text.cap in
    let whole : length (mesh_text mesh) ≤ c.in_ok-text.text.cap = omega (arith, c.text_size.ensures, c.in_ok-text.ensures.exact) in
    subst (λ now. length now ≤ more) (λ i. first ++ text_of (node_lines (sym c.ids.ensures i) (sym c.points-2.ensures i)))
    (nodes_room mesh c.in_ok-text.text.items first (length c.points.result.now) (length c.quads.result.now + length c.lines.result.now) c.in_ok-text.text.cap more
    c.in_ok-text.ensures.items (ap length c.points.ensures) (λ i. length (c.quads.ensures i) + length (c.lines.ensures i)) c.append_header.ensures.items whole c.append_header.ensures.room)

pub append_cells-requires-clause-room : goal.append_cells-requires-clause-room
append_cells-requires-clause-room c =
    let mesh = c.args.parts.now in
    let second : c.append_nodes.new.text.items ≡ c.append_header.new.text.items ++ text_of (node_lines mesh.ids mesh.points) =
    c.append_nodes.ensures.items ∙ (λ i. c.append_header.new.text.items ++ text_of (node_lines (c.ids.ensures i) (c.points-2.ensures i))) in
    let whole : length (mesh_text mesh) ≤ c.in_ok-text.text.cap = omega (arith, c.text_size.ensures, c.in_ok-text.ensures.exact) in
    cells_room mesh c.in_ok-text.text.items c.append_header.new.text.items c.append_nodes.new.text.items (length c.points.result.now) (length c.quads.result.now + length c.lines.result.now)
    c.in_ok-text.text.cap c.append_header.new.text.cap c.append_nodes.new.text.cap
    c.in_ok-text.ensures.items (ap length c.points.ensures) (λ i. length (c.quads.ensures i) + length (c.lines.ensures i)) c.append_header.ensures.items second
    whole c.append_header.ensures.room c.append_nodes.ensures.room

pub returns-clause-text : goal.returns-clause-text
returns-clause-text c =
    let mesh = c.args.parts.now in
    let nodes : ℕ = length c.points.result.now in
    let cells : ℕ = length c.quads.result.now + length c.lines.result.now in
    let second : c.append_nodes.new.text.items ≡ c.append_header.new.text.items ++ text_of (node_lines mesh.ids mesh.points) =
    c.append_nodes.ensures.items ∙ (λ i. c.append_header.new.text.items ++ text_of (node_lines (c.ids.ensures i) (c.points-2.ensures i))) in
    mesh_written mesh c.in_ok-text.text.items c.append_header.new.text.items c.append_nodes.new.text.items c.append_cells.new.text.items nodes cells
    c.in_ok-text.ensures.items (ap length c.points.ensures) (λ i. length (c.quads.ensures i) + length (c.lines.ensures i)) c.append_header.ensures.items second c.append_cells.ensures.items

pub returns-clause-read_back : goal.returns-clause-read_back
returns-clause-read_back c =
    let mesh = c.args.parts.now in
    let cells = c.append_cells.ensures in
    let P : List ℕ → Type 0 = λ ids. All (λ id. id < 2 ^ 32) ids in
    let Q : List ℕ → Type 0 = λ text. Ucd text mesh in
    subst Q (sym (returns-clause-text c)) (read_back mesh c.requires (record { ids = subst P c.ids.ensures c.append_nodes.ensures.ranges; quads = cells.quads; lines = cells.lines }))
