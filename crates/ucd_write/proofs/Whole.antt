-- The text of a mesh, piece by piece.
use Rattle.std.proofs.Common.{◌≡◌, ◌∙◌, sym, ap, refl, subst, ℕ, ◌+◌, ◌≤◌, List, [], ◌∷◌, ◌++◌, length, arith}
use Rattle.fem_fixed.specs.Mesh.{Mesh}
use Rattle.fem_text.specs.Written.{text_of}
use Rattle.fem_text.proofs.Joined.{text_joins, room_joins}
use Rattle.ucd_write.specs.Text.{header_line, node_lines, quad_lines, edge_lines, cell_lines, mesh_text}

pub cells_written : (mesh : Mesh) (text first second : List ℕ) (next : ℕ) → first ≡ text ++ text_of (quad_lines mesh.ids 1 mesh.quads) →
    next ≡ length mesh.quads + 1 → second ≡ first ++ text_of (edge_lines mesh.ids next mesh.lines) → second ≡ text ++ text_of (cell_lines mesh)
cells_written mesh text first second next f n s =
    s ∙ (λ i. f i ++ text_of (edge_lines mesh.ids (n i) mesh.lines)) ∙ text_joins text (quad_lines mesh.ids 1 mesh.quads) (edge_lines mesh.ids (length mesh.quads + 1) mesh.lines)

pub mesh_written : (mesh : Mesh) (text first second third : List ℕ) (nodes cells : ℕ) → text ≡ [] → nodes ≡ length mesh.points → cells ≡ length mesh.quads + length mesh.lines →
    first ≡ text ++ text_of (header_line nodes cells ∷ []) → second ≡ first ++ text_of (node_lines mesh.ids mesh.points) → third ≡ second ++ text_of (cell_lines mesh) →
    third ≡ mesh_text mesh
unfolding mesh_text
mesh_written mesh text first second third nodes cells empty n c f s t =
    let header : List ℕ = header_line (length mesh.points) (length mesh.quads + length mesh.lines) in
    let start : first ≡ [] ++ text_of (header ∷ []) = f ∙ (λ i. empty i ++ text_of (header_line (n i) (c i) ∷ [])) in
    t ∙ ap (λ front. front ++ text_of (cell_lines mesh)) (s ∙ ap (λ front. front ++ text_of (node_lines mesh.ids mesh.points)) start)
    ∙ text_joins ([] ++ text_of (header ∷ [])) (node_lines mesh.ids mesh.points) (cell_lines mesh)
    ∙ text_joins [] (header ∷ []) (node_lines mesh.ids mesh.points ++ cell_lines mesh)

-- where there is room for the whole text, there is for its parts, one behind the other
pub header_room : (mesh : Mesh) (text : List ℕ) (nodes cells room : ℕ) → text ≡ [] → nodes ≡ length mesh.points → cells ≡ length mesh.quads + length mesh.lines →
    length (mesh_text mesh) ≤ room → length (text ++ text_of (header_line nodes cells ∷ [])) ≤ room
unfolding mesh_text
header_room mesh text nodes cells room empty n c h =
    let header : List ℕ = header_line (length mesh.points) (length mesh.quads + length mesh.lines) in
    let first : length (text_of (header ∷ [])) ≤ room = room_joins [] (header ∷ []) (node_lines mesh.ids mesh.points ++ cell_lines mesh) room h in
    subst (λ front. length front ≤ room) (λ i. sym empty i ++ text_of (header_line (sym n i) (sym c i) ∷ [])) first

pub nodes_room : (mesh : Mesh) (text first : List ℕ) (nodes cells room more : ℕ) → text ≡ [] → nodes ≡ length mesh.points → cells ≡ length mesh.quads + length mesh.lines →
    first ≡ text ++ text_of (header_line nodes cells ∷ []) → length (mesh_text mesh) ≤ room → room ≤ more → length (first ++ text_of (node_lines mesh.ids mesh.points)) ≤ more
unfolding mesh_text
nodes_room mesh text first nodes cells room more empty n c f h grows =
    let header : List ℕ = header_line (length mesh.points) (length mesh.quads + length mesh.lines) in
    let lines : List (List ℕ) = node_lines mesh.ids mesh.points in
    let start : first ≡ text_of (header ∷ []) = f ∙ (λ i. empty i ++ text_of (header_line (n i) (c i) ∷ [])) in
    let both : first ++ text_of lines ≡ text_of ((header ∷ []) ++ lines) = ap (λ front. front ++ text_of lines) start ∙ text_joins [] (header ∷ []) lines in
    let least : length (text_of ((header ∷ []) ++ lines)) ≤ room = room_joins [] ((header ∷ []) ++ lines) (cell_lines mesh) room h in
    omega (arith, ap length both, least)

pub cells_room : (mesh : Mesh) (text first second : List ℕ) (nodes cells room more most : ℕ) → text ≡ [] → nodes ≡ length mesh.points → cells ≡ length mesh.quads + length mesh.lines →
    first ≡ text ++ text_of (header_line nodes cells ∷ []) → second ≡ first ++ text_of (node_lines mesh.ids mesh.points) → length (mesh_text mesh) ≤ room → room ≤ more → more ≤ most →
    length (second ++ text_of (cell_lines mesh)) ≤ most
cells_room mesh text first second nodes cells room more most empty n c f s h grows again =
    let all : second ++ text_of (cell_lines mesh) ≡ mesh_text mesh = mesh_written mesh text first second (second ++ text_of (cell_lines mesh)) nodes cells empty n c f s refl in
    omega (arith, ap length all)

-- the same of the cells
pub quads_room : (mesh : Mesh) (text : List ℕ) (room : ℕ) → length (text ++ text_of (cell_lines mesh)) ≤ room → length (text ++ text_of (quad_lines mesh.ids 1 mesh.quads)) ≤ room
quads_room mesh text room h = room_joins text (quad_lines mesh.ids 1 mesh.quads) (edge_lines mesh.ids (length mesh.quads + 1) mesh.lines) room h

pub edges_room : (mesh : Mesh) (text first : List ℕ) (next room more : ℕ) → first ≡ text ++ text_of (quad_lines mesh.ids 1 mesh.quads) → next ≡ length mesh.quads + 1 →
    length (text ++ text_of (cell_lines mesh)) ≤ room → room ≤ more → length (first ++ text_of (edge_lines mesh.ids next mesh.lines)) ≤ more
edges_room mesh text first next room more f n h grows =
    let all : first ++ text_of (edge_lines mesh.ids next mesh.lines) ≡ text ++ text_of (cell_lines mesh) =
    cells_written mesh text first (first ++ text_of (edge_lines mesh.ids next mesh.lines)) next f n refl in
    omega (arith, ap length all)
