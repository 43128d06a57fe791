-- A written mesh is read back.
use Rattle.std.proofs.Common.{◌≡◌, ◌∙◌, sym, ap, refl, subst, ℕ, ◌+◌, List, [], ◌∷◌, ◌++◌, length, drop, false, arith}
use Rattle.std.specs.Prelude.{All, slice_index_or}
use Rattle.fem_fixed.specs.Mesh.{Mesh, AreWithin}
use Rattle.fem_text.specs.WordLines.{Line, Lines, numbered, behind, starts_with, without_comments, behind_comments}
use Rattle.fem_text.specs.Reading.{ReadsAll}
use Rattle.ucd_read.specs.declared.fault.UcdKind.TheVariants.{TooFew}
use Rattle.ucd_read.specs.declared.header.Header.{Header}
use Rattle.mesh_nodes.specs.declared.nodes.Node.{Node}
use Rattle.ucd_read.specs.declared.cells.Cell.{Cell}
use Rattle.ucd_read.specs.Comments.{counted_lines}
use Rattle.mesh_nodes.specs.Nodes.{ids_of}
use Rattle.ucd_read.specs.Nodes.{node_line as read_node}
use Rattle.mesh_nodes.specs.NodeTable.{joined}
use Rattle.ucd_read.specs.Ucd.{cell_behind, HasCells, Ucd}
use Rattle.mesh_nodes.proofs.Table.{joined_ids, joined_points, length_joined}
use Rattle.fem_text.proofs.WrittenLines.{AreLines, counted_lines as text_counts}
use Rattle.ucd_write.specs.Text.{header_line, node_lines, quad_lines, edge_lines, cell_lines, mesh_lines, mesh_text}
use Rattle.mesh_nodes.specs.Bounds.{IsBounded}
use Rattle.ucd_write.specs.Ranges.{HasRanges}
use Rattle.ucd_write.proofs.Given.{all_given, both_given, longer_given, rest_of}
use Rattle.ucd_write.proofs.Written.{header_given, header_is_line, header_no_comment, nodes_given, nodes_are_lines, as_many_node_lines}
use Rattle.ucd_write.proofs.WrittenCells.{IsGoodQuad, IsGoodLine, AreGood, quad_cells, edge_cells, quads_given, edges_given, quads_are_lines, edges_are_lines, both_lines, as_many_cells, count_of_cells, quads_back, edges_back}

abbrev nodes_of : Mesh → List Node
nodes_of mesh = joined mesh.ids mesh.points

abbrev cells_of : Mesh → List Cell
cells_of mesh = quad_cells mesh.quads ++ edge_cells mesh.lines

good_ids : (mesh : Mesh) → IsBounded mesh → HasRanges mesh → AreGood mesh.ids
good_ids mesh w r = record { different = w.different; small = r.ids }

good_quads : (mesh : Mesh) → IsBounded mesh → HasRanges mesh → All (IsGoodQuad (length mesh.ids)) mesh.quads
good_quads mesh w r = λ k d h. record { material = (r.quads k d h).material; four = (r.quads k d h).corners; within = subst (λ n. AreWithin n (slice_index_or mesh.quads k d).corners) (sym w.whole) (w.corners k d h) }

good_lines : (mesh : Mesh) → IsBounded mesh → HasRanges mesh → All (IsGoodLine (length mesh.ids)) mesh.lines
good_lines mesh w r = λ k d h. record { boundary = (r.lines k d h).boundary; two = (r.lines k d h).ends; within = subst (λ n. AreWithin n (slice_index_or mesh.lines k d).ends) (sym w.whole) (w.ends k d h) }

all_lines : (mesh : Mesh) → IsBounded mesh → HasRanges mesh → AreLines (mesh_lines mesh)
all_lines mesh w r = (
  header_is_line (length mesh.points) (length mesh.quads + length mesh.lines) w.points w.cells,
  both_lines (node_lines mesh.ids mesh.points) (cell_lines mesh) (nodes_are_lines mesh.ids mesh.points r.ids w.reach)
      (both_lines (quad_lines mesh.ids 1 mesh.quads) (edge_lines mesh.ids (length mesh.quads + 1) mesh.lines)
      (quads_are_lines mesh.ids 1 mesh.quads (good_ids mesh w r) (omega (arith, w.quads)) (good_quads mesh w r))
      (edges_are_lines mesh.ids (length mesh.quads + 1) mesh.lines (good_ids mesh w r) (omega (arith, w.cells)) (good_lines mesh w r))),
)

abbrev seen : Mesh → ℕ → Lines
seen mesh past = record { ahead = numbered 0 (mesh_lines mesh); past = past }

no_comment : (header : List ℕ) (rest : List Line) → starts_with 35 header ≡ false →
    without_comments 35 (record { number = 1; bytes = header } ∷ rest) ≡ record { number = 1; bytes = header } ∷ rest
no_comment header rest h = rw h refl

lines_seen : (mesh : Mesh) → IsBounded mesh → HasRanges mesh → counted_lines (mesh_text mesh) ≡ seen mesh (0 + length (mesh_lines mesh) + 1)
unfolding mesh_text
lines_seen mesh w r =
    let past : ℕ = 0 + length (mesh_lines mesh) + 1 in
    let header : List ℕ = header_line (length mesh.points) (length mesh.quads + length mesh.lines) in
    let rest : List Line = numbered 1 (node_lines mesh.ids mesh.points ++ cell_lines mesh) in
    ap (behind_comments 35) (text_counts (mesh_lines mesh) (all_lines mesh w r))
    ∙ (λ i. record { ahead = no_comment header rest (header_no_comment (length mesh.points) (length mesh.quads + length mesh.lines) w.points) i; past = past })

abbrev header_of : Mesh → Header
header_of mesh = record { nodes = length mesh.points; cells = length mesh.quads + length mesh.lines }

nodes_read : (mesh : Mesh) (past : ℕ) → IsBounded mesh → HasRanges mesh → ReadsAll TooFew read_node (behind 1 (seen mesh past)) (length mesh.points) (nodes_of mesh)
nodes_read mesh past w r =
    let many : length (nodes_of mesh) ≡ length mesh.points = length_joined mesh.ids mesh.points (sym w.whole) ∙ w.whole in
    all_given TooFew read_node (nodes_of mesh) (node_lines mesh.ids mesh.points ++ cell_lines mesh) 1 past (length mesh.points)
    (longer_given read_node [] (nodes_of mesh) (node_lines mesh.ids mesh.points) (cell_lines mesh) (nodes_given [] mesh.ids mesh.points r.ids w.reach w.different)) many

cells_read : (mesh : Mesh) (past : ℕ) → IsBounded mesh → HasRanges mesh →
    ReadsAll TooFew (cell_behind (nodes_of mesh)) (behind (length mesh.points) (behind 1 (seen mesh past))) (length mesh.quads + length mesh.lines) (cells_of mesh)
cells_read mesh past w r =
    let nodes = nodes_of mesh in
    let ids : ids_of nodes ≡ mesh.ids = joined_ids mesh.ids mesh.points (sym w.whole) in
    let good : AreGood (ids_of nodes) = subst AreGood (sym ids) (good_ids mesh w r) in
    let quads : All (IsGoodQuad (length (ids_of nodes))) mesh.quads = subst (λ (list : List ℕ). All (IsGoodQuad (length list)) mesh.quads) (sym ids) (good_quads mesh w r) in
    let lines : All (IsGoodLine (length (ids_of nodes))) mesh.lines = subst (λ (list : List ℕ). All (IsGoodLine (length list)) mesh.lines) (sym ids) (good_lines mesh w r) in
    let first = quads_given nodes [] 1 mesh.quads good (omega (arith, w.quads)) (omega (arith, w.quads)) quads in
    let second = edges_given nodes ([] ++ quad_cells mesh.quads) (length mesh.quads + 1) mesh.lines good (omega (arith, w.cells)) lines in
    let all = both_given (cell_behind nodes) [] (quad_cells mesh.quads) (edge_cells mesh.lines) (quad_lines (ids_of nodes) 1 mesh.quads)
    (edge_lines (ids_of nodes) (length mesh.quads + 1) mesh.lines) (as_many_cells (ids_of nodes) 1 mesh.quads) first second in
    let (number, rest) = rest_of 1 (node_lines mesh.ids mesh.points) (cell_lines mesh) in
    let behind_nodes : drop (length mesh.points) (numbered 1 (node_lines mesh.ids mesh.points ++ cell_lines mesh)) ≡ numbered number (cell_lines mesh) =
    ap (λ n. drop n (numbered 1 (node_lines mesh.ids mesh.points ++ cell_lines mesh))) (sym (as_many_node_lines mesh.ids mesh.points w.whole)) ∙ rest in
    let same : numbered number (quad_lines (ids_of nodes) 1 mesh.quads ++ edge_lines (ids_of nodes) (length mesh.quads + 1) mesh.lines) ≡ numbered number (cell_lines mesh) =
    ap (λ (list : List ℕ). numbered number (quad_lines list 1 mesh.quads ++ edge_lines list (length mesh.quads + 1) mesh.lines)) ids in
    let P : List Line → Type 0 = λ ahead. ReadsAll TooFew (cell_behind nodes) (record { ahead = ahead; past = past }) (length mesh.quads + length mesh.lines) (cells_of mesh) in
    subst P (same ∙ sym behind_nodes)
    (all_given TooFew (cell_behind nodes) (cells_of mesh) (quad_lines (ids_of nodes) 1 mesh.quads ++ edge_lines (ids_of nodes) (length mesh.quads + 1) mesh.lines) number past
    (length mesh.quads + length mesh.lines) all (count_of_cells mesh.quads mesh.lines))

all_read : (mesh : Mesh) (past : ℕ) → IsBounded mesh → HasRanges mesh → HasCells (seen mesh past) (header_of mesh) (nodes_of mesh) (cells_of mesh)
all_read mesh past w r = record {
  nodes_are = record {
    header_is = record { first = header_given (length mesh.points) (length mesh.quads + length mesh.lines) w.points w.cells };
    nodes_are = nodes_read mesh past w r;
  };
  cells_are = cells_read mesh past w r;
}

pub read_back : (mesh : Mesh) → IsBounded mesh → HasRanges mesh → Ucd (mesh_text mesh) mesh
read_back mesh w r =
    let P : Lines → Type 0 = λ lines. HasCells lines (header_of mesh) (nodes_of mesh) (cells_of mesh) in
    let ids = joined_ids mesh.ids mesh.points (sym w.whole) in
    let points = joined_points mesh.ids mesh.points (sym w.whole) in
    record {
      header = header_of mesh;
      nodes = nodes_of mesh;
      cells = cells_of mesh;
      reads = subst P (sym (lines_seen mesh w r)) (all_read mesh (0 + length (mesh_lines mesh) + 1) w r);
      mesh_is = λ i. record { ids = sym ids i; points = sym points i; quads = sym (quads_back mesh.quads mesh.lines) i; lines = sym (edges_back mesh.quads mesh.lines) i };
    }
