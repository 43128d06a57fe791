-- The cell lines of a written mesh, and what is read of them.
use Rattle.std.proofs.Common.{◌≡◌, ap, refl, ℕ, suc, ◌+◌, ◌<◌, ◌≤◌, ◌^◌, List, [], ◌∷◌, ◌++◌, length, arith}
use Rattle.std.specs.Prelude.{All}
use Rattle.std.proofs.lemmas.List.Elements.{All-head, All-tail}
use Rattle.fem_fixed.specs.declared.mesh.QuadSpec.{QuadSpec}
use Rattle.fem_fixed.specs.declared.mesh.LineSpec.{LineSpec}
use Rattle.fem_fixed.specs.Mesh.{AreWithin}
use Rattle.mesh_nodes.specs.declared.nodes.Node.{Node}
use Rattle.ucd_read.specs.declared.cells.Cell.{Cell}
use Rattle.ucd_read.specs.declared.cells.Cell.TheVariants.{Quad, Line}
use Rattle.mesh_nodes.specs.Nodes.{ids_of}
use Rattle.ucd_read.specs.Cells.{quads_of, edges_of}
use Rattle.ucd_read.specs.Ucd.{cell_behind}
use Rattle.fem_text.proofs.WrittenLines.{AreLines}
use Rattle.ucd_write.specs.Text.{quad_lines, edge_lines}
use Rattle.mesh_nodes.specs.Bounds.{AreDifferent}
use Rattle.ucd_write.proofs.Given.{GiveBack}
use Rattle.ucd_write.proofs.Written.{quad_given, quad_is_line, edge_given, edge_is_line}

-- what holds of each quadrilateral of a written mesh
pub record IsGoodQuad (count : ℕ) (quad : QuadSpec) : Type 0 where
  pub material : quad.material < 2 ^ 32
  pub four : length quad.corners ≡ 4
  pub within : AreWithin count quad.corners

pub record IsGoodLine (count : ℕ) (line : LineSpec) : Type 0 where
  pub boundary : line.id < 2 ^ 32
  pub two : length line.ends ≡ 2
  pub within : AreWithin count line.ends

-- what holds of the ids
pub record AreGood (ids : List ℕ) : Type 0 where
  pub different : AreDifferent ids
  pub small : All (λ id. id < 2 ^ 32) ids

abbrev pub quad_cells : List QuadSpec → List Cell
quad_cells [] = []
quad_cells (quad ∷ quads) = Quad quad ∷ quad_cells quads

abbrev pub edge_cells : List LineSpec → List Cell
edge_cells [] = []
edge_cells (line ∷ lines) = Line line ∷ edge_cells lines

one_quad_more : (cells : List Cell) (quad : QuadSpec) → length (quads_of (cells ++ Quad quad ∷ [])) ≡ length (quads_of cells) + 1
one_quad_more [] quad = omega arith
one_quad_more (Quad first ∷ cells) quad = (let rest = one_quad_more cells quad in omega (arith, rest))
one_quad_more (Line line ∷ cells) quad = one_quad_more cells quad

pub quads_given : (nodes : List Node) (before : List Cell) (number : ℕ) (quads : List QuadSpec) → AreGood (ids_of nodes) → number + length quads ≤ 2 ^ 22 →
    length (quads_of before) + length quads ≤ 2 ^ 20 → All (IsGoodQuad (length (ids_of nodes))) quads → GiveBack (cell_behind nodes) before (quad_cells quads) (quad_lines (ids_of nodes) number quads)
quads_given nodes before number [] good n few all = tt
quads_given nodes before number (quad ∷ quads) good n few all =
    let is = All-head (IsGoodQuad (length (ids_of nodes))) quad quads all in (
      quad_given (ids_of nodes) number (length (quads_of before)) quad good.different (omega arith) (omega arith) good.small is.material is.four is.within,
      quads_given nodes (before ++ Quad quad ∷ []) (number + 1) quads good (omega arith) (omega (arith, one_quad_more before quad)) (All-tail (IsGoodQuad (length (ids_of nodes))) quad quads all),
    )

pub edges_given : (nodes : List Node) (before : List Cell) (number : ℕ) (lines : List LineSpec) → AreGood (ids_of nodes) → number + length lines ≤ 2 ^ 22 →
    All (IsGoodLine (length (ids_of nodes))) lines → GiveBack (cell_behind nodes) before (edge_cells lines) (edge_lines (ids_of nodes) number lines)
edges_given nodes before number [] good n all = tt
edges_given nodes before number (line ∷ lines) good n all =
    let is = All-head (IsGoodLine (length (ids_of nodes))) line lines all in (
      edge_given (ids_of nodes) number (length (quads_of before)) line good.different (omega arith) good.small is.boundary is.two is.within,
      edges_given nodes (before ++ Line line ∷ []) (number + 1) lines good (omega arith) (All-tail (IsGoodLine (length (ids_of nodes))) line lines all),
    )

pub quads_are_lines : (ids : List ℕ) (number : ℕ) (quads : List QuadSpec) → AreGood ids → number + length quads ≤ 2 ^ 22 → All (IsGoodQuad (length ids)) quads → AreLines (quad_lines ids number quads)
quads_are_lines ids number [] good n all = tt
quads_are_lines ids number (quad ∷ quads) good n all =
    let is = All-head (IsGoodQuad (length ids)) quad quads all in (
      quad_is_line ids number quad (omega arith) good.small is.material is.four is.within,
      quads_are_lines ids (number + 1) quads good (omega arith) (All-tail (IsGoodQuad (length ids)) quad quads all),
    )

pub edges_are_lines : (ids : List ℕ) (number : ℕ) (lines : List LineSpec) → AreGood ids → number + length lines ≤ 2 ^ 22 → All (IsGoodLine (length ids)) lines → AreLines (edge_lines ids number lines)
edges_are_lines ids number [] good n all = tt
edges_are_lines ids number (line ∷ lines) good n all =
    let is = All-head (IsGoodLine (length ids)) line lines all in (
      edge_is_line ids number line (omega arith) good.small is.boundary is.two is.within,
      edges_are_lines ids (number + 1) lines good (omega arith) (All-tail (IsGoodLine (length ids)) line lines all),
    )

pub both_lines : (lines more : List (List ℕ)) → AreLines lines → AreLines more → AreLines (lines ++ more)
both_lines [] more are rest = rest
both_lines (line ∷ lines) more are rest = (are.0, both_lines lines more are.1 rest)

pub as_many_cells : (ids : List ℕ) (number : ℕ) (quads : List QuadSpec) → length (quad_cells quads) ≡ length (quad_lines ids number quads)
as_many_cells ids number [] = refl
as_many_cells ids number (quad ∷ quads) = ap suc (as_many_cells ids (number + 1) quads)

pub count_of_cells : (quads : List QuadSpec) (lines : List LineSpec) → length (quad_cells quads ++ edge_cells lines) ≡ length quads + length lines
count_of_cells [] [] = omega arith
count_of_cells [] (line ∷ lines) = (let rest = count_of_cells [] lines in omega (arith, rest))
count_of_cells (quad ∷ quads) lines = (let rest = count_of_cells quads lines in omega (arith, rest))

pub quads_back : (quads : List QuadSpec) (lines : List LineSpec) → quads_of (quad_cells quads ++ edge_cells lines) ≡ quads
quads_back [] [] = refl
quads_back [] (line ∷ lines) = quads_back [] lines
quads_back (quad ∷ quads) lines = ap (λ (qs : List QuadSpec). quad ∷ qs) (quads_back quads lines)

pub edges_back : (quads : List QuadSpec) (lines : List LineSpec) → edges_of (quad_cells quads ++ edge_cells lines) ≡ lines
edges_back [] [] = refl
edges_back [] (line ∷ lines) = ap (λ (ls : List LineSpec). line ∷ ls) (edges_back [] lines)
edges_back (quad ∷ quads) lines = edges_back quads lines
