-- The text of a mesh in UCD.
use Rattle.std.specs.Prelude.{ℕ, ◌+◌, List, [], ◌∷◌, ◌++◌, length, codes, decimal, slice_index}
use Rattle.fem_fixed.specs.declared.mesh.Point.{Point}
use Rattle.fem_fixed.specs.declared.mesh.QuadSpec.{QuadSpec}
use Rattle.fem_fixed.specs.declared.mesh.LineSpec.{LineSpec}
use Rattle.fem_fixed.specs.Mesh.{Mesh}
use Rattle.fem_text.specs.Written.{text_of, line_of}
use Rattle.ucd_write.specs.Coordinates.{coordinate}

-- how many nodes and cells there are, and no data
unfoldable pub header_line : ℕ → ℕ → List ℕ
header_line nodes cells = line_of (decimal nodes ∷ decimal cells ∷ codes "0" ∷ codes "0" ∷ codes "0" ∷ [])

-- the id of a node and its point, whose z is 0
unfoldable pub node_line : ℕ → Point → List ℕ
node_line id point = line_of (decimal id ∷ coordinate point.x ∷ coordinate point.y ∷ codes "0" ∷ [])

-- the nodes in order
abbrev pub node_lines : List ℕ → List Point → List (List ℕ)
node_lines [] points = []
node_lines (id ∷ ids) [] = []
node_lines (id ∷ ids) (point ∷ points) = node_line id point ∷ node_lines ids points

-- the id of the node at a position
abbrev pub node_word : List ℕ → ℕ → List ℕ
node_word ids position = decimal (slice_index ids position)

-- the ids of the nodes at four positions
abbrev pub corner_words : List ℕ → List ℕ → List (List ℕ)
corner_words ids corners =
    node_word ids (slice_index corners 0) ∷ node_word ids (slice_index corners 1) ∷ node_word ids (slice_index corners 2) ∷ node_word ids (slice_index corners 3) ∷ []

-- a quadrilateral: its number, its material, its type, and the ids of its nodes
unfoldable pub quad_line : List ℕ → ℕ → QuadSpec → List ℕ
quad_line ids number quad = line_of (decimal number ∷ decimal quad.material ∷ codes "quad" ∷ corner_words ids quad.corners)

-- a line with a boundary id
unfoldable pub edge_line : List ℕ → ℕ → LineSpec → List ℕ
edge_line ids number line =
    line_of (decimal number ∷ decimal line.id ∷ codes "line" ∷ node_word ids (slice_index line.ends 0) ∷ node_word ids (slice_index line.ends 1) ∷ [])

-- the quadrilaterals, numbered from this number on
abbrev pub quad_lines : List ℕ → ℕ → List QuadSpec → List (List ℕ)
quad_lines ids number [] = []
quad_lines ids number (quad ∷ quads) = quad_line ids number quad ∷ quad_lines ids (number + 1) quads

-- the lines, numbered from this number on
abbrev pub edge_lines : List ℕ → ℕ → List LineSpec → List (List ℕ)
edge_lines ids number [] = []
edge_lines ids number (line ∷ lines) = edge_line ids number line ∷ edge_lines ids (number + 1) lines

-- the quadrilaterals and then the lines, numbered in one run from 1
abbrev pub cell_lines : Mesh → List (List ℕ)
cell_lines mesh = quad_lines mesh.ids 1 mesh.quads ++ edge_lines mesh.ids (length mesh.quads + 1) mesh.lines

-- the lines of a mesh
abbrev pub mesh_lines : Mesh → List (List ℕ)
mesh_lines mesh =
    header_line (length mesh.points) (length mesh.quads + length mesh.lines) ∷ (node_lines mesh.ids mesh.points ++ cell_lines mesh)

-- the text of a mesh
unfoldable pub mesh_text : Mesh → List ℕ
mesh_text mesh = text_of (mesh_lines mesh)
