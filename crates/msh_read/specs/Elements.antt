-- The rows of elements.
use Rattle.std.specs.Prelude.{ℕ, ◌+◌, ◌^◌, List, [], ◌∷◌, length, drop, ◌==◌, nat_lt, slice_index, if◌then◌else◌, Ok}
use Rattle.std.specs.declared.result.Result.{Result}
use Rattle.fem_fixed.specs.Numbers.{id_of}
use Rattle.fem_text.specs.Words.{◌>>=◌, or_fault, unless, id_at, all_of}
use Rattle.mesh_nodes.specs.Nodes.{place_of}
use Rattle.msh_read.specs.declared.fault.MshKind.{MshKind}
use Rattle.msh_read.specs.declared.fault.MshKind.TheVariants as kinds
use Rattle.msh_read.specs.declared.elements.Element.{Element}
use Rattle.msh_read.specs.declared.elements.Element.TheVariants.{Quad, Line, Point}
use Rattle.msh_read.specs.declared.shape.Shape.{Shape}
use Rattle.msh_read.specs.declared.shape.Shape.TheVariants as shapes
use Rattle.msh_read.specs.declared.element_line.Front.{Front}
use Rattle.msh_read.specs.Shapes.{shape_of, corner_count}

-- a row begins with its number, the number of its type and the number of its tags
unfoldable pub front_of : List (List ℕ) → Result Front MshKind
front_of words = do
  number ← id_at kinds.ElementLine words 0
  type ← id_at kinds.ElementLine words 1
  tags ← id_at kinds.ElementLine words 2
  shape ← shape_of type
  Ok (record { shape = shape; tags = tags })

-- the position of a node with this id
abbrev pub node_at : List ℕ → ℕ → Result ℕ MshKind
node_at ids id = or_fault kinds.UnknownNode (place_of ids id)

-- the positions of nodes
abbrev pub places_of : List ℕ → List ℕ → Result (List ℕ) MshKind
places_of ids [] = Ok []
places_of ids (corner ∷ corners) = node_at ids corner >>= (λ place. places_of ids corners >>= (λ places. Ok (place ∷ places)))

-- the material or the boundary id: the first tag, or 0 without tags
abbrev pub tag_of : ℕ → List ℕ → ℕ
tag_of tags numbers = if tags == 0 then 0 else slice_index numbers 0

-- the element of a type, over nodes at these positions, behind this many quadrilaterals
abbrev pub element_of : Shape → ℕ → ℕ → List ℕ → Result Element MshKind
element_of shapes.Quad tag quads places = unless kinds.Limit (nat_lt quads (2 ^ 20)) >>= (λ few. Ok (Quad (record { material = tag; corners = places })))
element_of shapes.Line tag quads places = Ok (Line (record { id = tag; ends = places }))
element_of shapes.Point tag quads places = Ok Point

-- the element over nodes of these ids
unfoldable pub placed_element : List ℕ → Shape → ℕ → ℕ → List ℕ → Result Element MshKind
placed_element ids shape tag quads corners = do
  places ← places_of ids corners
  element_of shape tag quads places

-- the element of a row, over nodes of these ids, behind this many quadrilaterals: behind the front stand the tags and the
-- nodes of its type, each of them an id
unfoldable pub element_line : List ℕ → ℕ → List (List ℕ) → Result Element MshKind
element_line ids quads words = do
  front ← front_of words
  numbers ← or_fault kinds.ElementLine (all_of id_of (drop 3 words))
  whole ← unless kinds.ElementLine (length numbers == front.tags + corner_count front.shape)
  placed_element ids front.shape (tag_of front.tags numbers) quads (drop front.tags numbers)
