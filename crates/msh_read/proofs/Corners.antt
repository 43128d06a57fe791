-- Quadrilaterals have four corners.
use Rattle.std.proofs.Common.{◌≡◌, ◌∙◌, sym, ap, refl, subst, ℕ, zero, suc, ◌+◌, true, List, [], ◌∷◌, length, drop, take, arith}
use Rattle.std.specs.Prelude.{Some, Ok, All, ◌==◌, nat_lt, ◌^◌}
use Rattle.std.specs.List.{slice_get}
use Rattle.std.proofs.lemmas.Grind.{common_steps}
use Rattle.std.proofs.lemmas.Bool.Decides.{nat_tests}
use Rattle.fem_fixed.specs.Numbers.{id_of}
use Rattle.fem_fixed.specs.declared.mesh.QuadSpec.{QuadSpec}
use Rattle.fem_fixed.specs.Mesh.{Mesh}
use Rattle.fem_text.specs.Words.{or_fault, unless, all_of}
use Rattle.fem_text.proofs.OneReading.{ok_same}
use Rattle.fem_text.proofs.Values.{then_ok, line_ok, passed}
use Rattle.mesh_nodes.specs.Nodes.{ids_of}
use Rattle.msh_read.specs.declared.fault.MshKind.TheVariants as kinds
use Rattle.msh_read.specs.declared.elements.Element.{Element}
use Rattle.msh_read.specs.declared.elements.Element.TheVariants.{Quad, Line as Edge, Point}
use Rattle.msh_read.specs.declared.shape.Shape.{Shape}
use Rattle.msh_read.specs.declared.shape.Shape.TheVariants as shapes
use Rattle.msh_read.specs.Shapes.{corner_count, quads_of}
use Rattle.msh_read.specs.Elements.{front_of, node_at, places_of, tag_of, element_of, placed_element, element_line}
use Rattle.msh_read.specs.Msh.{Msh, element_row}

abbrev HasFour : QuadSpec → Type 0
HasFour spec = length spec.corners ≡ 4

-- a quadrilateral with four corners, or another element
abbrev IsWell : Element → Type 0
IsWell (Quad spec) = HasFour spec
IsWell (Edge line) = Unit {0}
IsWell Point = Unit {0}

-- a place for each node
as_many : (ids corners places : List ℕ) → places_of ids corners ≡ Ok places → length places ≡ length corners
as_many ids [] places h = sym (ap length (ok_same [] places h))
as_many ids (corner ∷ corners) places h =
    let (place, e1, h1) = then_ok (node_at ids corner) _ places h in
    let (more, e2, h2) = then_ok (places_of ids corners) _ places h1 in
    sym (ap length (ok_same (place ∷ more) places h2)) ∙ ap suc (as_many ids corners more e2)

shaped_well : (shape : Shape) (tag quads : ℕ) (places : List ℕ) (element : Element) → length places ≡ corner_count shape → element_of shape tag quads places ≡ Ok element → IsWell element
shaped_well shapes.Quad tag quads places element four h =
    let (few, e1, h1) = then_ok (unless kinds.Limit (nat_lt quads (2 ^ 20))) _ element h in
    let made : Element = Quad (record { material = tag; corners = places }) in
    subst IsWell (ok_same made element h1) four
shaped_well shapes.Line tag quads places element two h =
    let made : Element = Edge (record { id = tag; ends = places }) in subst IsWell (ok_same made element h) tt
shaped_well shapes.Point tag quads places element one h = subst IsWell (ok_same Point element h) tt

behind_tags : (numbers : List ℕ) (tags corners : ℕ) → (length numbers == tags + corners) ≡ true → length (drop tags numbers) ≡ corners
behind_tags numbers tags corners h = grind (arith, nat_tests, common_steps)

element_well : (ids : List ℕ) (quads : ℕ) (words : List (List ℕ)) (element : Element) → element_line ids quads words ≡ Ok element → IsWell element
unfolding element_line placed_element
element_well ids quads words element h =
    let (front, e1, h1) = then_ok (front_of words) _ element h in
    let (numbers, e2, h2) = then_ok (or_fault kinds.ElementLine (all_of id_of (drop 3 words))) _ element h1 in
    let (whole, e3, h3) = then_ok (unless kinds.ElementLine (length numbers == front.tags + corner_count front.shape)) _ element h2 in
    let (places, e4, h4) = then_ok (places_of ids (drop front.tags numbers)) _ element h3 in
    let many : length places ≡ corner_count front.shape =
    as_many ids (drop front.tags numbers) places e4 ∙ behind_tags numbers front.tags (corner_count front.shape) (passed kinds.ElementLine _ whole e3) in
    shaped_well front.shape (tag_of front.tags numbers) quads places element many h4

all_well : (elements : List Element) → ((place : ℕ) (element : Element) → slice_get elements place ≡ Some element → IsWell element) → All HasFour (quads_of elements)
all_well [] each k d within = absurd (omega arith)
all_well (Quad spec ∷ elements) each zero d within = each 0 (Quad spec) refl
all_well (Quad spec ∷ elements) each (suc k) d within = all_well elements (λ place other at. each (suc place) other at) k d (omega arith)
all_well (Edge line ∷ elements) each k d within = all_well elements (λ place other at. each (suc place) other at) k d within
all_well (Point ∷ elements) each k d within = all_well elements (λ place other at. each (suc place) other at) k d within

pub four_cornered : (text : List ℕ) (mesh : Mesh) → Msh text mesh → All HasFour mesh.quads
four_cornered text mesh msh = let P : Mesh → Type 0 = λ m. All HasFour m.quads in subst P (sym msh.mesh_is) (all_well msh.elements (λ place element at.
    let (words, e) = line_ok kinds.TooFew (element_row msh.nodes (take place msh.elements)) _ element (msh.reads.elements_are.has.rows_are.reads.each place element at) in
    element_well (ids_of msh.nodes) (length (quads_of (take place msh.elements))) words element e))
