-- What each mesh of a text keeps: points within reach, corners that are nodes, and counts within the limits.
use Rattle.std.proofs.Common.{◌≡◌, ◌∙◌, sym, ap, refl, subst, ℕ, zero, suc, ◌+◌, ◌<◌, ◌≤◌, ◌^◌, List, [], ◌∷◌, ◌++◌, length, take, drop, true, arith}
use Rattle.std.specs.Prelude.{Some, Ok, All, nat_lt, nat_le, ◌==◌}
use Rattle.std.specs.List.{slice_get}
use Rattle.fem_fixed.specs.Mesh.{Mesh, AreWithin}
use Rattle.fem_fixed.specs.Numbers.{id_of}
use Rattle.fem_text.specs.Words.{unless, or_fault, exactly, id_at, all_of}
use Rattle.fem_text.proofs.OneReading.{ok_same}
use Rattle.fem_text.proofs.Values.{then_ok, passed, given, line_ok}
use Rattle.mesh_nodes.specs.Nodes.{place_of, ids_of}
use Rattle.mesh_nodes.specs.Bounds.{IsBounded}
use Rattle.mesh_nodes.proofs.NodeLines.{node_reach, node_new, different_ids, found_within, points_reach, as_many_points, as_many_ids}
use Rattle.msh_read.specs.declared.fault.MshKind.TheVariants as kinds
use Rattle.msh_read.specs.declared.elements.Element.{Element}
use Rattle.msh_read.specs.declared.elements.Element.TheVariants.{Quad, Line as Edge, Point}
use Rattle.msh_read.specs.declared.shape.Shape.{Shape}
use Rattle.msh_read.specs.declared.shape.Shape.TheVariants as shapes
use Rattle.msh_read.specs.Format.{count_line}
use Rattle.msh_read.specs.Shapes.{quads_of, edges_of, corner_count}
use Rattle.msh_read.specs.Elements.{front_of, node_at, places_of, tag_of, element_of, placed_element, element_line}
use Rattle.msh_read.specs.Msh.{node_row, element_row, Msh}

at_most : (m n : ℕ) → nat_le m n ≡ true → m ≤ n
at_most m n h = grind arith

below : (m n : ℕ) → nat_lt m n ≡ true → m < n
below m n h = grind arith

count_small : (limit : ℕ) (words : List (List ℕ)) (count : ℕ) → count_line limit words ≡ Ok count → count ≤ limit
unfolding count_line
count_small limit words count h =
    let (one, e1, h1) = then_ok (exactly 1 kinds.Section words) _ count h in
    let (told, e2, h2) = then_ok (id_at kinds.Section words 0) _ count h1 in
    let (few, e3, h3) = then_ok (unless kinds.Limit (nat_le told limit)) _ count h2 in
    subst (λ n. n ≤ limit) (ok_same told count h3) (at_most told limit (passed kinds.Limit _ few e3))

node_within : (ids : List ℕ) (id place : ℕ) → node_at ids id ≡ Ok place → place < length ids
node_within ids id place h = found_within ids id place (given kinds.UnknownNode (place_of ids id) place h)

none_within : (n : ℕ) → AreWithin n []
none_within n k d within = absurd (omega arith)

more_within : (n place : ℕ) (places : List ℕ) → place < n → AreWithin n places → AreWithin n (place ∷ places)
more_within n place places first rest zero d within = first
more_within n place places first rest (suc k) d within = rest k d (omega arith)

places_within : (ids corners places : List ℕ) → places_of ids corners ≡ Ok places → AreWithin (length ids) places
places_within ids [] places h = subst (λ xs. AreWithin (length ids) xs) (ok_same [] places h) (none_within (length ids))
places_within ids (corner ∷ corners) places h =
    let (place, e1, h1) = then_ok (node_at ids corner) _ places h in
    let (more, e2, h2) = then_ok (places_of ids corners) _ places h1 in
    subst (λ xs. AreWithin (length ids) xs) (ok_same (place ∷ more) places h2)
    (more_within (length ids) place more (node_within ids corner place e1) (places_within ids corners more e2))

-- a quadrilateral behind few others, with corners that are nodes; or another element
abbrev pub IsSmallElement : ℕ → ℕ → Element → Type 0
IsSmallElement count quads (Quad spec) = (quads < 2 ^ 20) × AreWithin count spec.corners
IsSmallElement count quads (Edge line) = AreWithin count line.ends
IsSmallElement count quads Point = Unit {0}

shaped_small : (shape : Shape) (count tag quads : ℕ) (places : List ℕ) (element : Element) → AreWithin count places → element_of shape tag quads places ≡ Ok element →
    IsSmallElement count quads element
shaped_small shapes.Quad count tag quads places element within h =
    let (few, e1, h1) = then_ok (unless kinds.Limit (nat_lt quads (2 ^ 20))) _ element h in
    let made : Element = Quad (record { material = tag; corners = places }) in
    let same : made ≡ element = ok_same made element h1 in
    subst (λ x. IsSmallElement count quads x) same (below quads (2 ^ 20) (passed kinds.Limit _ few e1), within)
shaped_small shapes.Line count tag quads places element within h =
    let made : Element = Edge (record { id = tag; ends = places }) in
    subst (λ x. IsSmallElement count quads x) (ok_same made element h) within
shaped_small shapes.Point count tag quads places element within h = subst (λ x. IsSmallElement count quads x) (ok_same Point element h) tt

placed_small : (ids : List ℕ) (shape : Shape) (tag quads : ℕ) (corners : List ℕ) (element : Element) → placed_element ids shape tag quads corners ≡ Ok element →
    IsSmallElement (length ids) quads element
unfolding placed_element
placed_small ids shape tag quads corners element h =
    let (places, e1, h1) = then_ok (places_of ids corners) _ element h in
    shaped_small shape (length ids) tag quads places element (places_within ids corners places e1) h1

element_small : (ids : List ℕ) (quads : ℕ) (words : List (List ℕ)) (element : Element) → element_line ids quads words ≡ Ok element → IsSmallElement (length ids) quads element
unfolding element_line
element_small ids quads words element h =
    let (front, e1, h1) = then_ok (front_of words) _ element h in
    let (numbers, e2, h2) = then_ok (or_fault kinds.ElementLine (all_of id_of (drop 3 words))) _ element h1 in
    let (whole, e3, h3) = then_ok (unless kinds.ElementLine (length numbers == front.tags + corner_count front.shape)) _ element h2 in
    placed_small ids front.shape (tag_of front.tags numbers) quads (drop front.tags numbers) element h3

-- each of the elements is one, where this many quadrilaterals come before them all
SmallElements : ℕ → ℕ → List Element → Type 0
SmallElements count quads [] = Unit {0}
SmallElements count quads (element ∷ elements) = IsSmallElement count quads element × SmallElements count (quads + length (quads_of (element ∷ []))) elements

quads_count : (xs ys : List Element) → length (quads_of (xs ++ ys)) ≡ length (quads_of xs) + length (quads_of ys)
quads_count [] ys = omega arith
quads_count (Quad spec ∷ xs) ys = (let rest = quads_count xs ys in omega (arith, rest))
quads_count (Edge line ∷ xs) ys = quads_count xs ys
quads_count (Point ∷ xs) ys = quads_count xs ys

small_elements : (count : ℕ) (before elements : List Element) →
    ((place : ℕ) (element : Element) → slice_get elements place ≡ Some element → IsSmallElement count (length (quads_of (before ++ take place elements))) element) →
    SmallElements count (length (quads_of before)) elements
unfolding SmallElements
small_elements count before [] each = tt
small_elements count before (element ∷ elements) each =
    let P : ℕ → Type 0 = λ n. SmallElements count n elements in
    let Q : List Element → Type 0 = λ xs. IsSmallElement count (length (quads_of xs)) element in (
      subst Q (no_more before) (each 0 element refl),
      subst P (quads_count before (element ∷ [])) (small_elements count (before ++ element ∷ []) elements (λ place other at.
          let R : List Element → Type 0 = λ xs. IsSmallElement count (length (quads_of xs)) other in subst R (moved before element (take place elements)) (each (suc place) other at))),
    )
  where
    no_more : (xs : List Element) → xs ++ [] ≡ xs
    no_more [] = refl
    no_more (x ∷ xs) = ap (λ ys. x ∷ ys) (no_more xs)

    moved : (xs : List Element) (element : Element) (ys : List Element) → xs ++ element ∷ ys ≡ (xs ++ element ∷ []) ++ ys
    moved [] element ys = refl
    moved (x ∷ xs) element ys = ap (λ zs. x ∷ zs) (moved xs element ys)

few_quads : (count quads : ℕ) (elements : List Element) → quads ≤ 2 ^ 20 → SmallElements count quads elements → quads + length (quads_of elements) ≤ 2 ^ 20
unfolding SmallElements
few_quads count quads [] few h = omega (arith, few)
few_quads count quads (Quad spec ∷ elements) few h = (let rest = few_quads count (quads + 1) elements (omega (arith, h.0.0)) h.1 in omega (arith, rest))
few_quads count quads (Edge line ∷ elements) few h = (let rest = few_quads count (quads + 0) elements (omega (arith, few)) h.1 in omega (arith, rest))
few_quads count quads (Point ∷ elements) few h = (let rest = few_quads count (quads + 0) elements (omega (arith, few)) h.1 in omega (arith, rest))

quads_within : (count quads : ℕ) (elements : List Element) → SmallElements count quads elements → All (λ spec. AreWithin count spec.corners) (quads_of elements)
unfolding SmallElements
quads_within count quads [] h k d within = absurd (omega arith)
quads_within count quads (Quad spec ∷ elements) h zero d within = h.0.1
quads_within count quads (Quad spec ∷ elements) h (suc k) d within = quads_within count (quads + 1) elements h.1 k d (omega arith)
quads_within count quads (Edge line ∷ elements) h k d within = quads_within count (quads + 0) elements h.1 k d within
quads_within count quads (Point ∷ elements) h k d within = quads_within count (quads + 0) elements h.1 k d within

lines_within : (count quads : ℕ) (elements : List Element) → SmallElements count quads elements → All (λ spec. AreWithin count spec.ends) (edges_of elements)
unfolding SmallElements
lines_within count quads [] h k d within = absurd (omega arith)
lines_within count quads (Quad spec ∷ elements) h k d within = lines_within count (quads + 1) elements h.1 k d within
lines_within count quads (Edge line ∷ elements) h zero d within = h.0
lines_within count quads (Edge line ∷ elements) h (suc k) d within = lines_within count (quads + 0) elements h.1 k d (omega arith)
lines_within count quads (Point ∷ elements) h k d within = lines_within count (quads + 0) elements h.1 k d within

few_cells : (elements : List Element) → length (quads_of elements) + length (edges_of elements) ≤ length elements
few_cells [] = omega arith
few_cells (Quad spec ∷ elements) = (let rest = few_cells elements in omega (arith, rest))
few_cells (Edge line ∷ elements) = (let rest = few_cells elements in omega (arith, rest))
few_cells (Point ∷ elements) = (let rest = few_cells elements in omega (arith, rest))

-- the mesh of a text is within the bounds
pub bounded : (text : List ℕ) (mesh : Mesh) → Msh text mesh → IsBounded mesh
bounded text mesh msh = let P : Mesh → Type 0 = λ m. IsBounded m in subst P (sym msh.mesh_is) (record {
  whole = as_many_ids msh.nodes ∙ sym (as_many_points msh.nodes);
  different = different_ids msh.nodes (λ place node at.
      let (words, e) = line_ok kinds.TooFew (node_row (take place msh.nodes)) _ node (msh.reads.has.nodes_are.has.rows_are.reads.each place node at) in
      node_new kinds.NodeLine kinds.Number kinds.DuplicateId (take place msh.nodes) words node e);
  reach = points_reach msh.nodes (λ place node at.
      let (words, e) = line_ok kinds.TooFew (node_row (take place msh.nodes)) _ node (msh.reads.has.nodes_are.has.rows_are.reads.each place node at) in
      node_reach kinds.NodeLine kinds.Number kinds.DuplicateId (take place msh.nodes) words node e);
  points = (let many = as_many_points msh.nodes in let count = msh.reads.has.nodes_are.has.rows_are.all in omega (arith, many, count, node_count));
  corners = (let P : ℕ → Type 0 = λ n. All (λ spec. AreWithin n spec.corners) (quads_of msh.elements) in
      subst P (as_many_ids msh.nodes ∙ sym (as_many_points msh.nodes)) (quads_within (length (ids_of msh.nodes)) 0 msh.elements elements));
  ends = (let P : ℕ → Type 0 = λ n. All (λ spec. AreWithin n spec.ends) (edges_of msh.elements) in
      subst P (as_many_ids msh.nodes ∙ sym (as_many_points msh.nodes)) (lines_within (length (ids_of msh.nodes)) 0 msh.elements elements));
  quads = (let few = few_quads (length (ids_of msh.nodes)) 0 msh.elements (omega arith) elements in omega (arith, few));
  lines = (let all = few_cells msh.elements in let count = msh.reads.elements_are.has.rows_are.all in omega (arith, all, count, element_count));
  cells = (let all = few_cells msh.elements in let count = msh.reads.elements_are.has.rows_are.all in omega (arith, all, count, element_count));
})
  where
    node_count : msh.reads.node_count ≤ 2 ^ 20
    node_count =
        (let (words, e) = line_ok kinds.TooFew (count_line (2 ^ 20)) _ msh.reads.node_count msh.reads.has.nodes_are.has.head.head_is in count_small (2 ^ 20) words msh.reads.node_count e)

    element_count : msh.reads.element_count ≤ 2 ^ 21
    element_count =
        (let (words, e) = line_ok kinds.TooFew (count_line (2 ^ 21)) _ msh.reads.element_count msh.reads.elements_are.has.head.head_is in count_small (2 ^ 21) words msh.reads.element_count e)

    elements : SmallElements (length (ids_of msh.nodes)) 0 msh.elements
    elements = small_elements (length (ids_of msh.nodes)) [] msh.elements (λ place element at.
        let (words, e) = line_ok kinds.TooFew (element_row msh.nodes (take place msh.elements)) _ element (msh.reads.elements_are.has.rows_are.reads.each place element at) in
        element_small (ids_of msh.nodes) (length (quads_of (take place msh.elements))) words element e)
