-- The lines of a written mesh, and what is read of them.
use Rattle.std.proofs.Common.{◌≡◌, ◌∙◌, sym, ap, refl, subst, ℕ, suc, ◌<◌, ◌≤◌, ◌^◌, List, [], ◌∷◌, ◌++◌, length, true, false, arith, decimal, append_assoc}
use Rattle.std.specs.Prelude.{None, Ok, All, codes, nat_lt, nat_le, slice_index, unsigned_abs, pos}
use Rattle.std.proofs.lemmas.Bool.Decides.{nat_tests}
use Rattle.std.proofs.lemmas.List.Elements.{All-head, All-tail}
use Rattle.fem_fixed.specs.declared.mesh.Point.{Point}
use Rattle.fem_fixed.specs.declared.mesh.QuadSpec.{QuadSpec}
use Rattle.fem_fixed.specs.declared.mesh.LineSpec.{LineSpec}
use Rattle.fem_fixed.specs.Mesh.{IsWithinReach, AreWithin}
use Rattle.fem_fixed.specs.Ticks.{number_of, is_number, parts_of, size_of, ticks}
use Rattle.fem_text.specs.Lines.{words_of}
use Rattle.fem_text.specs.Words.{id_at, number_at}
use Rattle.fem_text.specs.WordLines.{starts_with}
use Rattle.mesh_nodes.specs.declared.nodes.Node.{Node}
use Rattle.ucd_read.specs.declared.cells.Cell.TheVariants.{Quad, Line}
use Rattle.mesh_nodes.specs.Words.{height_at}
use Rattle.ucd_read.specs.Header.{header_line as read_header}
use Rattle.ucd_read.specs.Nodes.{node_line as read_node}
use Rattle.mesh_nodes.specs.Nodes.{node_line as read_any}
use Rattle.mesh_nodes.specs.Nodes.{place_of, ids_of}
use Rattle.mesh_nodes.specs.NodeTable.{joined}
use Rattle.ucd_read.specs.Cells.{quad_line as read_quad, edge_line as read_edge, cell_line as read_cell}
use Rattle.ucd_read.specs.Cells.{corner_ids, corner_places, shape_at}
use Rattle.fem_text.specs.Written.{line_of}
use Rattle.fem_text.proofs.WrittenWords.{IsWord, AreWords, words_of_line, line_has_words, line_is_shown}
use Rattle.fem_text.proofs.WrittenLines.{IsLine, AreLines}
use Rattle.fem_text.proofs.Decimals.{decimal_digits, decimal_word, no_first_mark, id_of_decimal}
use Rattle.ucd_write.specs.Coordinates.{coordinate}
use Rattle.ucd_write.specs.Text.{header_line, node_line, node_lines, node_word, corner_words, quad_line, edge_line}
use Rattle.mesh_nodes.specs.Bounds.{AreDifferent}
use Rattle.ucd_write.proofs.Fixed.{coordinate_back, coordinate_word}
use Rattle.ucd_write.proofs.Places.{place_found, next_new}
use Rattle.ucd_write.proofs.Given.{GiveBack}

within_true : (m n : ℕ) → m ≤ n → nat_le m n ≡ true
within_true m n h = grind (arith, nat_tests)

below_true : (m n : ℕ) → m < n → nat_lt m n ≡ true
below_true m n h = grind (arith, nat_tests)

is_line : (word : List ℕ) (words : List (List ℕ)) → IsWord word → AreWords words → IsLine (line_of (word ∷ words))
is_line word words is are = record { shown = line_is_shown word words is are; words = line_has_words word words is are }

zero_word : IsWord (codes "0")
zero_word = record { plain = refl; some = omega arith }

-- the header
header_words : (nodes cells : ℕ) → cells < 2 ^ 32 → AreWords (decimal cells ∷ codes "0" ∷ codes "0" ∷ codes "0" ∷ [])
header_words nodes cells h = (decimal_word cells (omega arith), (zero_word, (zero_word, (zero_word, tt))))

pub header_given : (nodes cells : ℕ) → nodes ≤ 2 ^ 20 → cells ≤ 2 ^ 21 → read_header (words_of (header_line nodes cells)) ≡ Ok (record { nodes = nodes; cells = cells })
unfolding header_line id_at read_header
header_given nodes cells n c =
    let words = words_of_line (decimal nodes) (decimal cells ∷ codes "0" ∷ codes "0" ∷ codes "0" ∷ []) (decimal_word nodes (omega arith)) (header_words nodes cells (omega arith)) in
    rw (words, id_of_decimal nodes (omega arith), id_of_decimal cells (omega arith), within_true nodes (2 ^ 20) n, within_true cells (2 ^ 21) c) refl

pub header_is_line : (nodes cells : ℕ) → nodes ≤ 2 ^ 20 → cells ≤ 2 ^ 21 → IsLine (header_line nodes cells)
unfolding header_line
header_is_line nodes cells n c =
    is_line (decimal nodes) (decimal cells ∷ codes "0" ∷ codes "0" ∷ codes "0" ∷ []) (decimal_word nodes (omega arith)) (header_words nodes cells (omega arith))

pub header_no_comment : (nodes cells : ℕ) → nodes ≤ 2 ^ 20 → starts_with 35 (header_line nodes cells) ≡ false
unfolding header_line
header_no_comment nodes cells n =
    let are = decimal_digits nodes (omega arith) in
    no_first_mark (decimal nodes) (32 ∷ line_of (decimal cells ∷ codes "0" ∷ codes "0" ∷ codes "0" ∷ [])) 35 are.digits are.some (omega arith)

-- the nodes
node_words : (point : Point) → IsWithinReach point → AreWords (coordinate point.x ∷ coordinate point.y ∷ codes "0" ∷ [])
node_words point reach = (coordinate_word point.x reach.0, (coordinate_word point.y reach.1, (zero_word, tt)))

zero_number : number_of (codes "0") ≡ Ok (pos 0)
unfolding is_number parts_of size_of ticks
zero_number = refl

node_given : (before : List Node) (id : ℕ) (point : Point) → id < 2 ^ 32 → IsWithinReach point → place_of (ids_of before) id ≡ None →
    read_node before (words_of (node_line id point)) ≡ Ok (record { id = id; point = point })
unfolding node_line id_at number_at height_at read_any
node_given before id point small reach new =
    let words = words_of_line (decimal id) (coordinate point.x ∷ coordinate point.y ∷ codes "0" ∷ []) (decimal_word id (omega arith)) (node_words point reach) in
    rw (
      words,
      id_of_decimal id small,
      coordinate_back point.x reach.0,
      within_true (unsigned_abs point.x) (2 ^ 26) reach.0,
      coordinate_back point.y reach.1,
      within_true (unsigned_abs point.y) (2 ^ 26) reach.1,
      zero_number,
      new,
    ) refl

node_is_line : (id : ℕ) (point : Point) → id < 2 ^ 32 → IsWithinReach point → IsLine (node_line id point)
unfolding node_line
node_is_line id point small reach =
    is_line (decimal id) (coordinate point.x ∷ coordinate point.y ∷ codes "0" ∷ []) (decimal_word id (omega arith)) (node_words point reach)

ids_push : (before : List Node) (node : Node) → ids_of (before ++ node ∷ []) ≡ ids_of before ++ node.id ∷ []
ids_push [] node = refl
ids_push (first ∷ before) node = ap (λ ids. first.id ∷ ids) (ids_push before node)

pub nodes_given : (before : List Node) (ids : List ℕ) (points : List Point) → All (λ id. id < 2 ^ 32) ids → All IsWithinReach points → AreDifferent (ids_of before ++ ids) →
    GiveBack read_node before (joined ids points) (node_lines ids points)
nodes_given before [] points small reach different = tt
nodes_given before (id ∷ ids) [] small reach different = tt
nodes_given before (id ∷ ids) (point ∷ points) small reach different =
    let node : Node = record { id = id; point = point } in
    let moved : ids_of before ++ id ∷ ids ≡ ids_of (before ++ node ∷ []) ++ ids = sym (append_assoc (ids_of before) (id ∷ []) ids) ∙ ap (λ front. front ++ ids) (sym (ids_push before node)) in (
      node_given before id point (All-head (λ (n : ℕ). n < 2 ^ 32) id ids small) (All-head IsWithinReach point points reach) (next_new (ids_of before) id ids different),
      nodes_given (before ++ node ∷ []) ids points (All-tail (λ (n : ℕ). n < 2 ^ 32) id ids small) (All-tail IsWithinReach point points reach) (subst AreDifferent moved different),
    )

pub nodes_are_lines : (ids : List ℕ) (points : List Point) → All (λ id. id < 2 ^ 32) ids → All IsWithinReach points → AreLines (node_lines ids points)
nodes_are_lines [] points small reach = tt
nodes_are_lines (id ∷ ids) [] small reach = tt
nodes_are_lines (id ∷ ids) (point ∷ points) small reach = (
  node_is_line id point (All-head (λ (n : ℕ). n < 2 ^ 32) id ids small) (All-head IsWithinReach point points reach),
  nodes_are_lines ids points (All-tail (λ (n : ℕ). n < 2 ^ 32) id ids small) (All-tail IsWithinReach point points reach),
)

pub as_many_node_lines : (ids : List ℕ) (points : List Point) → length ids ≡ length points → length (node_lines ids points) ≡ length points
as_many_node_lines [] [] h = refl
as_many_node_lines [] (point ∷ points) h = absurd (omega arith)
as_many_node_lines (id ∷ ids) [] h = absurd (omega arith)
as_many_node_lines (id ∷ ids) (point ∷ points) h = ap suc (as_many_node_lines ids points (omega arith))

-- the ids of nodes are of 32 bits
small_id : (ids : List ℕ) (k : ℕ) → All (λ id. id < 2 ^ 32) ids → k < length ids → slice_index ids k < 2 ^ 32
small_id ids k small h = small k 0 h

node_is_word : (ids : List ℕ) (k : ℕ) → All (λ id. id < 2 ^ 32) ids → k < length ids → IsWord (node_word ids k)
node_is_word ids k small h = (let few = small_id ids k small h in decimal_word (slice_index ids k) (omega (arith, few)))

-- a list of so many numbers
four_of : (corners : List ℕ) → length corners ≡ 4 → slice_index corners 0 ∷ slice_index corners 1 ∷ slice_index corners 2 ∷ slice_index corners 3 ∷ [] ≡ corners
four_of [] h = absurd (omega arith)
four_of (a ∷ []) h = absurd (omega arith)
four_of (a ∷ b ∷ []) h = absurd (omega arith)
four_of (a ∷ b ∷ c ∷ []) h = absurd (omega arith)
four_of (a ∷ b ∷ c ∷ d ∷ []) h = refl
four_of (a ∷ b ∷ c ∷ d ∷ e ∷ more) h = absurd (omega arith)

two_of : (ends : List ℕ) → length ends ≡ 2 → slice_index ends 0 ∷ slice_index ends 1 ∷ [] ≡ ends
two_of [] h = absurd (omega arith)
two_of (a ∷ []) h = absurd (omega arith)
two_of (a ∷ b ∷ []) h = refl
two_of (a ∷ b ∷ c ∷ more) h = absurd (omega arith)

corner_within : (count : ℕ) (corners : List ℕ) (k : ℕ) → AreWithin count corners → k < length corners → slice_index corners k < count
corner_within count corners k within h = within k 0 h

-- the quadrilaterals
quad_words : (ids : List ℕ) (quad : QuadSpec) → All (λ id. id < 2 ^ 32) ids → quad.material < 2 ^ 32 → length quad.corners ≡ 4 → AreWithin (length ids) quad.corners →
    AreWords (decimal quad.material ∷ codes "quad" ∷ corner_words ids quad.corners)
quad_words ids quad small material four within =
    let word = λ (k : ℕ) (h : k < length quad.corners). node_is_word ids (slice_index quad.corners k) small (corner_within (length ids) quad.corners k within h) in
    (decimal_word quad.material (omega arith), (record { plain = refl; some = omega arith }, (word 0 (omega arith), (word 1 (omega arith), (word 2 (omega arith), (word 3 (omega arith), tt))))))

pub quad_is_line : (ids : List ℕ) (number : ℕ) (quad : QuadSpec) → number < 2 ^ 32 → All (λ id. id < 2 ^ 32) ids → quad.material < 2 ^ 32 → length quad.corners ≡ 4 →
    AreWithin (length ids) quad.corners → IsLine (quad_line ids number quad)
unfolding quad_line
quad_is_line ids number quad n small material four within = is_line (decimal number) (decimal quad.material ∷ codes "quad" ∷ corner_words ids quad.corners) (decimal_word number (omega arith)) (quad_words ids quad small material four within)

pub quad_given : (ids : List ℕ) (number quads : ℕ) (quad : QuadSpec) → AreDifferent ids → number < 2 ^ 32 → quads < 2 ^ 20 → All (λ id. id < 2 ^ 32) ids → quad.material < 2 ^ 32 →
    length quad.corners ≡ 4 → AreWithin (length ids) quad.corners → read_cell ids quads (words_of (quad_line ids number quad)) ≡ Ok (Quad quad)
unfolding quad_line id_at corner_ids corner_places shape_at read_quad read_cell
quad_given ids number quads quad different n few small material four within =
    let at = λ (k : ℕ) (h : k < length quad.corners). corner_within (length ids) quad.corners k within h in
    let id = λ (k : ℕ) (h : k < length quad.corners). id_of_decimal (slice_index ids (slice_index quad.corners k)) (small_id ids (slice_index quad.corners k) small (at k h)) in
    let place = λ (k : ℕ) (h : k < length quad.corners). place_found ids (slice_index quad.corners k) different (at k h) in
    rw (
      words_of_line (decimal number) (decimal quad.material ∷ codes "quad" ∷ corner_words ids quad.corners) (decimal_word number (omega arith)) (quad_words ids quad small material four within),
      id_of_decimal number n,
      id_of_decimal quad.material material,
      id 0 (omega arith),
      id 1 (omega arith),
      id 2 (omega arith),
      id 3 (omega arith),
      place 0 (omega arith),
      place 1 (omega arith),
      place 2 (omega arith),
      place 3 (omega arith),
      below_true quads (2 ^ 20) few,
      four_of quad.corners four,
    ) refl

-- the lines
edge_words : (ids : List ℕ) (line : LineSpec) → All (λ id. id < 2 ^ 32) ids → line.id < 2 ^ 32 → length line.ends ≡ 2 → AreWithin (length ids) line.ends →
    AreWords (decimal line.id ∷ codes "line" ∷ node_word ids (slice_index line.ends 0) ∷ node_word ids (slice_index line.ends 1) ∷ [])
edge_words ids line small boundary two within =
    let word = λ (k : ℕ) (h : k < length line.ends). node_is_word ids (slice_index line.ends k) small (corner_within (length ids) line.ends k within h) in
    (decimal_word line.id (omega arith), (record { plain = refl; some = omega arith }, (word 0 (omega arith), (word 1 (omega arith), tt))))

pub edge_is_line : (ids : List ℕ) (number : ℕ) (line : LineSpec) → number < 2 ^ 32 → All (λ id. id < 2 ^ 32) ids → line.id < 2 ^ 32 → length line.ends ≡ 2 →
    AreWithin (length ids) line.ends → IsLine (edge_line ids number line)
unfolding edge_line
edge_is_line ids number line n small boundary two within = is_line (decimal number) (decimal line.id ∷ codes "line" ∷ node_word ids (slice_index line.ends 0) ∷ node_word ids (slice_index line.ends 1) ∷ []) (decimal_word number (omega arith)) (edge_words ids line small boundary two within)

pub edge_given : (ids : List ℕ) (number quads : ℕ) (line : LineSpec) → AreDifferent ids → number < 2 ^ 32 → All (λ id. id < 2 ^ 32) ids → line.id < 2 ^ 32 →
    length line.ends ≡ 2 → AreWithin (length ids) line.ends → read_cell ids quads (words_of (edge_line ids number line)) ≡ Ok (Line line)
unfolding edge_line id_at shape_at read_edge read_cell
edge_given ids number quads line different n small boundary two within =
    let at = λ (k : ℕ) (h : k < length line.ends). corner_within (length ids) line.ends k within h in
    let id = λ (k : ℕ) (h : k < length line.ends). id_of_decimal (slice_index ids (slice_index line.ends k)) (small_id ids (slice_index line.ends k) small (at k h)) in
    let place = λ (k : ℕ) (h : k < length line.ends). place_found ids (slice_index line.ends k) different (at k h) in
    rw (
      words_of_line (decimal number) (decimal line.id ∷ codes "line" ∷ node_word ids (slice_index line.ends 0) ∷ node_word ids (slice_index line.ends 1) ∷ []) (decimal_word number (omega arith)) (edge_words ids line small boundary two within),
      id_of_decimal number n,
      id_of_decimal line.id boundary,
      id 0 (omega arith),
      id 1 (omega arith),
      place 0 (omega arith),
      place 1 (omega arith),
      two_of line.ends two,
    ) refl
