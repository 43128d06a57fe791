-- The meshes of texts in UCD are of quadrilaterals.
use Rattle.std.proofs.Common.{◌≡◌, ◌∙◌, sym, ap, refl, subst, ℕ, zero, suc, ⊎_elim, true, false, List, [], ◌∷◌, ◌++◌, length, take, All, arith}
use Rattle.std.specs.Prelude.{◌^◌, codes, Some, Ok, slice_index, nat_lt}
use Rattle.std.specs.List.{slice_get}
use Rattle.std.specs.Str.{bytes_eq}
use Rattle.std.proofs.lemmas.Bool.{cases_Bool}
use Rattle.std.proofs.lemmas.List.Elements.{All-append, All-same}
use Rattle.fem_fixed.specs.declared.mesh.QuadSpec.{QuadSpec}
use Rattle.fem_fixed.specs.Mesh.{Mesh}
use Rattle.fem_text.specs.Words.{unless, exactly, word_at, id_at}
use Rattle.fem_text.proofs.OneReading.{ok_same}
use Rattle.fem_text.proofs.Values.{then_ok, line_ok}
use Rattle.ucd_read.specs.declared.fault.UcdKind.TheVariants as kinds
use Rattle.ucd_read.specs.Nodes.{ids_of}
use Rattle.ucd_read.specs.Cells.{quads_of, node_at, corner_ids, corner_places, quad_line, edge_line, shape_of, shape_at, shaped_line, cell_line}
use Rattle.ucd_read.specs.Ucd.{Ucd, cell_behind}
use Rattle.system_laws.specs.Laws.{AreQuadrilaterals, TextsHaveQuadrilaterals}

abbrev pub HasFour : QuadSpec → Type 0
HasFour spec = length spec.corners ≡ 4

-- the quadrilaterals of a cell have four corners, and come before those of later cells
record IsWell {C : Type 0} (quads : List C → List QuadSpec) (cell : C) : Type 0 where
  four : All HasFour (quads (cell ∷ []))
  before : (cells : List C) → quads (cell ∷ cells) ≡ quads (cell ∷ []) ++ quads cells

one_four : (spec : QuadSpec) → HasFour spec → All HasFour (spec ∷ [])
one_four spec h zero d within = h
one_four spec h (suc k) d within = absurd (omega arith)

none_four : All HasFour []
none_four k d within = absurd (omega arith)

four_places : (ids corners places : List ℕ) → corner_places ids corners ≡ Ok places → length places ≡ 4
unfolding corner_places
four_places ids corners places h =
    let (a, e1, h1) = then_ok (node_at ids (slice_index corners 0)) _ places h in
    let (b, e2, h2) = then_ok (node_at ids (slice_index corners 1)) _ places h1 in
    let (c, e3, h3) = then_ok (node_at ids (slice_index corners 2)) _ places h2 in
    let (d, e4, h4) = then_ok (node_at ids (slice_index corners 3)) _ places h3 in
    let same : (a ∷ b ∷ c ∷ d ∷ []) ≡ places = ok_same (a ∷ b ∷ c ∷ d ∷ []) places h4 in
    let P : List ℕ → Type 0 = λ xs. length xs ≡ 4 in
    subst P same refl

quad_well : (ids : List ℕ) (quads material : ℕ) (words : List (List ℕ)) (cell : _) → quad_line ids quads material words ≡ Ok cell → IsWell quads_of cell
unfolding quad_line
quad_well ids quads material words cell h =
    let (corners, e1, h1) = then_ok (corner_ids words) _ cell h in
    let (places, e2, h2) = then_ok (corner_places ids corners) _ cell h1 in
    let (few, e3, h3) = then_ok (unless kinds.Limit (nat_lt quads (2 ^ 20))) _ cell h2 in
    let spec : QuadSpec = record { material = material; corners = places } in
    subst (IsWell quads_of) (ok_same _ cell h3) (record { four = one_four spec (four_places ids corners places e2); before = λ cells. refl })

edge_well : (ids : List ℕ) (quads boundary : ℕ) (words : List (List ℕ)) (cell : _) → edge_line ids boundary words ≡ Ok cell → IsWell quads_of cell
unfolding edge_line
edge_well ids quads boundary words cell h =
    let (five, e1, h1) = then_ok (exactly 5 kinds.CellLine words) _ cell h in
    let (a, e2, h2) = then_ok (id_at kinds.CellLine words 3) _ cell h1 in
    let (b, e3, h3) = then_ok (id_at kinds.CellLine words 4) _ cell h2 in
    let (from, e4, h4) = then_ok (node_at ids a) _ cell h3 in
    let (to, e5, h5) = then_ok (node_at ids b) _ cell h4 in
    subst (IsWell quads_of) (ok_same _ cell h5) (record { four = none_four; before = λ cells. refl })

shaped_well : (word ids : List ℕ) (quads material : ℕ) (words : List (List ℕ)) (cell : _) → shaped_line (shape_of word) ids quads material words ≡ Ok cell → IsWell quads_of cell
shaped_well word ids quads material words cell h = ⊎_elim
    (λ (a : bytes_eq word (codes "quad") ≡ true). quad_well ids quads material words cell (rw a at h))
    (λ (a : bytes_eq word (codes "quad") ≡ false). ⊎_elim
    (λ (b : bytes_eq word (codes "line") ≡ true). edge_well ids quads material words cell (rw (a, b) at h))
    (λ (b : bytes_eq word (codes "line") ≡ false). absurd (let e = rw (a, b) at h in cc))
    (cases_Bool (bytes_eq word (codes "line"))))
    (cases_Bool (bytes_eq word (codes "quad")))

cell_well : (ids : List ℕ) (quads : ℕ) (words : List (List ℕ)) (cell : _) → cell_line ids quads words ≡ Ok cell → IsWell quads_of cell
unfolding cell_line shape_at
cell_well ids quads words cell h =
    let (shape, e1, h1) = then_ok (shape_at words) _ cell h in
    let (number, e2, h2) = then_ok (id_at kinds.CellLine words 0) _ cell h1 in
    let (material, e3, h3) = then_ok (id_at kinds.CellLine words 1) _ cell h2 in
    let (word, e4, h4) = then_ok (word_at kinds.CellLine words 2) _ shape e1 in
    shaped_well word ids quads material words cell (ap (λ s. shaped_line s ids quads material words) (ok_same _ shape h4) ∙ h3)

quads_well : (cells : _) → ((place : ℕ) (cell : _) → slice_get cells place ≡ Some cell → IsWell quads_of cell) → All HasFour (quads_of cells)
quads_well [] each = none_four
quads_well (cell ∷ cells) each =
    let w = each 0 cell refl in
    All-same HasFour (quads_of (cell ∷ cells)) (quads_of (cell ∷ []) ++ quads_of cells) (w.before cells) (All-append HasFour (quads_of (cell ∷ [])) (quads_of cells) w.four (quads_well cells (λ place other at. each (suc place) other at)))

pub four_cornered : TextsHaveQuadrilaterals Ucd
four_cornered text mesh ucd = let P : Mesh → Type 0 = λ m. AreQuadrilaterals m in subst P (sym ucd.mesh_is) (quads_well ucd.cells (λ place cell at.
    let (words, e) = line_ok kinds.TooFew (cell_behind ucd.nodes (take place ucd.cells)) _ cell (ucd.reads.cells_are.reads.each place cell at) in
    cell_well (ids_of ucd.nodes) (length (quads_of (take place ucd.cells))) words cell e))
