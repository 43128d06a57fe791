-- What a coarse mesh of quadrilaterals keeps, and what its faults are.
use Rattle.std.proofs.Common.{◌≡◌, ◌∙◌, sym, ap, refl, subst, ℕ, zero, suc, ◌<◌, ◌≤◌, ⊎_elim, Bool, true, false, List, [], ◌∷◌, length, All, Ok, Err, arith}
use Rattle.std.specs.Prelude.{ℤ, pos, int_lt, take, ◌==◌, ◌&&◌, if◌then◌else◌, Some, None}
use Rattle.std.specs.declared.option.Option.{Option}
use Rattle.std.specs.Option.{option_or}
use Rattle.std.specs.List.{list_any}
use Rattle.std.specs.Ordering.{int_eq}
use Rattle.std.proofs.lemmas.Bool.{cases_Bool, cases_lt}
use Rattle.fem_fixed.specs.declared.mesh.Point.{Point}
use Rattle.fem_fixed.specs.declared.mesh.QuadSpec.{QuadSpec}
use Rattle.fem_fixed.specs.declared.mesh.LineSpec.{LineSpec}
use Rattle.quad_mesh.specs.declared.cells.Quad.{Quad}
use Rattle.quad_mesh.specs.declared.edges.Face.{Face}
use Rattle.quad_mesh.specs.declared.fault.MeshFault.{MeshFault}
use Rattle.quad_mesh.specs.declared.fault.MeshFault.TheVariants.{RepeatedCorner, ZeroArea, NotConvex, EdgeShared, LineOffEdge, BoundaryTwice, NoMemory}
use Rattle.quad_mesh.specs.declared.sides.Side.{Side}
use Rattle.quad_mesh.specs.declared.sides.Side.TheVariants.{Boundary, Cell as Beyond}
use Rattle.quad_mesh.specs.Geometry.{AreFourDistinct, has_repeats, diagonal_product, turned_corners, is_reentrant}
use Rattle.quad_mesh.specs.Cells.{vertices_of, quad_of, quads_of, cell_fault, first_fault, spec_at, cells_fault}
use Rattle.quad_mesh.specs.Faces.{quad_at, faces_below, faces_on, all_faces}
use Rattle.quad_mesh.specs.Faults.{is_crowded, edge_fault, edges_fault, line_edge, line_at, differs, line_fault, lines_fault}
use Rattle.quad_mesh.specs.Mesh.{CoarseMesh, mesh_fault, mesh_of, side_at, IsMutual}
use Rattle.quad_mesh.proofs.First.{unless_ok, unless_err, or_none_parts}
use Rattle.quad_mesh.proofs.Mutual.{both_ways}
use Rattle.hanging_refine.specs.Coarse.{IsCoarse}
use Rattle.hanging_refine.proofs.Edges.{coarse_is}
use Rattle.hanging_refine.proofs.Lists.{map_in, map_length}

none_at : (fault_at : ℕ → Option MeshFault) (n : ℕ) → first_fault fault_at n ≡ None → (k : ℕ) → k < n → fault_at k ≡ None
none_at fault_at zero e k h = absurd (omega arith)
none_at fault_at (suc n) e k h =
    let t = or_none_parts (first_fault fault_at n) (fault_at n) e in
    ⊎_elim (λ (a : k < n). none_at fault_at n t.0 k a) (λ (a : n ≤ k). let s : k ≡ n = omega arith in ap fault_at s ∙ t.1) (cases_lt k n)

if_none : (b : Bool) (fault : MeshFault) (rest : Option MeshFault) → (if b then Some fault else rest) ≡ None → b ≡ false
if_none true fault rest e = absurd cc
if_none false fault rest e = refl

no_repeats : (points : List Point) (cell : ℕ) (spec : QuadSpec) → cell_fault points cell spec ≡ None → has_repeats spec.corners ≡ false
unfolding cell_fault
no_repeats points cell spec e = if_none (has_repeats spec.corners) (RepeatedCorner cell) _ e

apart : (a b c d : ℕ) → has_repeats (a ∷ b ∷ c ∷ d ∷ []) ≡ false → (has_repeats (a ∷ d ∷ b ∷ c ∷ []) ≡ false) × (has_repeats (a ∷ b ∷ d ∷ c ∷ []) ≡ false)
apart a b c d h = (grind arith, grind arith)

turned_four : (product : ℤ) (a b c d : ℕ) → has_repeats (a ∷ b ∷ c ∷ d ∷ []) ≡ false → AreFourDistinct (turned_corners product (a ∷ b ∷ c ∷ d ∷ []))
turned_four product a b c d h =
    let P : Bool → Type 0 = λ t. AreFourDistinct (if t then a ∷ d ∷ b ∷ c ∷ [] else a ∷ b ∷ d ∷ c ∷ []) in
    ⊎_elim (λ (e : int_lt product (pos 0) ≡ true). subst P (sym e) (refl, (apart a b c d h).0)) (λ (e : int_lt product (pos 0) ≡ false). subst P (sym e) (refl, (apart a b c d h).1)) (cases_Bool (int_lt product (pos 0)))

turned_distinct : (product : ℤ) (corners : List ℕ) → length corners ≡ 4 → has_repeats corners ≡ false → AreFourDistinct (turned_corners product corners)
turned_distinct product [] l h = absurd (omega arith)
turned_distinct product (a ∷ []) l h = absurd (omega arith)
turned_distinct product (a ∷ b ∷ []) l h = absurd (omega arith)
turned_distinct product (a ∷ b ∷ c ∷ []) l h = absurd (omega arith)
turned_distinct product (a ∷ b ∷ c ∷ d ∷ []) l h = turned_four product a b c d h
turned_distinct product (a ∷ b ∷ c ∷ d ∷ e ∷ more) l h = absurd (omega arith)

-- the corners of each cell are four
quads_distinct : (points : List Point) (specs : List QuadSpec) → All (λ spec. length spec.corners ≡ 4) specs → cells_fault points specs ≡ None → All (λ (quad : Quad). AreFourDistinct quad.vertices) (quads_of points specs)
quads_distinct points specs four none k d h =
    let b : k < length specs = (let l = map_length (quad_of points) specs in omega arith) in
    let e : QuadSpec = record { material = 0; corners = [] } in
    let P : Quad → Type 0 = λ quad. AreFourDistinct quad.vertices in
    subst P (sym (map_in (quad_of points) specs k e d b))
    (turned_distinct (diagonal_product points (spec_at specs k).corners) (spec_at specs k).corners (four k e b)
    (no_repeats points k (spec_at specs k) (none_at (λ cell. cell_fault points cell (spec_at specs cell)) (length specs) none k b)))

mutual_at : (mesh : CoarseMesh) (cell face : ℕ) (side : Side) → ((other g : ℕ) → side ≡ Beyond other g → side_at mesh other g ≡ Beyond cell face) → IsMutual mesh cell face side
mutual_at mesh cell face (Boundary id) back = tt
mutual_at mesh cell face (Beyond other g) back = back other g refl

sound_coarse : (mesh : CoarseMesh) → All (λ (quad : Quad). AreFourDistinct quad.vertices) mesh.cells → edges_fault mesh.cells ≡ None → IsCoarse mesh
sound_coarse mesh distinct none =
    coarse_is mesh (λ c h. distinct c (record { material = 0; vertices = [] }) h)
    (λ c f h a. mutual_at mesh c f (side_at mesh c f) (λ other g e. both_ways mesh distinct none c f other g h a e))

-- forests can stand on the coarse mesh of quadrilaterals
pub coarse_good : (points : List Point) (specs : List QuadSpec) (lines : List LineSpec) (mesh : CoarseMesh) → All (λ spec. length spec.corners ≡ 4) specs → mesh_of points specs lines ≡ Ok mesh → IsCoarse mesh
unfolding mesh_of
coarse_good points specs lines mesh four e =
    let made : CoarseMesh = record { points = points; cells = quads_of points specs; lines = lines } in
    let t = unless_ok (mesh_fault points specs lines) made mesh (sym e) in
    let u = or_none_parts (cells_fault points specs) (option_or (edges_fault (quads_of points specs)) (lines_fault (all_faces (quads_of points specs)) lines)) t.0 in
    let v = or_none_parts (edges_fault (quads_of points specs)) (lines_fault (all_faces (quads_of points specs)) lines) u.1 in
    subst IsCoarse (sym t.1) (sound_coarse made (quads_distinct points specs four u.0) v.0)

-- the fault is not that memory ran out
IsTold : Option MeshFault → Type 0
IsTold o = o ≡ Some NoMemory → ⊥

none_told : IsTold None
unfolding IsTold
none_told e = cc

or_told : (o p : Option MeshFault) → IsTold o → IsTold p → IsTold (option_or o p)
unfolding IsTold
or_told None p s t = t
or_told (Some fault) p s t = s

if_told : (b : Bool) (fault : MeshFault) (rest : Option MeshFault) → (Some fault ≡ Some NoMemory → ⊥) → IsTold rest → IsTold (if b then Some fault else rest)
unfolding IsTold
if_told true fault rest s t = s
if_told false fault rest s t = t

first_told : (fault_at : ℕ → Option MeshFault) → ((k : ℕ) → IsTold (fault_at k)) → (n : ℕ) → IsTold (first_fault fault_at n)
first_told fault_at each zero = none_told
first_told fault_at each (suc n) = or_told (first_fault fault_at n) (fault_at n) (first_told fault_at each n) (each n)

cell_told : (points : List Point) (cell : ℕ) (spec : QuadSpec) → IsTold (cell_fault points cell spec)
unfolding cell_fault
cell_told points cell spec =
    if_told (has_repeats spec.corners) (RepeatedCorner cell) _ (λ e. cc)
    (if_told (int_eq (diagonal_product points spec.corners) (pos 0)) (ZeroArea cell) _ (λ e. cc)
    (if_told (is_reentrant points (vertices_of points spec)) (NotConvex cell) None (λ e. cc) none_told))

edge_told : (quads : List Quad) (cell : ℕ) → IsTold (edge_fault quads cell)
edge_told quads cell = if_told (is_crowded (faces_below quads cell) (quad_at quads cell)) (EdgeShared cell) None (λ e. cc) none_told

line_told : (faces : List Face) (earlier : List LineSpec) (index : ℕ) (line : LineSpec) → IsTold (line_fault faces earlier index line)
line_told faces earlier index line =
    let count : ℕ = length (faces_on faces (line_edge line)) in
    if_told (count == 0) (LineOffEdge index) _ (λ e. cc) (if_told (count == 1 && list_any (differs line) earlier) (BoundaryTwice index) None (λ e. cc) none_told)

mesh_told : (points : List Point) (specs : List QuadSpec) (lines : List LineSpec) → IsTold (mesh_fault points specs lines)
mesh_told points specs lines =
    let cells : List Quad = quads_of points specs in
    or_told (cells_fault points specs) _ (first_told (λ cell. cell_fault points cell (spec_at specs cell)) (λ k. cell_told points k (spec_at specs k)) (length specs))
    (or_told (edges_fault cells) _ (first_told (edge_fault cells) (edge_told cells) (length cells))
    (first_told (λ index. line_fault (all_faces cells) (take index lines) index (line_at lines index)) (λ k. line_told (all_faces cells) (take k lines) k (line_at lines k)) (length lines)))

-- no coarse mesh is refused for want of memory
pub never_memory : (points : List Point) (specs : List QuadSpec) (lines : List LineSpec) → mesh_of points specs lines ≡ Err NoMemory → ⊥
unfolding mesh_of IsTold
never_memory points specs lines e =
    let made : CoarseMesh = record { points = points; cells = quads_of points specs; lines = lines } in
    mesh_told points specs lines (unless_err (mesh_fault points specs lines) made NoMemory (sym e))
