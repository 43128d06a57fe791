-- A coarse mesh is one on which forests can stand.
use Rattle.std.proofs.Common.{◌≡◌, ◌∙◌, sym, ap, ap₂, refl, subst, ℕ, zero, suc, ◌<◌, inl, inr, ⊎_elim, List, [], ◌∷◌, length, Bool, true, false, not, arith}
use Rattle.std.specs.Prelude.{filter, slice_index}
use Rattle.std.proofs.lemmas.Bool.{cases_Bool, cond-true, cond-false}
use Rattle.quad_mesh.specs.declared.edges.Place.{Place}
use Rattle.quad_mesh.specs.declared.sides.Side.{Side}
use Rattle.quad_mesh.specs.declared.sides.Side.TheVariants.{Boundary, Cell as Beyond}
use Rattle.quad_mesh.specs.Geometry.{AreFourDistinct, has_repeats}
use Rattle.quad_mesh.specs.declared.edges.Face.{Face}
use Rattle.quad_mesh.specs.Faces.{edge_of, face_of, place_of, quad_at, all_faces, faces_on, is_on as is_on_edge, is_at}
use Rattle.quad_mesh.specs.Faults.{id_on}
use Rattle.quad_mesh.specs.Sides.{others_on, side_from}
use Rattle.quad_mesh.specs.Mesh.{CoarseMesh, edge_at, side_at, IsAcross, IsSide, IsMutual}
use Rattle.quad_mesh.specs.Uses.{is_place}
use Rattle.quad_mesh.proofs.Across.{Among, side_is, among_all, edge_itself}
use Rattle.quad_mesh.proofs.Mutual.{unordered, turned_edge}
use Rattle.quad_mesh.proofs.Distinct.{filter_both}
use Rattle.corner_names.specs.Names.{root, node, middle_of}
use Rattle.corner_names.specs.Cells.{Corners, mid, face_start, face_end, AreDistinct, AreShared, Across}
use Rattle.corner_names.proofs.Names.{middle_of-sym, middle_of-inj}
use Rattle.corner_names.proofs.Across.{root_mid}
use Rattle.hanging_refine.specs.Coarse.{corner_at, on_boundary, is_boundary, IsCoarse}

start_at : (f : ℕ) → f < 4 → slice_index (0 ∷ 1 ∷ 0 ∷ 2 ∷ []) f ≡ face_start f
start_at zero h = refl
start_at (suc zero) h = refl
start_at (suc (suc zero)) h = refl
start_at (suc (suc (suc zero))) h = refl
start_at (suc (suc (suc (suc f)))) h = absurd (omega arith)

end_at : (f : ℕ) → f < 4 → slice_index (2 ∷ 3 ∷ 1 ∷ 3 ∷ []) f ≡ face_end f
end_at zero h = refl
end_at (suc zero) h = refl
end_at (suc (suc zero)) h = refl
end_at (suc (suc (suc zero))) h = refl
end_at (suc (suc (suc (suc f)))) h = absurd (omega arith)

edge_is : (mesh : CoarseMesh) (c f : ℕ) → f < 4 → edge_at mesh c f ≡ edge_of (corner_at mesh c (face_start f)) (corner_at mesh c (face_end f))
unfolding corner_at
edge_is mesh c f h =
    let vs : List ℕ = (quad_at mesh.cells c).vertices in
    ap₂ (λ (s t : ℕ). edge_of (slice_index vs s) (slice_index vs t)) (start_at f h) (end_at f h)

node_one : (a b : ℕ) → node a ≡ node b → a ≡ b
node_one a b e = cc

-- faces of coarse cells have one middle exactly where they are on one edge
pub mid_edge : (mesh : CoarseMesh) (c f d h : ℕ) → f < 4 → h < 4 → mid (corner_at mesh) (root c) f ≡ mid (corner_at mesh) (root d) h → edge_at mesh c f ≡ edge_at mesh d h
mid_edge mesh c f d h a b e =
    let m : Corners = corner_at mesh in
    let s : ℕ = m c (face_start f) in let t : ℕ = m c (face_end f) in let u : ℕ = m d (face_start h) in let v : ℕ = m d (face_end h) in
    let same : edge_of s t ≡ edge_of u v =
    ⊎_elim (λ (x : (node s ≡ node u) × (node t ≡ node v)). ap₂ edge_of (node_one s u x.0) (node_one t v x.1))
    (λ (x : (node s ≡ node v) × (node t ≡ node u)). ap₂ edge_of (node_one s v x.0) (node_one t u x.1) ∙ turned_edge v u)
    (middle_of-inj (node s) (node t) (node u) (node v) (sym (root_mid m c f) ∙ e ∙ root_mid m d h)) in
    edge_is mesh c f a ∙ same ∙ sym (edge_is mesh d h b)

pub edge_mid : (mesh : CoarseMesh) (c f d h : ℕ) → f < 4 → h < 4 → edge_at mesh c f ≡ edge_at mesh d h → mid (corner_at mesh) (root c) f ≡ mid (corner_at mesh) (root d) h
edge_mid mesh c f d h a b e =
    let m : Corners = corner_at mesh in
    let s : ℕ = m c (face_start f) in let t : ℕ = m c (face_end f) in let u : ℕ = m d (face_start h) in let v : ℕ = m d (face_end h) in
    root_mid m c f ∙ ⊎_elim (λ (x : (s ≡ u) × (t ≡ v)). ap₂ (λ (y z : ℕ). middle_of (node y) (node z)) x.0 x.1)
    (λ (x : (s ≡ v) × (t ≡ u)). ap₂ (λ (y z : ℕ). middle_of (node y) (node z)) x.0 x.1 ∙ middle_of-sym (node v) (node u))
    (unordered s t u v (sym (edge_is mesh c f a) ∙ e ∙ edge_is mesh d h b)) ∙ sym (root_mid m d h)

-- the four corners of a cell differ
corners_one : (vs : List ℕ) → AreFourDistinct vs → (v w : ℕ) → v < 4 → w < 4 → slice_index vs v ≡ slice_index vs w → v ≡ w
corners_one [] h v w a b e = absurd (let x = h.0 in omega arith)
corners_one (p ∷ []) h v w a b e = absurd (let x = h.0 in omega arith)
corners_one (p ∷ q ∷ []) h v w a b e = absurd (let x = h.0 in omega arith)
corners_one (p ∷ q ∷ r ∷ []) h v w a b e = absurd (let x = h.0 in omega arith)
corners_one (p ∷ q ∷ r ∷ s ∷ []) h v w a b e = four_one p q r s h.1 v w a b e
  where
    no_pq : (p q r s : ℕ) → has_repeats (p ∷ q ∷ r ∷ s ∷ []) ≡ false → p ≡ q → ⊥
    no_pq p q r s h e = grind arith

    no_pr : (p q r s : ℕ) → has_repeats (p ∷ q ∷ r ∷ s ∷ []) ≡ false → p ≡ r → ⊥
    no_pr p q r s h e = grind arith

    no_ps : (p q r s : ℕ) → has_repeats (p ∷ q ∷ r ∷ s ∷ []) ≡ false → p ≡ s → ⊥
    no_ps p q r s h e = grind arith

    no_qr : (p q r s : ℕ) → has_repeats (p ∷ q ∷ r ∷ s ∷ []) ≡ false → q ≡ r → ⊥
    no_qr p q r s h e = grind arith

    no_qs : (p q r s : ℕ) → has_repeats (p ∷ q ∷ r ∷ s ∷ []) ≡ false → q ≡ s → ⊥
    no_qs p q r s h e = grind arith

    no_rs : (p q r s : ℕ) → has_repeats (p ∷ q ∷ r ∷ s ∷ []) ≡ false → r ≡ s → ⊥
    no_rs p q r s h e = grind arith

    four_one : (p q r s : ℕ) → has_repeats (p ∷ q ∷ r ∷ s ∷ []) ≡ false → (v w : ℕ) → v < 4 → w < 4 → slice_index (p ∷ q ∷ r ∷ s ∷ []) v ≡ slice_index (p ∷ q ∷ r ∷ s ∷ []) w → v ≡ w
    four_one p q r s h zero zero a b e = refl
    four_one p q r s h zero (suc zero) a b e = absurd (no_pq p q r s h e)
    four_one p q r s h zero (suc (suc zero)) a b e = absurd (no_pr p q r s h e)
    four_one p q r s h zero (suc (suc (suc zero))) a b e = absurd (no_ps p q r s h e)
    four_one p q r s h (suc zero) zero a b e = absurd (no_pq p q r s h (sym e))
    four_one p q r s h (suc zero) (suc zero) a b e = refl
    four_one p q r s h (suc zero) (suc (suc zero)) a b e = absurd (no_qr p q r s h e)
    four_one p q r s h (suc zero) (suc (suc (suc zero))) a b e = absurd (no_qs p q r s h e)
    four_one p q r s h (suc (suc zero)) zero a b e = absurd (no_pr p q r s h (sym e))
    four_one p q r s h (suc (suc zero)) (suc zero) a b e = absurd (no_qr p q r s h (sym e))
    four_one p q r s h (suc (suc zero)) (suc (suc zero)) a b e = refl
    four_one p q r s h (suc (suc zero)) (suc (suc (suc zero))) a b e = absurd (no_rs p q r s h e)
    four_one p q r s h (suc (suc (suc zero))) zero a b e = absurd (no_ps p q r s h (sym e))
    four_one p q r s h (suc (suc (suc zero))) (suc zero) a b e = absurd (no_qs p q r s h (sym e))
    four_one p q r s h (suc (suc (suc zero))) (suc (suc zero)) a b e = absurd (no_rs p q r s h (sym e))
    four_one p q r s h (suc (suc (suc zero))) (suc (suc (suc zero))) a b e = refl
    four_one p q r s h (suc (suc (suc (suc v)))) w a b e = absurd (omega arith)
    four_one p q r s h v (suc (suc (suc (suc w)))) a b e = absurd (omega arith)
corners_one (p ∷ q ∷ r ∷ s ∷ t ∷ others) h v w a b e = absurd (let x = h.0 in omega arith)

distinct_corners : (mesh : CoarseMesh) → ((c : ℕ) → c < length mesh.cells → AreFourDistinct (quad_at mesh.cells c).vertices) → AreDistinct (length mesh.cells) (corner_at mesh)
unfolding corner_at
distinct_corners mesh h c v w below a b e =
    corners_one (quad_at mesh.cells c).vertices (h c below) v w a b e

-- each face has a side that the mesh tells, and the side of a neighbour leads back
abbrev pub AreMutual : CoarseMesh → Type 0
AreMutual mesh = (c f : ℕ) → c < length mesh.cells → f < 4 → IsMutual mesh c f (side_at mesh c f)

boundary_cases : (s : Side) → is_boundary s ≡ true → (id : ℕ) × (s ≡ Boundary id)
boundary_cases (Boundary id) h = (id, refl)
boundary_cases (Beyond c f) h = absurd cc

beyond_cases : (s : Side) → is_boundary s ≡ false → (c : ℕ) × ((f : ℕ) × (s ≡ Beyond c f))
beyond_cases (Boundary id) h = absurd cc
beyond_cases (Beyond c f) h = (c, (f, refl))

same_place : (a b : Place) → a ≡ b → (a.cell ≡ b.cell) × (a.face ≡ b.face)
same_place a b e = (ap (λ (p : Place). p.cell) e, ap (λ (p : Place). p.face) e)

across_of : (mesh : CoarseMesh) (c f d h : ℕ) → d < length mesh.cells → f < 4 → h < 4 → Across (corner_at mesh) (root c) f (root d) h → IsAcross mesh c f d h
across_of mesh c f d h below a b x = record {
  cell_within = below;
  face_within = b;
  apart = λ e. let t = same_place (place_of d h) (place_of c f) e in x.1 (sym t.0) (sym t.1);
  edge = sym (mid_edge mesh c f d h a b x.0);
}

alone_edges : (mesh : CoarseMesh) (c f d h : ℕ) → c < length mesh.cells → d < length mesh.cells → f < 4 → h < 4 → on_boundary mesh c f ≡ true → Across (corner_at mesh) (root c) f (root d) h → ⊥
unfolding on_boundary
alone_edges mesh c f d h ic id a b on x =
    let s = boundary_cases (side_at mesh c f) on in
    let P : Side → Type 0 = λ y. IsSide mesh c f y in
    let t : IsSide mesh c f (Boundary s.0) = subst P s.1 (side_is mesh c f) in
    t.0 d h (across_of mesh c f d h id a b x)

joined_edges : (mesh : CoarseMesh) (c f : ℕ) → c < length mesh.cells → f < 4 → on_boundary mesh c f ≡ false →
    (d : ℕ) × ((g : ℕ) × ((d < length mesh.cells) × (g < 4) × Across (corner_at mesh) (root c) f (root d) g))
unfolding on_boundary
joined_edges mesh c f ic a off =
    let s = beyond_cases (side_at mesh c f) off in
    let P : Side → Type 0 = λ y. IsSide mesh c f y in
    let t : IsAcross mesh c f s.0 s.1.0 = subst P s.1.1 (side_is mesh c f) in
    (s.0, (s.1.0, (t.cell_within, t.face_within, (edge_mid mesh c f s.0 s.1.0 a t.face_within (sym t.edge), λ e k. t.apart (ap₂ place_of (sym e) (sym k))))))

-- the side of each face but the first of an edge is the first
side_first : (mesh : CoarseMesh) (edge : ℕ × ℕ) (a : Face) (rest : List Face) → faces_on (all_faces mesh.cells) edge ≡ a ∷ rest →
    (c f : ℕ) → edge_at mesh c f ≡ edge → is_place a.place (place_of c f) ≡ false → side_at mesh c f ≡ Beyond a.place.cell a.place.face
unfolding side_at
side_first mesh edge a rest e c f on off =
    let faces : List Face = all_faces mesh.cells in
    let far : Face → Bool = λ g. not (is_at (place_of c f) g) in
    let one : others_on faces (face_of c (quad_at mesh.cells c) f) ≡ filter far (faces_on faces (edge_at mesh c f)) = filter_both (is_on_edge (edge_at mesh c f)) far faces in
    let two : filter far (faces_on faces (edge_at mesh c f)) ≡ filter far (a ∷ rest) = ap (λ (k : ℕ × ℕ). filter far (faces_on faces k)) on ∙ ap (filter far) e in
    let three : filter far (a ∷ rest) ≡ a ∷ filter far rest = cond-true (far a) (a ∷ filter far rest) (filter far rest) (ap not off) in
    ap (λ xs. side_from xs (id_on mesh.lines (edge_at mesh c f))) (one ∙ two ∙ three)

place_cases : (p q : Place) → (is_place p q ≡ true → p ≡ q)
place_cases p q h =
    let cell : p.cell ≡ q.cell = grind arith in
    let face : p.face ≡ q.face = grind arith in
    ap₂ place_of cell face

filtered : (p : Face → Bool) (xs : List Face) (f : Face) → Among xs f → p f ≡ true → Among (filter p xs) f
filtered p [] f among on = absurd among
filtered p (a ∷ others) f among on =
    let P : List Face → Type 0 = λ xs. Among xs f in
    elim among [
      | inl same ↦ subst P (sym (cond-true (p a) (a ∷ filter p others) (filter p others) (ap p same ∙ on))) (inl same)
      | inr later ↦ elim (cases_Bool (p a)) [
        | inl passes ↦ subst P (sym (cond-true (p a) (a ∷ filter p others) (filter p others) passes)) (inr (filtered p others f later on))
        | inr fails ↦ subst P (sym (cond-false (p a) (a ∷ filter p others) (filter p others) fails)) (filtered p others f later on)
      ]
    ]

none_among : (xs : List Face) (f : Face) → xs ≡ [] → Among xs f → ⊥
none_among [] f e h = h
none_among (a ∷ others) f e h = cc

beyond_one : (v w v' w' : ℕ) → Beyond v w ≡ Beyond v' w' → place_of v w ≡ place_of v' w'
beyond_one v w v' w' e = let a : v ≡ v' = cc in let b : w ≡ w' = cc in ap₂ place_of a b

not_place : (p q : Place) → (p ≡ q → ⊥) → is_place p q ≡ false
not_place p q none = ⊎_elim (λ (t : is_place p q ≡ true). absurd (none (place_cases p q t))) (λ (t : is_place p q ≡ false). t) (cases_Bool (is_place p q))

-- a face of the edge that isn't the first has the first across, and the first has it across
leads_back : (mesh : CoarseMesh) (edge : ℕ × ℕ) (a : Face) (rest : List Face) → AreMutual mesh → faces_on (all_faces mesh.cells) edge ≡ a ∷ rest →
    (v w : ℕ) → v < length mesh.cells → w < 4 → edge_at mesh v w ≡ edge → is_place a.place (place_of v w) ≡ false → side_at mesh a.place.cell a.place.face ≡ Beyond v w
leads_back mesh edge a rest back is v w iv iw on off =
    let P : Side → Type 0 = λ s. IsMutual mesh v w s in subst P (side_first mesh edge a rest is v w on off) (back v w iv iw)

is_first : (mesh : CoarseMesh) (edge : ℕ × ℕ) (a : Face) (rest : List Face) → AreMutual mesh → faces_on (all_faces mesh.cells) edge ≡ a ∷ rest →
    (c f : ℕ) → side_at mesh a.place.cell a.place.face ≡ Beyond c f →
    (v w : ℕ) → v < length mesh.cells → w < 4 → edge_at mesh v w ≡ edge → (place_of c f ≡ place_of v w → ⊥) → a.place ≡ place_of v w
is_first mesh edge a rest back is c f sc v w iv iw on none =
    ⊎_elim (λ (t : is_place a.place (place_of v w) ≡ true). place_cases a.place (place_of v w) t)
    (λ (t : is_place a.place (place_of v w) ≡ false). absurd (none (beyond_one c f v w (sym sc ∙ leads_back mesh edge a rest back is v w iv iw on t))))
    (cases_Bool (is_place a.place (place_of v w)))

-- where two faces are on an edge beside a third, they are one
third_is_second : (mesh : CoarseMesh) (edge : ℕ × ℕ) (on : List Face) → AreMutual mesh → faces_on (all_faces mesh.cells) edge ≡ on →
    (c f d g e h : ℕ) → c < length mesh.cells → d < length mesh.cells → e < length mesh.cells → f < 4 → g < 4 → h < 4 →
    edge_at mesh c f ≡ edge → edge_at mesh d g ≡ edge → edge_at mesh e h ≡ edge →
    (place_of c f ≡ place_of d g → ⊥) → (place_of c f ≡ place_of e h → ⊥) → place_of d g ≡ place_of e h
third_is_second mesh edge [] back is c f d g e h ic id ie i j k x y z cd ce =
    absurd (none_among (faces_on (all_faces mesh.cells) edge) (face_of c (quad_at mesh.cells c) f) is (filtered (is_on_edge edge) (all_faces mesh.cells) (face_of c (quad_at mesh.cells c) f) (among_all mesh.cells c f ic i) (edge_itself (edge_at mesh c f) edge x)))
third_is_second mesh edge (a ∷ rest) back is c f d g e h ic id ie i j k x y z cd ce =
    ⊎_elim
    (λ (n : is_place a.place (place_of c f) ≡ true).
    let ac : a.place ≡ place_of c f = place_cases a.place (place_of c f) n in
    let fd : is_place a.place (place_of d g) ≡ false = not_place a.place (place_of d g) (λ t. cd (sym ac ∙ t)) in
    let fe : is_place a.place (place_of e h) ≡ false = not_place a.place (place_of e h) (λ t. ce (sym ac ∙ t)) in
    beyond_one d g e h (sym (leads_back mesh edge a rest back is d g id j y fd) ∙ leads_back mesh edge a rest back is e h ie k z fe))
    (λ (n : is_place a.place (place_of c f) ≡ false).
    let sc : side_at mesh a.place.cell a.place.face ≡ Beyond c f = leads_back mesh edge a rest back is c f ic i x n in
    sym (is_first mesh edge a rest back is c f sc d g id j y cd) ∙ is_first mesh edge a rest back is c f sc e h ie k z ce)
    (cases_Bool (is_place a.place (place_of c f)))

shared_edges : (mesh : CoarseMesh) → AreMutual mesh → AreShared (length mesh.cells) (corner_at mesh)
shared_edges mesh back c d e f g h ic id ie a b k x y cd ce =
    let t : place_of d g ≡ place_of e h =
    third_is_second mesh (edge_at mesh c f) (faces_on (all_faces mesh.cells) (edge_at mesh c f)) back refl c f d g e h ic id ie a b k refl (sym (mid_edge mesh c f d g a b x)) (sym (mid_edge mesh c f e h a k y))
    (λ s. let u = same_place (place_of c f) (place_of d g) s in cd u.0 u.1) (λ s. let u = same_place (place_of c f) (place_of e h) s in ce u.0 u.1) in
    same_place (place_of d g) (place_of e h) t

-- a coarse mesh is one on which forests can stand
pub coarse_is : (mesh : CoarseMesh) → ((c : ℕ) → c < length mesh.cells → AreFourDistinct (quad_at mesh.cells c).vertices) → AreMutual mesh → IsCoarse mesh
coarse_is mesh distinct back = record {
  distinct = distinct_corners mesh distinct;
  shared = shared_edges mesh back;
  alone = alone_edges mesh;
  joined = joined_edges mesh;
}
