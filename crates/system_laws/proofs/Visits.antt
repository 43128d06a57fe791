-- Which faces meet, and what is visited, by the names of corners.
use Rattle.std.proofs.Common.{◌≡◌, ◌∙◌, ap, ap₂, ℕ, Bool, List, [], ◌∷◌, ◌++◌, map}
use Rattle.std.specs.Prelude.{◌&&◌, not, filter, if◌then◌else◌}
use Rattle.std.specs.List.{flat_map, range_with_len}
use Rattle.corner_names.specs.Cells.{vertex, face_start, face_end, mid}
use Rattle.fixed_q1.specs.declared.places.Part.{Part}
use Rattle.fixed_q1.specs.declared.places.Part.TheVariants.{Whole, Half0, Half1}
use Rattle.hanging_refine.specs.Coarse.{corner_at, on_boundary, boundary_id}
use Rattle.hanging_refine.specs.Refined.{RefinedMesh, coarse_of, cell_in}
use Rattle.hanging_refine.specs.Sides.{half_end}
use Rattle.mesh_visits.specs.declared.flags.Flags.{Flags}
use Rattle.mesh_visits.specs.declared.visit.Visit.{Visit}
use Rattle.mesh_visits.specs.declared.visit.Visit.TheVariants.{Cell as OnCell, Boundary as OnBoundary}
use Rattle.mesh_visits.specs.Meeting.{Face, same_pair, is_face, is_equal, is_half, is_outer_of, is_outer, faces_of_cell, all_faces}
use Rattle.mesh_visits.specs.Visits.{part_visit, part_visits, equal_visits, visits_up, visits_down, interior_visits, id_of, boundary_visits, face_visits, faces_visits, all_visits}
use Rattle.mesh_visits.specs.Runs.{Subdomains, is_own_cell, is_chosen, outer_visits, visits_of}
use Rattle.system_laws.specs.Same.{IsSameForest}
use Rattle.system_laws.proofs.Forests.{same_count, by_cells}

pub same_equal : (a b : RefinedMesh) → IsSameForest a b → is_equal a ≡ is_equal b
unfolding is_equal
same_equal a b s = by_cells
    (λ m cs here there. not (is_face here there) && same_pair
    (vertex (corner_at m) (cell_in cs here.0) (face_start here.1)) (vertex (corner_at m) (cell_in cs here.0) (face_end here.1))
    (vertex (corner_at m) (cell_in cs there.0) (face_start there.1)) (vertex (corner_at m) (cell_in cs there.0) (face_end there.1))) a b s

pub same_half : (a b : RefinedMesh) → IsSameForest a b → is_half a ≡ is_half b
unfolding is_half
same_half a b s = by_cells
    (λ m cs half small large. same_pair
    (vertex (corner_at m) (cell_in cs small.0) (face_start small.1)) (vertex (corner_at m) (cell_in cs small.0) (face_end small.1))
    (vertex (corner_at m) (cell_in cs large.0) (half_end large.1 half)) (mid (corner_at m) (cell_in cs large.0) large.1)) a b s

pub same_outer : (a b : RefinedMesh) → IsSameForest a b → is_outer a ≡ is_outer b
unfolding is_outer
same_outer a b s = by_cells (λ m cs face. is_outer_of (on_boundary m) (cell_in cs face.0) face.1) a b s

pub same_id : (a b : RefinedMesh) → IsSameForest a b → id_of a ≡ id_of b
same_id a b s = by_cells (λ m cs face. boundary_id m (coarse_of (cell_in cs face.0)) face.1) a b s

pub same_faces : (a b : RefinedMesh) → IsSameForest a b → all_faces a ≡ all_faces b
unfolding all_faces
same_faces a b s = ap (λ n. flat_map faces_of_cell (range_with_len 0 n)) (same_count a b s)

same_parts : (a b : RefinedMesh) → IsSameForest a b → part_visits a ≡ part_visits b
same_parts a b s = ap (λ faces here mine theirs meets. map (part_visit here.1 mine theirs) (filter meets faces)) (same_faces a b s)

-- how the visits of one kind are made of those that meet
Parts : Type 0
Parts = Face → Part → Part → (Face → Bool) → List Visit

same_equals : (a b : RefinedMesh) → IsSameForest a b → equal_visits a ≡ equal_visits b
unfolding Parts
same_equals a b s = ap₂ {C = Face → List Visit} (λ (parts : Parts) (equal : Face → Face → Bool) (here : Face). parts here Whole Whole (equal here)) (same_parts a b s) (same_equal a b s)

same_up : (a b : RefinedMesh) → IsSameForest a b → visits_up a ≡ visits_up b
unfolding Parts
same_up a b s = ap₂ {C = Face → List Visit} (λ (parts : Parts) (half : ℕ → Face → Face → Bool) (here : Face). parts here Whole Half0 (half 0 here) ++ parts here Whole Half1 (half 1 here)) (same_parts a b s) (same_half a b s)

same_down : (a b : RefinedMesh) → IsSameForest a b → visits_down a ≡ visits_down b
unfolding Parts
same_down a b s = ap₂ {C = Face → List Visit} (λ (parts : Parts) (half : ℕ → Face → Face → Bool) (here : Face). parts here Half0 Whole (λ there. half 0 there here) ++ parts here Half1 Whole (λ there. half 1 there here)) (same_parts a b s) (same_half a b s)

pub same_interior : (a b : RefinedMesh) → IsSameForest a b → interior_visits a ≡ interior_visits b
same_interior a b s =
    ap₂ {C = Face → List Visit} (λ (equal up : Face → List Visit) (here : Face). equal here ++ up here ++ visits_down a here) (same_equals a b s) (same_up a b s)
    ∙ ap {B = Face → List Visit} (λ (down : Face → List Visit) (here : Face). equal_visits b here ++ visits_up b here ++ down here) (same_down a b s)

same_boundary : (a b : RefinedMesh) → IsSameForest a b → boundary_visits a ≡ boundary_visits b
same_boundary a b s =
    ap₂ {C = Face → List Visit} (λ (outer : Face → Bool) (id : Face → ℕ) (here : Face). if outer here then OnBoundary here.1 (id here) ∷ [] else []) (same_outer a b s) (same_id a b s)

same_face_visits : (a b : RefinedMesh) → IsSameForest a b → face_visits a ≡ face_visits b
unfolding face_visits
same_face_visits a b s =
    ap₂ {C = Face → List Visit} (λ (boundary interior : Face → List Visit) (here : Face). boundary here ++ interior here) (same_boundary a b s) (same_interior a b s)

-- all visits of each cell are the same, in the same order
same_all : (first : Bool) (a b : RefinedMesh) → IsSameForest a b → all_visits first a ≡ all_visits first b
unfolding all_visits faces_visits
same_all first a b s =
    ap {B = ℕ → List Visit} (λ (visits : Face → List Visit) (cell : ℕ).
    if first then flat_map (λ face. visits (cell, face)) (0 ∷ 1 ∷ 2 ∷ 3 ∷ []) ++ OnCell ∷ [] else OnCell ∷ flat_map (λ face. visits (cell, face)) (0 ∷ 1 ∷ 2 ∷ 3 ∷ []))
    (same_face_visits a b s)

-- and so are those that a run makes
pub same_visits : (subdomain : Subdomains) (flags : Flags) (a b : RefinedMesh) → IsSameForest a b → visits_of subdomain flags a ≡ visits_of subdomain flags b
unfolding visits_of
same_visits subdomain flags a b s =
    ap {B = ℕ → List Visit} (λ (visits : ℕ → List Visit) (cell : ℕ).
    if is_own_cell subdomain flags.own cell then filter (is_chosen subdomain flags cell) (visits cell) else outer_visits subdomain flags (visits cell))
    (same_all flags.cells_after_faces a b s)
