-- Which cells are ghosts, and that each run is exact.
use Rattle.std.proofs.Common.{◌≡◌, ◌∙◌, sym, ap, refl, ℕ, ◌<◌, ⊎_elim, inl, inr, Bool, true, false, ◌&&◌, ◌||◌, List, [], ◌∷◌, ◌++◌, length, filter, if◌then◌else◌, arith}
use Rattle.std.specs.Prelude.{Option}
use Rattle.std.specs.List.{list_any}
use Rattle.std.proofs.lemmas.Bool.{cases_Bool}
use Rattle.fixed_q1.specs.declared.places.Part.{Part}
use Rattle.fixed_q1.specs.declared.places.Part.TheVariants.{Whole, Half0, Half1}
use Rattle.corner_names.specs.Forest.{MeetAt}
use Rattle.corner_names.proofs.Active.{not_true, clash}
use Rattle.hanging_refine.specs.Refined.{RefinedMesh, cell_at}
use Rattle.hanging_refine.specs.Grown.{IsGrown}
use Rattle.hanging_refine.specs.Coarse.{corner_at}
use Rattle.hanging_refine.specs.Sides.{half_end}
use Rattle.mesh_visits.specs.declared.flags.Flags.{Flags}
use Rattle.mesh_visits.specs.declared.visit.Visit.{Visit}
use Rattle.mesh_visits.specs.declared.visit.Visit.TheVariants.{Cell as OnCell, Boundary as OnBoundary, Interior as OnPart}
use Rattle.mesh_visits.specs.Meeting.{Face, is_equal, is_half, is_outer, all_faces}
use Rattle.mesh_visits.specs.Visits.{face_visits, boundary_visits, interior_visits, part_visit, part_visits, all_visits, id_of}
use Rattle.mesh_visits.specs.Runs.{Subdomains, is_own_cell, meets_own, ghost_visits, visits_of}
use Rattle.mesh_visits.specs.Laws.{goes_to, IsOther, IsGhost, OtherCells, VisitsAreExact}
use Rattle.mesh_visits.proofs.Meets.{and_true, equal_true, half_true}
use Rattle.mesh_visits.proofs.BySide.{none}
use Rattle.mesh_visits.proofs.Choosing.{step_filter, two_tests, outer_run}
use Rattle.mesh_visits.proofs.Counts.{counted, counted-append, counted_map, cell_count, faces_count}
use Rattle.mesh_visits.proofs.RunCounts.{own_cells, own_parts, out_count, outer_count, all_parts, to_other}

-- a test that passes some of what another passes
some_step : (m : Visit → Bool) (v : Visit) (vs : List Visit) (b : Bool) → m v ≡ b → list_any m (v ∷ vs) ≡ false → (b ≡ false) × (list_any m vs ≡ false)
some_step m v vs true e h = absurd (clash (list_any m (v ∷ vs)) (ap (λ b. b || list_any m vs) e) h)
some_step m v vs false e h = (refl, sym (ap (λ b. b || list_any m vs) e) ∙ h)

pub none_counts : (t m : Visit → Bool) (vs : List Visit) → ((v : Visit) → t v ≡ true → m v ≡ true) → list_any m vs ≡ false → counted t vs ≡ 0
none_counts t m [] h e = refl
none_counts t m (v ∷ vs) h e =
    let s = some_step m v vs (m v) refl e in
    ap length (step_filter t v vs false (not_true (t v) (λ k. clash (m v) (h v k) s.0))) ∙ none_counts t m vs h s.1

-- a test that none passes
count_step : (m : Visit → Bool) (v : Visit) (vs : List Visit) (b : Bool) → m v ≡ b → counted m (v ∷ vs) ≡ 0 → (b ≡ false) × (counted m vs ≡ 0)
count_step m v vs true e h = let s = ap length (step_filter m v vs true e) in absurd (omega (arith, s, h))
count_step m v vs false e h = (refl, sym (ap length (step_filter m v vs false e)) ∙ h)

pub none_any : (m : Visit → Bool) (vs : List Visit) → counted m vs ≡ 0 → list_any m vs ≡ false
none_any m [] h = refl
none_any m (v ∷ vs) h = let s = count_step m v vs (m v) refl h in ap (λ b. b || list_any m vs) s.0 ∙ none_any m vs s.1

goes_own : (subdomain : Subdomains) (own : Option ℕ) (a b : Face) → is_own_cell subdomain own b.0 ≡ true → (v : Visit) → goes_to a b v ≡ true → meets_own subdomain own v ≡ true
goes_own subdomain own a b h OnCell e = cc
goes_own subdomain own a b h (OnBoundary f id) e = cc
goes_own subdomain own a b h (OnPart f j g here there) e = ap (is_own_cell subdomain own) (to_other a b f j g here there e) ∙ h

-- a ghost has a visit to an own cell
ghost_meets : (subdomain : Subdomains) (flags : Flags) (forest : RefinedMesh) → IsGrown forest → (c : ℕ) → IsGhost subdomain flags forest c → list_any (meets_own subdomain flags.own) (all_visits flags.cells_after_faces forest c) ≡ true
ghost_meets subdomain flags forest grown c g =
    let visits : List Visit = all_visits flags.cells_after_faces forest c in
    ⊎_elim
    (λ (h : list_any (meets_own subdomain flags.own) visits ≡ true). h)
    (λ (h : list_any (meets_own subdomain flags.own) visits ≡ false).
    let one = all_parts flags.cells_after_faces forest grown (c, g.face) g.there g.here_is g.there_is g.part in
    let zero = none_counts (goes_to (c, g.face) g.there) (meets_own subdomain flags.own) visits (goes_own subdomain flags.own (c, g.face) g.there g.is_own) h in
    absurd (omega (arith, one, zero)))
    (cases_Bool (list_any (meets_own subdomain flags.own) visits))

ghost_run : (subdomain : Subdomains) (flags : Flags) (forest : RefinedMesh) → IsGrown forest → (c : ℕ) → IsGhost subdomain flags forest c → visits_of subdomain flags forest c ≡ ghost_visits flags
ghost_run subdomain flags forest grown c g =
    outer_run subdomain flags forest c g.is_other ∙ ap (λ b. if b then ghost_visits flags else []) (ghost_meets subdomain flags forest grown c g)

-- parts of a face that go to no cell that passes
parts_zero : (m : Visit → Bool) (forest : RefinedMesh) (here : Face) (mine theirs : Part) (p : Face → Bool) →
    ((z e : ℕ) → z < length forest.cells → e < 4 → p (z, e) ≡ true → m (part_visit here.1 mine theirs (z, e)) ≡ true → ⊥) → counted m (part_visits forest here mine theirs p) ≡ 0
parts_zero m forest here mine theirs p h =
    counted_map m (part_visit here.1 mine theirs) (filter p (all_faces forest))
    ∙ ap length (two_tests p (λ y. m (part_visit here.1 mine theirs y)) (all_faces forest)
    ∙ none forest (λ y. p y && m (part_visit here.1 mine theirs y)) (λ z e hz he t. let w = and_true (p (z, e)) (m (part_visit here.1 mine theirs (z, e))) t in h z e hz he w.0 w.1))

-- no face of an own cell meets this one
abbrev pub MeetsNoOwn : Subdomains → Option ℕ → RefinedMesh → ℕ → ℕ → Type 0
MeetsNoOwn subdomain own forest c f =
    (z e : ℕ) → z < length forest.cells → e < 4 → is_own_cell subdomain own z ≡ true → MeetAt (corner_at forest.mesh) (cell_at forest c) f (cell_at forest z) e → ⊥

interior_own : (subdomain : Subdomains) (own : Option ℕ) (forest : RefinedMesh) (c f : ℕ) → MeetsNoOwn subdomain own forest c f → counted (meets_own subdomain own) (interior_visits forest (c, f)) ≡ 0
interior_own subdomain own forest c f no_own =
    let m : Visit → Bool = meets_own subdomain own in
    let e : Face → Bool = is_equal forest (c, f) in
    let equals : List Visit = part_visits forest (c, f) Whole Whole e in
    let up0 : List Visit = part_visits forest (c, f) Whole Half0 (is_half forest 0 (c, f)) in
    let up1 : List Visit = part_visits forest (c, f) Whole Half1 (is_half forest 1 (c, f)) in
    let down0 : List Visit = part_visits forest (c, f) Half0 Whole (λ y. is_half forest 0 y (c, f)) in
    let down1 : List Visit = part_visits forest (c, f) Half1 Whole (λ y. is_half forest 1 y (c, f)) in
    let k0 = parts_zero m forest (c, f) Whole Whole e (λ z d hz hd t o. no_own z d hz hd o (inl (equal_true forest (c, f) (z, d) t).1)) in
    let k1 = parts_zero m forest (c, f) Whole Half0 (is_half forest 0 (c, f)) (λ z d hz hd t o. no_own z d hz hd o (inr (inl (half_end d 0, half_true forest 0 (c, f) (z, d) t)))) in
    let k2 = parts_zero m forest (c, f) Whole Half1 (is_half forest 1 (c, f)) (λ z d hz hd t o. no_own z d hz hd o (inr (inl (half_end d 1, half_true forest 1 (c, f) (z, d) t)))) in
    let k3 = parts_zero m forest (c, f) Half0 Whole (λ y. is_half forest 0 y (c, f)) (λ z d hz hd t o. no_own z d hz hd o (inr (inr (half_end f 0, half_true forest 0 (z, d) (c, f) t)))) in
    let k4 = parts_zero m forest (c, f) Half1 Whole (λ y. is_half forest 1 y (c, f)) (λ z d hz hd t o. no_own z d hz hd o (inr (inr (half_end f 1, half_true forest 1 (z, d) (c, f) t)))) in
    let s0 = counted-append m (equals ++ (up0 ++ up1)) (down0 ++ down1) in
    let s1 = counted-append m equals (up0 ++ up1) in
    let s2 = counted-append m up0 up1 in
    let s3 = counted-append m down0 down1 in
    omega (arith, k0, k1, k2, k3, k4, s0, s1, s2, s3)

boundary_own : (subdomain : Subdomains) (own : Option ℕ) (f id : ℕ) (b : Bool) → counted (meets_own subdomain own) (if b then OnBoundary f id ∷ [] else []) ≡ 0
boundary_own subdomain own f id true = refl
boundary_own subdomain own f id false = refl

face_own : (subdomain : Subdomains) (own : Option ℕ) (forest : RefinedMesh) (c f : ℕ) → MeetsNoOwn subdomain own forest c f → counted (meets_own subdomain own) (face_visits forest (c, f)) ≡ 0
unfolding face_visits
face_own subdomain own forest c f no_own =
    let s = counted-append (meets_own subdomain own) (boundary_visits forest (c, f)) (interior_visits forest (c, f)) in
    let b = boundary_own subdomain own f (id_of forest (c, f)) (is_outer forest (c, f)) in
    let i = interior_own subdomain own forest c f no_own in omega (arith, s, b, i)

cell_own : (subdomain : Subdomains) (own : Option ℕ) (first : Bool) (forest : RefinedMesh) (c : ℕ) → ((f : ℕ) → f < 4 → MeetsNoOwn subdomain own forest c f) → list_any (meets_own subdomain own) (all_visits first forest c) ≡ false
cell_own subdomain own first forest c no_own =
    let m : Visit → Bool = meets_own subdomain own in
    let s = cell_count m first forest c in
    let k = faces_count m forest c in
    let n0 = face_own subdomain own forest c 0 (no_own 0 (omega arith)) in
    let n1 = face_own subdomain own forest c 1 (no_own 1 (omega arith)) in
    let n2 = face_own subdomain own forest c 2 (no_own 2 (omega arith)) in
    let n3 = face_own subdomain own forest c 3 (no_own 3 (omega arith)) in
    none_any m (all_visits first forest c) (omega (arith, s, k, n0, n1, n2, n3))

no_ghost_run : (subdomain : Subdomains) (flags : Flags) (forest : RefinedMesh) (c : ℕ) → c < length forest.cells → IsOther subdomain flags c → (IsGhost subdomain flags forest c → ⊥) → visits_of subdomain flags forest c ≡ []
no_ghost_run subdomain flags forest c hc other no_ghost =
    outer_run subdomain flags forest c other
    ∙ ap (λ b. if b then ghost_visits flags else []) (cell_own subdomain flags.own flags.cells_after_faces forest c (λ f hf z e hz he own meet.
    no_ghost (record {
      face = f;
      there = (z, e);
      here_is = (hc, hf);
      there_is = (hz, he);
      is_other = other;
      is_own = own;
      part = ((λ s t. clash (is_own_cell subdomain flags.own z) own (sym (ap (is_own_cell subdomain flags.own) s) ∙ other)), meet);
    })))

other_cells : (subdomain : Subdomains) (flags : Flags) (forest : RefinedMesh) → IsGrown forest → OtherCells subdomain flags forest
other_cells subdomain flags forest grown = record {
  parts = λ a b both.
      (out_count subdomain flags forest grown a b both.here both.there both.part both.here_is_own both.there_is_other, outer_count subdomain flags forest b a both.there_is_other);
  ghosts = ghost_run subdomain flags forest grown;
  no_ghosts = no_ghost_run subdomain flags forest;
}

pub exact : (subdomain : Subdomains) (flags : Flags) (forest : RefinedMesh) → IsGrown forest → VisitsAreExact subdomain flags forest
exact subdomain flags forest grown = record {
  own = own_cells subdomain flags forest;
  parts = own_parts subdomain flags forest grown;
  others = other_cells subdomain flags forest grown;
}
