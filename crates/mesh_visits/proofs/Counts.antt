-- How many of the visits of a cell pass a test.
use Rattle.std.proofs.Common.{◌≡◌, ◌∙◌, sym, ap, refl, ℕ, zero, suc, ◌+◌, ◌<◌, Bool, true, false, ◌==◌, ◌&&◌, List, [], ◌∷◌, ◌++◌, length, map, filter, if◌then◌else◌, arith, length-append, eq-eqb}
use Rattle.std.proofs.lemmas.List.Elements.{filter-append}
use Rattle.fixed_q1.specs.declared.places.Part.{Part}
use Rattle.fixed_q1.specs.declared.places.Part.TheVariants.{Whole, Half0, Half1}
use Rattle.corner_names.proofs.Distinct.{eq_true}
use Rattle.corner_names.proofs.Active.{not_true, clash}
use Rattle.hanging_refine.specs.Refined.{RefinedMesh}
use Rattle.mesh_visits.specs.declared.visit.Visit.{Visit}
use Rattle.mesh_visits.specs.declared.visit.Visit.TheVariants.{Cell as OnCell, Boundary as OnBoundary, Interior as OnPart}
use Rattle.mesh_visits.specs.Meeting.{Face, is_face, is_equal, is_half, is_outer, all_faces}
use Rattle.mesh_visits.specs.Visits.{all_visits, faces_visits, face_visits, boundary_visits, interior_visits, part_visit, part_visits, id_of}
use Rattle.mesh_visits.specs.Laws.{goes_to, is_itself, is_outside}
use Rattle.mesh_visits.proofs.Meets.{and_true, and_by, face_true}
use Rattle.mesh_visits.proofs.BySide.{one, none}
use Rattle.mesh_visits.proofs.Choosing.{step_filter, two_tests}

abbrev pub counted : (Visit → Bool) → List Visit → ℕ
counted test visits = length (filter test visits)

pub counted-append : (test : Visit → Bool) (xs ys : List Visit) → counted test (xs ++ ys) ≡ counted test xs + counted test ys
counted-append test xs ys = ap length (filter-append test xs ys) ∙ length-append (filter test xs) (filter test ys)

-- tests of visits on the faces that they go to
map_step : (test : Visit → Bool) (g : Face → Visit) (x : Face) (xs : List Face) (b : Bool) → test (g x) ≡ b → counted test (map g xs) ≡ length (filter (λ y. test (g y)) xs) →
    counted test (map g (x ∷ xs)) ≡ length (filter (λ y. test (g y)) (x ∷ xs))
map_step test g x xs true e h = ap length (step_filter test (g x) (map g xs) true e) ∙ ap suc h ∙ sym (ap length (step_filter (λ y. test (g y)) x xs true e))
map_step test g x xs false e h = ap length (step_filter test (g x) (map g xs) false e) ∙ h ∙ sym (ap length (step_filter (λ y. test (g y)) x xs false e))

pub counted_map : (test : Visit → Bool) (g : Face → Visit) (xs : List Face) → counted test (map g xs) ≡ length (filter (λ y. test (g y)) xs)
counted_map test g [] = refl
counted_map test g (x ∷ xs) = map_step test g x xs (test (g x)) refl (counted_map test g xs)

abbrev pub ind : Bool → ℕ
ind b = if b then 1 else 0

-- a filter that lets only one face pass, if at all
only_there : (forest : RefinedMesh) (p : Face → Bool) (c e : ℕ) → c < length forest.cells → e < 4 → (b : Bool) → p (c, e) ≡ b →
    ((z d : ℕ) → p (z, d) ≡ true → (z ≡ c) × (d ≡ e)) → length (filter p (all_faces forest)) ≡ ind b
only_there forest p c e hc he true h only = ap length (one forest p c e hc he h (λ z d hz hd t. only z d t))
only_there forest p c e hc he false h only =
    ap length (none forest p (λ z d hz hd t.
    let w = only z d t in
    let u : p (z, d) ≡ p (c, e) = ap (λ x. p (x, d)) w.0 ∙ ap (λ y. p (c, y)) w.1 in clash (p (z, d)) t (u ∙ h)))

pub equal_itself : (n : ℕ) → (n == n) ≡ true
equal_itself n = eq-eqb n n refl

-- a visit that is kept and goes from one face to another
abbrev pub kept_to : (Visit → Bool) → Face → Face → Visit → Bool
kept_to w a b v = w v && goes_to a b v

and_itself : (f j g : ℕ) (b k : Bool) → (b && (k && ((f == f) && ((j == j) && (g == g))))) ≡ (k && b)
and_itself f j g true true = and_by (f == f) ((j == j) && (g == g)) (equal_itself f) (and_by (j == j) (g == g) (equal_itself j) (equal_itself g))
and_itself f j g true false = refl
and_itself f j g false true = refl
and_itself f j g false false = refl

goes : (w : Visit → Bool) (a b : Face) (v : Visit) → kept_to w a b v ≡ true → goes_to a b v ≡ true
goes w a b v h = (and_true (w v) (goes_to a b v) h).1

-- the visits of one kind of a face that go to another face
kind_count : (w : Visit → Bool) (forest : RefinedMesh) (c f j g : ℕ) (mine theirs : Part) (p : Face → Bool) → j < length forest.cells → g < 4 →
    counted (kept_to w (c, f) (j, g)) (part_visits forest (c, f) mine theirs p) ≡ ind (w (part_visit f mine theirs (j, g)) && p (j, g))
kind_count w forest c f j g mine theirs p hj hg =
    let there : Face → Bool = λ y. kept_to w (c, f) (j, g) (part_visit f mine theirs y) in
    counted_map (kept_to w (c, f) (j, g)) (part_visit f mine theirs) (filter p (all_faces forest))
    ∙ ap length (two_tests p there (all_faces forest))
    ∙ only_there forest (λ y. p y && there y) j g hj hg (w (part_visit f mine theirs (j, g)) && p (j, g)) (and_itself f j g (p (j, g)) (w (part_visit f mine theirs (j, g))))
    (λ z d t. face_true (z, d) (j, g) (and_true (f == f) (is_face (z, d) (j, g)) (goes w (c, f) (j, g) (part_visit f mine theirs (z, d)) (and_true (p (z, d)) (there (z, d)) t).1)).1)

-- those of another face of the same cell
other_kind : (w : Visit → Bool) (forest : RefinedMesh) (c f h j g : ℕ) (mine theirs : Part) (p : Face → Bool) → (h ≡ f → ⊥) →
    counted (kept_to w (c, f) (j, g)) (part_visits forest (c, h) mine theirs p) ≡ 0
other_kind w forest c f h j g mine theirs p apart =
    let there : Face → Bool = λ y. kept_to w (c, f) (j, g) (part_visit h mine theirs y) in
    counted_map (kept_to w (c, f) (j, g)) (part_visit h mine theirs) (filter p (all_faces forest))
    ∙ ap length (two_tests p there (all_faces forest))
    ∙ ap length (none forest (λ y. p y && there y) (λ z d hz hd t.
    apart (eq_true h f (and_true (h == f) (is_face (z, d) (j, g)) (goes w (c, f) (j, g) (part_visit h mine theirs (z, d)) (and_true (p (z, d)) (there (z, d)) t).1)).0)))

-- the visits of a face by what its five tests say of another face, and which of the five kinds are kept
abbrev pub five : Bool → Bool → Bool → Bool → Bool → ℕ
five equal up0 up1 down0 down1 = (ind equal + (ind up0 + ind up1)) + (ind down0 + ind down1)

abbrev pub told_by : (Visit → Bool) → RefinedMesh → Face → Face → ℕ
told_by w forest a b =
    five (w (part_visit a.1 Whole Whole b) && is_equal forest a b) (w (part_visit a.1 Whole Half0 b) && is_half forest 0 a b) (w (part_visit a.1 Whole Half1 b) && is_half forest 1 a b)
    (w (part_visit a.1 Half0 Whole b) && is_half forest 0 b a) (w (part_visit a.1 Half1 Whole b) && is_half forest 1 b a)

none_of_one : (test : Visit → Bool) (v : Visit) → test v ≡ false → counted test (v ∷ []) ≡ 0
none_of_one test v h = ap length (step_filter test v [] false h)

none_if : (test : Visit → Bool) (v : Visit) (b : Bool) → test v ≡ false → counted test (if b then v ∷ [] else []) ≡ 0
none_if test v true h = none_of_one test v h
none_if test v false h = refl

pub and_false : (b : Bool) → (b && false) ≡ false
and_false true = refl
and_false false = refl

interior_count : (w : Visit → Bool) (forest : RefinedMesh) (c f j g : ℕ) → j < length forest.cells → g < 4 →
    counted (kept_to w (c, f) (j, g)) (interior_visits forest (c, f)) ≡ told_by w forest (c, f) (j, g)
interior_count w forest c f j g hj hg =
    let t : Visit → Bool = kept_to w (c, f) (j, g) in
    let equals : List Visit = part_visits forest (c, f) Whole Whole (is_equal forest (c, f)) in
    let up0 : List Visit = part_visits forest (c, f) Whole Half0 (is_half forest 0 (c, f)) in
    let up1 : List Visit = part_visits forest (c, f) Whole Half1 (is_half forest 1 (c, f)) in
    let down0 : List Visit = part_visits forest (c, f) Half0 Whole (λ y. is_half forest 0 y (c, f)) in
    let down1 : List Visit = part_visits forest (c, f) Half1 Whole (λ y. is_half forest 1 y (c, f)) in
    let k0 = kind_count w forest c f j g Whole Whole (is_equal forest (c, f)) hj hg in
    let k1 = kind_count w forest c f j g Whole Half0 (is_half forest 0 (c, f)) hj hg in
    let k2 = kind_count w forest c f j g Whole Half1 (is_half forest 1 (c, f)) hj hg in
    let k3 = kind_count w forest c f j g Half0 Whole (λ y. is_half forest 0 y (c, f)) hj hg in
    let k4 = kind_count w forest c f j g Half1 Whole (λ y. is_half forest 1 y (c, f)) hj hg in
    let s0 = counted-append t (equals ++ (up0 ++ up1)) (down0 ++ down1) in
    let s1 = counted-append t equals (up0 ++ up1) in
    let s2 = counted-append t up0 up1 in
    let s3 = counted-append t down0 down1 in
    omega (arith, k0, k1, k2, k3, k4, s0, s1, s2, s3)

interior_none : (w : Visit → Bool) (forest : RefinedMesh) (c f h j g : ℕ) → (h ≡ f → ⊥) → counted (kept_to w (c, f) (j, g)) (interior_visits forest (c, h)) ≡ 0
interior_none w forest c f h j g apart =
    let t : Visit → Bool = kept_to w (c, f) (j, g) in
    let equals : List Visit = part_visits forest (c, h) Whole Whole (is_equal forest (c, h)) in
    let up0 : List Visit = part_visits forest (c, h) Whole Half0 (is_half forest 0 (c, h)) in
    let up1 : List Visit = part_visits forest (c, h) Whole Half1 (is_half forest 1 (c, h)) in
    let down0 : List Visit = part_visits forest (c, h) Half0 Whole (λ y. is_half forest 0 y (c, h)) in
    let down1 : List Visit = part_visits forest (c, h) Half1 Whole (λ y. is_half forest 1 y (c, h)) in
    let k0 = other_kind w forest c f h j g Whole Whole (is_equal forest (c, h)) apart in
    let k1 = other_kind w forest c f h j g Whole Half0 (is_half forest 0 (c, h)) apart in
    let k2 = other_kind w forest c f h j g Whole Half1 (is_half forest 1 (c, h)) apart in
    let k3 = other_kind w forest c f h j g Half0 Whole (λ y. is_half forest 0 y (c, h)) apart in
    let k4 = other_kind w forest c f h j g Half1 Whole (λ y. is_half forest 1 y (c, h)) apart in
    let s0 = counted-append t (equals ++ (up0 ++ up1)) (down0 ++ down1) in
    let s1 = counted-append t equals (up0 ++ up1) in
    let s2 = counted-append t up0 up1 in
    let s3 = counted-append t down0 down1 in
    omega (arith, k0, k1, k2, k3, k4, s0, s1, s2, s3)

here_count : (w : Visit → Bool) (forest : RefinedMesh) (c f j g : ℕ) → j < length forest.cells → g < 4 → counted (kept_to w (c, f) (j, g)) (face_visits forest (c, f)) ≡ told_by w forest (c, f) (j, g)
unfolding face_visits
here_count w forest c f j g hj hg =
    let v : Visit = OnBoundary f (id_of forest (c, f)) in
    let s = counted-append (kept_to w (c, f) (j, g)) (boundary_visits forest (c, f)) (interior_visits forest (c, f)) in
    let b = none_if (kept_to w (c, f) (j, g)) v (is_outer forest (c, f)) (and_false (w v)) in
    let i = interior_count w forest c f j g hj hg in omega (arith, s, b, i)

elsewhere : (w : Visit → Bool) (forest : RefinedMesh) (c f h j g : ℕ) → (h ≡ f → ⊥) → counted (kept_to w (c, f) (j, g)) (face_visits forest (c, h)) ≡ 0
unfolding face_visits
elsewhere w forest c f h j g apart =
    let v : Visit = OnBoundary h (id_of forest (c, h)) in
    let s = counted-append (kept_to w (c, f) (j, g)) (boundary_visits forest (c, h)) (interior_visits forest (c, h)) in
    let b = none_if (kept_to w (c, f) (j, g)) v (is_outer forest (c, h)) (and_false (w v)) in
    let i = interior_none w forest c f h j g apart in omega (arith, s, b, i)

-- a test on the visits of all faces of a cell
pub faces_count : (test : Visit → Bool) (forest : RefinedMesh) (c : ℕ) →
    counted test (faces_visits forest c) ≡ counted test (face_visits forest (c, 0)) + (counted test (face_visits forest (c, 1)) + (counted test (face_visits forest (c, 2)) + counted test (face_visits forest (c, 3))))
unfolding faces_visits
faces_count test forest c =
    let v : ℕ → List Visit = λ face. face_visits forest (c, face) in
    let s0 = counted-append test (v 0) (v 1 ++ (v 2 ++ (v 3 ++ []))) in
    let s1 = counted-append test (v 1) (v 2 ++ (v 3 ++ [])) in
    let s2 = counted-append test (v 2) (v 3 ++ []) in
    let s3 = counted-append test (v 3) [] in
    omega (arith, s0, s1, s2, s3)

-- and of the cell: its own and those of its faces
pub cell_count : (test : Visit → Bool) (first : Bool) (forest : RefinedMesh) (c : ℕ) → counted test (all_visits first forest c) ≡ counted test (OnCell ∷ []) + counted test (faces_visits forest c)
unfolding all_visits
cell_count test true forest c = let s = counted-append test (faces_visits forest c) (OnCell ∷ []) in omega (arith, s)
cell_count test false forest c = counted-append test (OnCell ∷ []) (faces_visits forest c)

-- one of four numbers counts
pub at_face : (c f : ℕ) (n : ℕ → ℕ) (t : ℕ) → f < 4 → n f ≡ t → ((h : ℕ) → (h ≡ f → ⊥) → n h ≡ 0) → n 0 + (n 1 + (n 2 + n 3)) ≡ t
at_face c zero n t h e none = let a = none 1 (λ q. omega (arith, q)) in let b = none 2 (λ q. omega (arith, q)) in let d = none 3 (λ q. omega (arith, q)) in omega (arith, a, b, d, e)
at_face c (suc zero) n t h e none = let a = none 0 (λ q. omega (arith, q)) in let b = none 2 (λ q. omega (arith, q)) in let d = none 3 (λ q. omega (arith, q)) in omega (arith, a, b, d, e)
at_face c (suc (suc zero)) n t h e none = let a = none 0 (λ q. omega (arith, q)) in let b = none 1 (λ q. omega (arith, q)) in let d = none 3 (λ q. omega (arith, q)) in omega (arith, a, b, d, e)
at_face c (suc (suc (suc zero))) n t h e none = let a = none 0 (λ q. omega (arith, q)) in let b = none 1 (λ q. omega (arith, q)) in let d = none 2 (λ q. omega (arith, q)) in omega (arith, a, b, d, e)
at_face c (suc (suc (suc (suc f)))) n t h e none = absurd (omega (arith, h))

-- the visits of a cell that are kept and go from one of its faces to another face
pub count_is : (w : Visit → Bool) (first : Bool) (forest : RefinedMesh) (c f j g : ℕ) → f < 4 → j < length forest.cells → g < 4 →
    counted (goes_to (c, f) (j, g)) (filter w (all_visits first forest c)) ≡ told_by w forest (c, f) (j, g)
count_is w first forest c f j g hf hj hg =
    let t : Visit → Bool = kept_to w (c, f) (j, g) in
    let n : ℕ → ℕ = λ h. counted t (face_visits forest (c, h)) in
    let s = cell_count t first forest c in
    let o = none_of_one t OnCell (and_false (w OnCell)) in
    let k = faces_count t forest c in
    let p = at_face c f n (told_by w forest (c, f) (j, g)) hf (here_count w forest c f j g hj hg) (λ h apart. elsewhere w forest c f h j g apart) in
    ap length (two_tests w (goes_to (c, f) (j, g)) (all_visits first forest c)) ∙ omega (arith, s, o, k, p)

-- no visit of a part passes a test
parts_none : (test : Visit → Bool) (forest : RefinedMesh) (here : Face) (mine theirs : Part) (p : Face → Bool) → ((y : Face) → test (part_visit here.1 mine theirs y) ≡ false) → counted test (part_visits forest here mine theirs p) ≡ 0
parts_none test forest here mine theirs p h =
    counted_map test (part_visit here.1 mine theirs) (filter p (all_faces forest))
    ∙ ap length (none_there (λ y. test (part_visit here.1 mine theirs y)) (filter p (all_faces forest)) h)
  where
    none_there : (q : Face → Bool) (ys : List Face) → ((y : Face) → q y ≡ false) → filter q ys ≡ []
    none_there q [] h = refl
    none_there q (y ∷ ys) h = step_filter q y ys false (h y) ∙ none_there q ys h

-- a test that no visit of a part passes: only the boundary's counts
pub outside_parts : (test : Visit → Bool) (forest : RefinedMesh) (c f : ℕ) → ((other other_face : ℕ) (mine theirs : Part) → test (OnPart f other other_face mine theirs) ≡ false) →
    counted test (face_visits forest (c, f)) ≡ counted test (boundary_visits forest (c, f))
unfolding face_visits
outside_parts test forest c f h =
    let k : (mine theirs : Part) (p : Face → Bool) → counted test (part_visits forest (c, f) mine theirs p) ≡ 0 =
    λ mine theirs p. parts_none test forest (c, f) mine theirs p (λ y. h y.0 y.1 mine theirs) in
    let equals : List Visit = part_visits forest (c, f) Whole Whole (is_equal forest (c, f)) in
    let up0 : List Visit = part_visits forest (c, f) Whole Half0 (is_half forest 0 (c, f)) in
    let up1 : List Visit = part_visits forest (c, f) Whole Half1 (is_half forest 1 (c, f)) in
    let down0 : List Visit = part_visits forest (c, f) Half0 Whole (λ y. is_half forest 0 y (c, f)) in
    let down1 : List Visit = part_visits forest (c, f) Half1 Whole (λ y. is_half forest 1 y (c, f)) in
    let k0 = k Whole Whole (is_equal forest (c, f)) in let k1 = k Whole Half0 (is_half forest 0 (c, f)) in let k2 = k Whole Half1 (is_half forest 1 (c, f)) in
    let k3 = k Half0 Whole (λ y. is_half forest 0 y (c, f)) in let k4 = k Half1 Whole (λ y. is_half forest 1 y (c, f)) in
    let s = counted-append test (boundary_visits forest (c, f)) (interior_visits forest (c, f)) in
    let s0 = counted-append test (equals ++ (up0 ++ up1)) (down0 ++ down1) in
    let s1 = counted-append test equals (up0 ++ up1) in
    let s2 = counted-append test up0 up1 in
    let s3 = counted-append test down0 down1 in
    omega (arith, k0, k1, k2, k3, k4, s, s0, s1, s2, s3)

one_if : (test : Visit → Bool) (v : Visit) (b : Bool) → test v ≡ true → counted test (if b then v ∷ [] else []) ≡ ind b
one_if test v true h = ap length (step_filter test v [] true h)
one_if test v false h = refl

-- one visit of the cell itself
pub itself_count : (first : Bool) (forest : RefinedMesh) (c : ℕ) → counted is_itself (all_visits first forest c) ≡ 1
itself_count first forest c =
    let none : (f : ℕ) → counted is_itself (face_visits forest (c, f)) ≡ 0 =
    λ f. outside_parts is_itself forest c f (λ j g mine theirs. refl) ∙ none_if is_itself (OnBoundary f (id_of forest (c, f))) (is_outer forest (c, f)) refl in
    let s = cell_count is_itself first forest c in let k = faces_count is_itself forest c in
    let n0 = none 0 in let n1 = none 1 in let n2 = none 2 in let n3 = none 3 in
    omega (arith, s, k, n0, n1, n2, n3)

other_number : (h f : ℕ) → (h ≡ f → ⊥) → (h == f) ≡ false
other_number h f apart = not_true (h == f) (λ t. apart (eq_true h f t))

-- one visit of a face at the boundary, if it is there
pub outside_count : (first : Bool) (forest : RefinedMesh) (c f : ℕ) → f < 4 → counted (is_outside f) (all_visits first forest c) ≡ ind (is_outer forest (c, f))
outside_count first forest c f hf =
    let t : Visit → Bool = is_outside f in
    let n : ℕ → ℕ = λ h. counted t (face_visits forest (c, h)) in
    let alone : (h : ℕ) → n h ≡ counted t (boundary_visits forest (c, h)) = λ h. outside_parts t forest c h (λ j g mine theirs. refl) in
    let here : n f ≡ ind (is_outer forest (c, f)) = alone f ∙ one_if t (OnBoundary f (id_of forest (c, f))) (is_outer forest (c, f)) (equal_itself f) in
    let p = at_face c f n (ind (is_outer forest (c, f))) hf here (λ h apart. alone h ∙ none_if t (OnBoundary h (id_of forest (c, h))) (is_outer forest (c, h)) (other_number h f apart)) in
    let s = cell_count t first forest c in let k = faces_count t forest c in
    omega (arith, s, k, p)
