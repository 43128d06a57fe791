-- Lists of visits of which some are kept.
use Rattle.std.proofs.Common.{◌≡◌, ◌∙◌, sym, ap, refl, ℕ, Bool, true, false, cond, ◌&&◌, ◌||◌, zero, suc, ◌<◌, List, [], ◌∷◌, ◌++◌, filter, if◌then◌else◌, arith, append-nil}
use Rattle.std.specs.List.{list_any}
use Rattle.std.specs.Prelude.{Option, None}
use Rattle.std.proofs.lemmas.List.{append_assoc}
use Rattle.std.proofs.lemmas.List.Folds.{list_any-append}
use Rattle.std.proofs.lemmas.List.Elements.{filter-append}
use Rattle.hanging_refine.specs.Refined.{RefinedMesh}
use Rattle.mesh_visits.specs.declared.visit.Visit.{Visit}
use Rattle.mesh_visits.specs.declared.visit.Visit.TheVariants.{Cell as OnCell, Boundary as OnBoundary, Interior as OnPart}
use Rattle.mesh_visits.specs.Visits.{face_visits, faces_visits, all_visits}
use Rattle.mesh_visits.specs.declared.flags.Flags.{Flags}
use Rattle.mesh_visits.specs.Runs.{Subdomains, is_own_cell, goes_inside, goes_out, is_chosen, meets_own, ghost_visits, outer_visits, visits_of}
use Rattle.mesh_visits.proofs.Meets.{and_by}

pub step_filter : {A : Type 0} (p : A → Bool) (x : A) (xs : List A) (b : Bool) → p x ≡ b → filter p (x ∷ xs) ≡ cond b (x ∷ filter p xs) (filter p xs)
step_filter p x xs b e = rw e refl

two_step : {A : Type 0} (p q : A → Bool) (x : A) (xs : List A) (b c : Bool) → p x ≡ b → q x ≡ c → filter q (filter p xs) ≡ filter (λ y. p y && q y) xs →
    filter q (filter p (x ∷ xs)) ≡ filter (λ y. p y && q y) (x ∷ xs)
two_step p q x xs true true e f h =
    ap (filter q) (step_filter p x xs true e) ∙ step_filter q x (filter p xs) true f ∙ ap (λ ys. x ∷ ys) h
    ∙ sym (step_filter (λ y. p y && q y) x xs true (and_by (p x) (q x) e f))
two_step p q x xs true false e f h =
    ap (filter q) (step_filter p x xs true e) ∙ step_filter q x (filter p xs) false f ∙ h
    ∙ sym (step_filter (λ y. p y && q y) x xs false (ap (λ b. b && q x) e ∙ f))
two_step p q x xs false c e f h =
    ap (filter q) (step_filter p x xs false e) ∙ h
    ∙ sym (step_filter (λ y. p y && q y) x xs false (ap (λ b. b && q x) e))

-- what passes two tests, one after the other
pub two_tests : {A : Type 0} (p q : A → Bool) (xs : List A) → filter q (filter p xs) ≡ filter (λ y. p y && q y) xs
two_tests p q [] = refl
two_tests p q (x ∷ xs) = two_step p q x xs (p x) (q x) refl refl (two_tests p q xs)

pub order_kept : (w : Visit → Bool) (own faces : List Visit) (b : Bool) → filter w (if b then faces ++ own else own ++ faces) ≡ (if b then filter w faces ++ filter w own else filter w own ++ filter w faces)
order_kept w own faces true = filter-append w faces own
order_kept w own faces false = filter-append w own faces

-- what is kept of the visits of the four faces
pub faces_kept : (w : Visit → Bool) (forest : RefinedMesh) (c : ℕ) →
    filter w (faces_visits forest c) ≡ filter w (face_visits forest (c, 0)) ++ (filter w (face_visits forest (c, 1)) ++ (filter w (face_visits forest (c, 2)) ++ (filter w (face_visits forest (c, 3)) ++ [])))
unfolding faces_visits
faces_kept w forest c =
    let v : ℕ → List Visit = λ f. face_visits forest (c, f) in
    filter-append w (v 0) (v 1 ++ (v 2 ++ (v 3 ++ [])))
    ∙ ap (λ xs. filter w (v 0) ++ xs) (filter-append w (v 1) (v 2 ++ (v 3 ++ []))
    ∙ ap (λ xs. filter w (v 1) ++ xs) (filter-append w (v 2) (v 3 ++ []) ∙ ap (λ xs. filter w (v 2) ++ xs) (filter-append w (v 3) [])))

pub faces_last : (w : Visit → Bool) (forest : RefinedMesh) (c : ℕ) → filter w (all_visits false forest c) ≡ filter w (OnCell ∷ []) ++ filter w (faces_visits forest c)
unfolding all_visits
faces_last w forest c = order_kept w (OnCell ∷ []) (faces_visits forest c) false

pub faces_first : (w : Visit → Bool) (forest : RefinedMesh) (c : ℕ) → filter w (all_visits true forest c) ≡ filter w (faces_visits forest c) ++ filter w (OnCell ∷ [])
unfolding all_visits
faces_first w forest c = order_kept w (OnCell ∷ []) (faces_visits forest c) true

-- the visits of an own cell, and of another
pub own_run : (subdomain : Subdomains) (flags : Flags) (forest : RefinedMesh) (c : ℕ) → is_own_cell subdomain flags.own c ≡ true →
    visits_of subdomain flags forest c ≡ filter (is_chosen subdomain flags c) (all_visits flags.cells_after_faces forest c)
unfolding visits_of
own_run subdomain flags forest c h = rw h refl

pub outer_run : (subdomain : Subdomains) (flags : Flags) (forest : RefinedMesh) (c : ℕ) → is_own_cell subdomain flags.own c ≡ false →
    visits_of subdomain flags forest c ≡ outer_visits subdomain flags (all_visits flags.cells_after_faces forest c)
unfolding visits_of
outer_run subdomain flags forest c h = rw h refl

-- what is added, a face after another
pub four_added : (w : Visit → Bool) (forest : RefinedMesh) (c : ℕ) (before s0 s1 s2 s3 : List Visit) → s0 ≡ before ++ filter w (face_visits forest (c, 0)) → s1 ≡ s0 ++ filter w (face_visits forest (c, 1)) →
    s2 ≡ s1 ++ filter w (face_visits forest (c, 2)) → s3 ≡ s2 ++ filter w (face_visits forest (c, 3)) → s3 ≡ before ++ filter w (faces_visits forest c)
four_added w forest c before s0 s1 s2 s3 h0 h1 h2 h3 =
    let k : ℕ → List Visit = λ f. filter w (face_visits forest (c, f)) in
    h3 ∙ ap (λ xs. xs ++ k 3) (h2 ∙ ap (λ xs. xs ++ k 2) (h1 ∙ ap (λ xs. xs ++ k 1) h0))
    ∙ four_in_one before (k 0) (k 1) (k 2) (k 3)
    ∙ ap (λ xs. before ++ xs) (sym (faces_kept w forest c))
  where
    four_in_one : (b x y z u : List Visit) → (((b ++ x) ++ y) ++ z) ++ u ≡ b ++ (x ++ (y ++ (z ++ (u ++ []))))
    four_in_one b x y z u = simp (append_assoc, append-nil)

-- the visit of the cell and those of its faces, in either order
pub last_added : (w : Visit → Bool) (forest : RefinedMesh) (c : ℕ) (first : Bool) (before s0 s1 : List Visit) → first ≡ true → s0 ≡ before ++ filter w (faces_visits forest c) → s1 ≡ s0 ++ filter w (OnCell ∷ []) →
    s1 ≡ before ++ filter w (all_visits first forest c)
last_added w forest c first before s0 s1 e h0 h1 =
    h1 ∙ ap (λ xs. xs ++ filter w (OnCell ∷ [])) h0 ∙ append_assoc before (filter w (faces_visits forest c)) (filter w (OnCell ∷ []))
    ∙ ap (λ xs. before ++ xs) (sym (faces_first w forest c)) ∙ ap (λ b. before ++ filter w (all_visits b forest c)) (sym e)

pub first_added : (w : Visit → Bool) (forest : RefinedMesh) (c : ℕ) (first : Bool) (before s0 s1 : List Visit) → first ≡ false → s0 ≡ before ++ filter w (OnCell ∷ []) → s1 ≡ s0 ++ filter w (faces_visits forest c) →
    s1 ≡ before ++ filter w (all_visits first forest c)
first_added w forest c first before s0 s1 e h0 h1 =
    h1 ∙ ap (λ xs. xs ++ filter w (faces_visits forest c)) h0 ∙ append_assoc before (filter w (OnCell ∷ [])) (filter w (faces_visits forest c))
    ∙ ap (λ xs. before ++ xs) (sym (faces_last w forest c)) ∙ ap (λ b. before ++ filter w (all_visits b forest c)) (sym e)

-- a test that some visit of the faces passes
any_faces : (m : Visit → Bool) (forest : RefinedMesh) (c : ℕ) → list_any m (faces_visits forest c) ≡
    (list_any m (face_visits forest (c, 0)) || (list_any m (face_visits forest (c, 1)) || (list_any m (face_visits forest (c, 2)) || (list_any m (face_visits forest (c, 3)) || false))))
unfolding faces_visits
any_faces m forest c =
    let v : ℕ → List Visit = λ f. face_visits forest (c, f) in
    list_any-append m (v 0) (v 1 ++ (v 2 ++ (v 3 ++ [])))
    ∙ ap (λ b. list_any m (v 0) || b) (list_any-append m (v 1) (v 2 ++ (v 3 ++ []))
    ∙ ap (λ b. list_any m (v 1) || b) (list_any-append m (v 2) (v 3 ++ []) ∙ ap (λ b. list_any m (v 2) || b) (list_any-append m (v 3) [])))

or_false : (a b c d : Bool) → a ≡ false → b ≡ false → c ≡ false → d ≡ false → (a || (b || (c || (d || false)))) ≡ false
or_false a b c d h0 h1 h2 h3 = rw (h0, h1, h2, h3) refl

pub no_face : (m : Visit → Bool) (forest : RefinedMesh) (c : ℕ) → ((f : ℕ) → f < 4 → list_any m (face_visits forest (c, f)) ≡ false) → list_any m (faces_visits forest c) ≡ false
no_face m forest c h =
    any_faces m forest c
    ∙ or_false (list_any m (face_visits forest (c, 0))) (list_any m (face_visits forest (c, 1))) (list_any m (face_visits forest (c, 2))) (list_any m (face_visits forest (c, 3)))
    (h 0 (omega arith)) (h 1 (omega arith)) (h 2 (omega arith)) (h 3 (omega arith))

or_first : (a b : Bool) → a ≡ true → (a || b) ≡ true
or_first a b h = rw h refl

or_second : (a b : Bool) → b ≡ true → (a || b) ≡ true
or_second true b h = refl
or_second false b h = h

pub some_face : (m : Visit → Bool) (forest : RefinedMesh) (c f : ℕ) → f < 4 → list_any m (face_visits forest (c, f)) ≡ true → list_any m (faces_visits forest c) ≡ true
some_face m forest c f h t =
    let b : ℕ → Bool = λ k. list_any m (face_visits forest (c, k)) in any_faces m forest c ∙ or_at (b 0) (b 1) (b 2) (b 3) b refl refl refl refl f h t
  where
    or_at : (x y z u : Bool) (b : ℕ → Bool) → b 0 ≡ x → b 1 ≡ y → b 2 ≡ z → b 3 ≡ u → (k : ℕ) → k < 4 → b k ≡ true → (x || (y || (z || (u || false)))) ≡ true
    or_at x y z u b e0 e1 e2 e3 zero h t = or_first x (y || (z || (u || false))) (sym e0 ∙ t)
    or_at x y z u b e0 e1 e2 e3 (suc zero) h t = or_second x (y || (z || (u || false))) (or_first y (z || (u || false)) (sym e1 ∙ t))
    or_at x y z u b e0 e1 e2 e3 (suc (suc zero)) h t = or_second x (y || (z || (u || false))) (or_second y (z || (u || false)) (or_first z (u || false) (sym e2 ∙ t)))
    or_at x y z u b e0 e1 e2 e3 (suc (suc (suc zero))) h t = or_second x (y || (z || (u || false))) (or_second y (z || (u || false)) (or_second z (u || false) (or_first u false (sym e3 ∙ t))))
    or_at x y z u b e0 e1 e2 e3 (suc (suc (suc (suc k)))) h t = absurd (omega (arith, h))

or_nothing : (b : Bool) → (b || (false || false)) ≡ b
or_nothing true = refl
or_nothing false = refl

-- the cell's own visit leads to no other cell
pub any_all : (subdomain : Subdomains) (own : Option ℕ) (first : Bool) (forest : RefinedMesh) (c : ℕ) → list_any (meets_own subdomain own) (all_visits first forest c) ≡ list_any (meets_own subdomain own) (faces_visits forest c)
unfolding all_visits
any_all subdomain own true forest c = list_any-append (meets_own subdomain own) (faces_visits forest c) (OnCell ∷ []) ∙ or_nothing (list_any (meets_own subdomain own) (faces_visits forest c))
any_all subdomain own false forest c = refl

-- what is added for a cell that isn't own
outer_by : (subdomain : Subdomains) (flags : Flags) (forest : RefinedMesh) (c : ℕ) (met wanted : Bool) → list_any (meets_own subdomain flags.own) (faces_visits forest c) ≡ met → flags.ghost_cells ≡ wanted →
    outer_visits subdomain flags (all_visits flags.cells_after_faces forest c) ≡ (if met then (if wanted then OnCell ∷ [] else []) else [])
outer_by subdomain flags forest c met wanted e f =
    ap (λ b. if b then ghost_visits flags else []) (any_all subdomain flags.own flags.cells_after_faces forest c ∙ e)
    ∙ ap (λ b. if met then (if b then OnCell ∷ [] else []) else []) f

pub ghost_added : (subdomain : Subdomains) (flags : Flags) (forest : RefinedMesh) (c : ℕ) → list_any (meets_own subdomain flags.own) (faces_visits forest c) ≡ true → flags.ghost_cells ≡ true →
    outer_visits subdomain flags (all_visits flags.cells_after_faces forest c) ≡ OnCell ∷ []
ghost_added subdomain flags forest c e f = outer_by subdomain flags forest c true true e f

pub no_ghost_added : (subdomain : Subdomains) (flags : Flags) (forest : RefinedMesh) (c : ℕ) → list_any (meets_own subdomain flags.own) (faces_visits forest c) ≡ false →
    outer_visits subdomain flags (all_visits flags.cells_after_faces forest c) ≡ []
no_ghost_added subdomain flags forest c e = outer_by subdomain flags forest c false flags.ghost_cells e refl

nothing_either : (b : Bool) → ◌≡◌ {A = List Visit} (if b then (if false then OnCell ∷ [] else []) else []) []
nothing_either true = refl
nothing_either false = refl

pub unwanted_added : (subdomain : Subdomains) (flags : Flags) (forest : RefinedMesh) (c : ℕ) → flags.ghost_cells ≡ false → outer_visits subdomain flags (all_visits flags.cells_after_faces forest c) ≡ []
unwanted_added subdomain flags forest c f =
    let met : Bool = list_any (meets_own subdomain flags.own) (faces_visits forest c) in outer_by subdomain flags forest c met false refl f ∙ nothing_either met

same_step : (w w' : Visit → Bool) (v : Visit) (vs : List Visit) (b : Bool) → w v ≡ b → w' v ≡ b → filter w vs ≡ filter w' vs → filter w (v ∷ vs) ≡ filter w' (v ∷ vs)
same_step w w' v vs true e f h = step_filter w v vs true e ∙ ap (λ xs. v ∷ xs) h ∙ sym (step_filter w' v vs true f)
same_step w w' v vs false e f h = step_filter w v vs false e ∙ h ∙ sym (step_filter w' v vs false f)

filter_same : (w w' : Visit → Bool) (vs : List Visit) → ((v : Visit) → w v ≡ w' v) → filter w vs ≡ filter w' vs
filter_same w w' [] h = refl
filter_same w w' (v ∷ vs) h = same_step w w' v vs (w' v) (h v) refl (filter_same w w' vs h)

unnamed_choice : (s t : Subdomains) (flags : Flags) (c : ℕ) → flags.own ≡ None → (v : Visit) → is_chosen s flags c v ≡ is_chosen t flags c v
unnamed_choice s t flags c e OnCell = refl
unnamed_choice s t flags c e (OnBoundary face id) = refl
unnamed_choice s t flags c e (OnPart face other other_face here there) =
    inside s e ∙ sym (inside t e)
  where
    inside : (u : Subdomains) → flags.own ≡ None → is_chosen u flags c (OnPart face other other_face here there) ≡ goes_inside flags.interior c other here there
    inside u h =
        ap (λ b. if b then goes_inside flags.interior c other here there else goes_out flags.ghost_parts flags.own (u other)) (ap (λ own. is_own_cell u own other) h)

-- where no subdomain is named, the subdomains of the cells don't matter
pub unnamed_run : (s t : Subdomains) (flags : Flags) (forest : RefinedMesh) (c : ℕ) → flags.own ≡ None → visits_of s flags forest c ≡ visits_of t flags forest c
unnamed_run s t flags forest c e =
    own_run s flags forest c (ap (λ own. is_own_cell s own c) e)
    ∙ filter_same (is_chosen s flags c) (is_chosen t flags c) (all_visits flags.cells_after_faces forest c) (unnamed_choice s t flags c e)
    ∙ sym (own_run t flags forest c (ap (λ own. is_own_cell t own c) e))
