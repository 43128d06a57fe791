-- The runs of all subdomains add what the run over all cells adds.
use Rattle.std.proofs.Common.{◌≡◌, ◌∙◌, sym, ap, refl, subst, ℕ, zero, suc, ◌+◌, ◌<◌, ⊎_elim, Bool, true, false, ◌==◌, nat_lt, List, [], ◌∷◌, ◌++◌, length, map, filter, if◌then◌else◌, arith, eq-eqb}
use Rattle.std.specs.Prelude.{Some}
use Rattle.std.specs.List.{flat_map, range_with_len, list_any}
use Rattle.fixed_q1.specs.declared.places.Part.{Part}
use Rattle.fixed_q1.specs.declared.places.Part.TheVariants.{Whole, Half0, Half1}
use Rattle.corner_names.proofs.Distinct.{eq_true}
use Rattle.corner_names.proofs.Across.{nat_decides}
use Rattle.corner_names.proofs.Active.{not_true}
use Rattle.hanging_refine.specs.Refined.{RefinedMesh}
use Rattle.hanging_refine.specs.Grown.{IsGrown}
use Rattle.mesh_visits.specs.declared.flags.Flags.{Flags}
use Rattle.mesh_visits.specs.declared.flags.Interior.{Interior}
use Rattle.mesh_visits.specs.declared.flags.Interior.TheVariants.{Once}
use Rattle.mesh_visits.specs.declared.visit.Visit.{Visit}
use Rattle.mesh_visits.specs.declared.visit.Visit.TheVariants.{Cell as OnCell, Boundary as OnBoundary}
use Rattle.mesh_visits.specs.Meeting.{Face, is_equal, is_half, is_outer, faces_of_cell, all_faces}
use Rattle.mesh_visits.specs.Visits.{all_visits, face_visits, faces_visits, boundary_visits, interior_visits, part_visit, part_visits, id_of}
use Rattle.mesh_visits.specs.SideVisits.{half_part}
use Rattle.mesh_visits.specs.Sharing.{IsFaceOf}
use Rattle.mesh_visits.specs.Runs.{Subdomains, goes_inside, goes_out, goes_to_cell, is_chosen, meets_own, outer_visits, visits_of}
use Rattle.mesh_visits.specs.OverRuns.{for_subdomain, for_all, total, Weights, weigh, sum_over, IsTwoSided, SumsAddUp}
use Rattle.mesh_visits.proofs.Meets.{equal_true, half_true}
use Rattle.mesh_visits.proofs.Choosing.{step_filter, own_run, outer_run}
use Rattle.mesh_visits.proofs.Counts.{ind}
use Rattle.mesh_visits.proofs.Exact.{one_below, same_turned, apart}
use Rattle.mesh_visits.proofs.OverRuns.{total_one}

-- sums of weights
weigh-append : (x : Visit → ℕ) (us vs : List Visit) → weigh x (us ++ vs) ≡ weigh x us + weigh x vs
weigh-append x [] vs = omega arith
weigh-append x (u ∷ us) vs = let r = weigh-append x us vs in omega (arith, r)

abbrev chosen_weight : (Visit → ℕ) → (Visit → Bool) → Visit → ℕ
chosen_weight x p v = if p v then x v else 0

weigh_step : (x : Visit → ℕ) (p : Visit → Bool) (v : Visit) (vs : List Visit) (b : Bool) → p v ≡ b → weigh x (filter p (v ∷ vs)) ≡ (if b then x v else 0) + weigh x (filter p vs)
weigh_step x p v vs true e = ap (weigh x) (step_filter p v vs true e)
weigh_step x p v vs false e = let k = ap (weigh x) (step_filter p v vs false e) in omega (arith, k)

weigh_filter : (x : Visit → ℕ) (p : Visit → Bool) (vs : List Visit) → weigh x (filter p vs) ≡ weigh (chosen_weight x p) vs
weigh_filter x p [] = refl
weigh_filter x p (v ∷ vs) = weigh_step x p v vs (p v) refl ∙ ap (λ n. (if p v then x v else 0) + n) (weigh_filter x p vs)

-- sums over faces
abbrev over : (Face → ℕ) → List Face → ℕ
over f [] = 0
over f (y ∷ ys) = f y + over f ys

over-append : (f : Face → ℕ) (xs ys : List Face) → over f (xs ++ ys) ≡ over f xs + over f ys
over-append f [] ys = omega arith
over-append f (x ∷ xs) ys = let r = over-append f xs ys in omega (arith, r)

over_plus : (f g : Face → ℕ) (ys : List Face) → over (λ y. f y + g y) ys ≡ over f ys + over g ys
over_plus f g [] = refl
over_plus f g (y ∷ ys) = let r = over_plus f g ys in omega (arith, r)

over_zero : (ys : List Face) → over (λ y. 0) ys ≡ 0
over_zero [] = refl
over_zero (y ∷ ys) = let r = over_zero ys in omega (arith, r)

-- the order of two sums doesn't matter
swap : (t : Face → Face → ℕ) (xs ys : List Face) → over (λ a. over (t a) ys) xs ≡ over (λ b. over (λ a. t a b) xs) ys
swap t [] ys = sym (over_zero ys)
swap t (x ∷ xs) ys = ap (λ n. over (t x) ys + n) (swap t xs ys) ∙ sym (over_plus (t x) (λ b. over (λ a. t a b) xs) ys)

total_plus : (f g : ℕ → ℕ) (cs : List ℕ) → total (λ c. f c + g c) cs ≡ total f cs + total g cs
total_plus f g [] = refl
total_plus f g (c ∷ cs) = let r = total_plus f g cs in omega (arith, r)

total_zero : (cs : List ℕ) → total (λ c. 0) cs ≡ 0
total_zero [] = refl
total_zero (c ∷ cs) = let r = total_zero cs in omega (arith, r)

total_swap : (t : ℕ → ℕ → ℕ) (xs ys : List ℕ) → total (λ a. total (t a) ys) xs ≡ total (λ b. total (λ a. t a b) xs) ys
total_swap t [] ys = sym (total_zero ys)
total_swap t (x ∷ xs) ys = ap (λ n. total (t x) ys + n) (total_swap t xs ys) ∙ sym (total_plus (t x) (λ b. total (λ a. t a b) xs) ys)

total_range : (f g : ℕ → ℕ) (a n : ℕ) → ((c : ℕ) → c < a + n → f c ≡ g c) → total f (range_with_len a n) ≡ total g (range_with_len a n)
total_range f g a zero h = refl
total_range f g a (suc n) h =
    let here = h a (omega arith) in let r = total_range f g (a + 1) n (λ c k. h c (omega (arith, k))) in omega (arith, here, r)

-- the four faces of a cell
abbrev four : (Face → ℕ) → ℕ → ℕ
four h c = h (c, 0) + (h (c, 1) + (h (c, 2) + h (c, 3)))

four_over : (h : Face → ℕ) (cs : List ℕ) → total (four h) cs ≡ over h (flat_map faces_of_cell cs)
four_over h [] = refl
four_over h (c ∷ cs) = let r = four_over h cs in let s = over-append h (faces_of_cell c) (flat_map faces_of_cell cs) in omega (arith, r, s)

range_same : (f g : Face → ℕ) (a n : ℕ) → ((z e : ℕ) → z < a + n → e < 4 → f (z, e) ≡ g (z, e)) → over f (flat_map faces_of_cell (range_with_len a n)) ≡ over g (flat_map faces_of_cell (range_with_len a n))
range_same f g a zero h = refl
range_same f g a (suc n) h =
    let h0 = h a 0 (omega arith) (omega arith) in let h1 = h a 1 (omega arith) (omega arith) in let h2 = h a 2 (omega arith) (omega arith) in let h3 = h a 3 (omega arith) (omega arith) in
    let r = range_same f g (a + 1) n (λ z e k l. h z e (omega (arith, k)) l) in
    let s = over-append f (faces_of_cell a) (flat_map faces_of_cell (range_with_len (a + 1) n)) in
    let t = over-append g (faces_of_cell a) (flat_map faces_of_cell (range_with_len (a + 1) n)) in
    omega (arith, h0, h1, h2, h3, r, s, t)

-- what the parts of one kind of a face add
abbrev if_met : Bool → ℕ → ℕ
if_met b n = if b then n else 0

weigh_map_step : (x : Visit → ℕ) (g : Face → Visit) (q : Face → Bool) (y : Face) (ys : List Face) (b : Bool) → q y ≡ b → weigh x (map g (filter q (y ∷ ys))) ≡ if_met b (x (g y)) + weigh x (map g (filter q ys))
weigh_map_step x g q y ys true e = ap (λ zs. weigh x (map g zs)) (step_filter q y ys true e)
weigh_map_step x g q y ys false e = let k = ap (λ zs. weigh x (map g zs)) (step_filter q y ys false e) in omega (arith, k)

weigh_map : (x : Visit → ℕ) (g : Face → Visit) (q : Face → Bool) (ys : List Face) → weigh x (map g (filter q ys)) ≡ over (λ y. if_met (q y) (x (g y))) ys
weigh_map x g q [] = refl
weigh_map x g q (y ∷ ys) = weigh_map_step x g q y ys (q y) refl ∙ ap (λ n. if_met (q y) (x (g y)) + n) (weigh_map x g q ys)

abbrev edge_term : Weights → RefinedMesh → Face → Face → ℕ
edge_term x forest a b = if_met (is_equal forest a b) (x a.0 (part_visit a.1 Whole Whole b))

abbrev up_term : Weights → RefinedMesh → ℕ → Part → Face → Face → ℕ
up_term x forest k part a b = if_met (is_half forest k a b) (x a.0 (part_visit a.1 Whole part b))

abbrev down_term : Weights → RefinedMesh → ℕ → Part → Face → Face → ℕ
down_term x forest k part a b = if_met (is_half forest k b a) (x a.0 (part_visit a.1 part Whole b))

-- what a face adds for another face
abbrev term : Weights → RefinedMesh → Face → Face → ℕ
term x forest a b = (edge_term x forest a b + (up_term x forest 0 Half0 a b + up_term x forest 1 Half1 a b)) + (down_term x forest 0 Half0 a b + down_term x forest 1 Half1 a b)

five_over : (e u v p q : Face → ℕ) (ys : List Face) → (over e ys + (over u ys + over v ys)) + (over p ys + over q ys) ≡ over (λ y. (e y + (u y + v y)) + (p y + q y)) ys
five_over e u v p q [] = refl
five_over e u v p q (y ∷ ys) = let r = five_over e u v p q ys in omega (arith, r)

parts_weigh : (x : Weights) (forest : RefinedMesh) (c f : ℕ) → weigh (x c) (interior_visits forest (c, f)) ≡ over (term x forest (c, f)) (all_faces forest)
parts_weigh x forest c f =
    let e : Face → Bool = is_equal forest (c, f) in
    let equals : List Visit = part_visits forest (c, f) Whole Whole e in
    let up0 : List Visit = part_visits forest (c, f) Whole Half0 (is_half forest 0 (c, f)) in
    let up1 : List Visit = part_visits forest (c, f) Whole Half1 (is_half forest 1 (c, f)) in
    let down0 : List Visit = part_visits forest (c, f) Half0 Whole (λ y. is_half forest 0 y (c, f)) in
    let down1 : List Visit = part_visits forest (c, f) Half1 Whole (λ y. is_half forest 1 y (c, f)) in
    let k0 = weigh_map (x c) (part_visit f Whole Whole) e (all_faces forest) in
    let k1 = weigh_map (x c) (part_visit f Whole Half0) (is_half forest 0 (c, f)) (all_faces forest) in
    let k2 = weigh_map (x c) (part_visit f Whole Half1) (is_half forest 1 (c, f)) (all_faces forest) in
    let k3 = weigh_map (x c) (part_visit f Half0 Whole) (λ y. is_half forest 0 y (c, f)) (all_faces forest) in
    let k4 = weigh_map (x c) (part_visit f Half1 Whole) (λ y. is_half forest 1 y (c, f)) (all_faces forest) in
    let s0 = weigh-append (x c) (equals ++ (up0 ++ up1)) (down0 ++ down1) in
    let s1 = weigh-append (x c) equals (up0 ++ up1) in
    let s2 = weigh-append (x c) up0 up1 in
    let s3 = weigh-append (x c) down0 down1 in
    let w = five_over (edge_term x forest (c, f)) (up_term x forest 0 Half0 (c, f)) (up_term x forest 1 Half1 (c, f)) (down_term x forest 0 Half0 (c, f)) (down_term x forest 1 Half1 (c, f)) (all_faces forest) in
    omega (arith, k0, k1, k2, k3, k4, s0, s1, s2, s3, w)

-- what a cell and its faces at the boundary add
abbrev outer_part : Weights → RefinedMesh → Face → ℕ
outer_part x forest a = weigh (x a.0) (boundary_visits forest a)

abbrev base : Weights → RefinedMesh → ℕ → ℕ
base x forest c = x c OnCell + four (outer_part x forest) c

abbrev all_parts_of : Weights → RefinedMesh → Face → ℕ
all_parts_of x forest a = over (term x forest a) (all_faces forest)

face_weigh : (x : Weights) (forest : RefinedMesh) (c f : ℕ) → weigh (x c) (face_visits forest (c, f)) ≡ outer_part x forest (c, f) + all_parts_of x forest (c, f)
unfolding face_visits
face_weigh x forest c f = weigh-append (x c) (boundary_visits forest (c, f)) (interior_visits forest (c, f)) ∙ ap (λ n. outer_part x forest (c, f) + n) (parts_weigh x forest c f)

faces_weigh : (x : Weights) (forest : RefinedMesh) (c : ℕ) → weigh (x c) (faces_visits forest c) ≡ four (outer_part x forest) c + four (all_parts_of x forest) c
unfolding faces_visits
faces_weigh x forest c =
    let v : ℕ → List Visit = λ face. face_visits forest (c, face) in
    let s0 = weigh-append (x c) (v 0) (v 1 ++ (v 2 ++ (v 3 ++ []))) in
    let s1 = weigh-append (x c) (v 1) (v 2 ++ (v 3 ++ [])) in
    let s2 = weigh-append (x c) (v 2) (v 3 ++ []) in
    let s3 = weigh-append (x c) (v 3) [] in
    let f0 = face_weigh x forest c 0 in let f1 = face_weigh x forest c 1 in let f2 = face_weigh x forest c 2 in let f3 = face_weigh x forest c 3 in
    omega (arith, s0, s1, s2, s3, f0, f1, f2, f3)

order_weigh : (x : Visit → ℕ) (faces : List Visit) (b : Bool) → weigh x (if b then faces ++ (OnCell ∷ []) else (OnCell ∷ []) ++ faces) ≡ x OnCell + weigh x faces
order_weigh x faces true = let s = weigh-append x faces (OnCell ∷ []) in omega (arith, s)
order_weigh x faces false = refl

cell_weigh : (x : Weights) (first : Bool) (forest : RefinedMesh) (c : ℕ) → weigh (x c) (all_visits first forest c) ≡ base x forest c + four (all_parts_of x forest) c
unfolding all_visits
cell_weigh x first forest c = let o = order_weigh (x c) (faces_visits forest c) first in let k = faces_weigh x forest c in omega (arith, o, k)

abbrev cells_in : RefinedMesh → List ℕ
cells_in forest = range_with_len 0 (length forest.cells)

abbrev pairs : Weights → RefinedMesh → ℕ
pairs x forest = over (all_parts_of x forest) (all_faces forest)

all_weigh : (x : Weights) (first : Bool) (forest : RefinedMesh) → sum_over x (all_visits first forest) forest ≡ total (base x forest) (cells_in forest) + pairs x forest
unfolding all_faces
all_weigh x first forest =
    total_range (λ c. weigh (x c) (all_visits first forest c)) (λ c. base x forest c + four (all_parts_of x forest) c) 0 (length forest.cells) (λ c k. cell_weigh x first forest c)
    ∙ total_plus (base x forest) (four (all_parts_of x forest)) (cells_in forest)
    ∙ ap (λ n. total (base x forest) (cells_in forest) + n) (four_over (all_parts_of x forest) (cells_in forest))

each_plus : (s t : Face → Face → ℕ) (xs ys : List Face) → over (λ a. over (s a) ys + over (t a) ys) xs ≡ over (λ a. over (λ b. s a b + t a b) ys) xs
each_plus s t [] ys = refl
each_plus s t (x ∷ xs) ys = let p = over_plus (s x) (t x) ys in let r = each_plus s t xs ys in omega (arith, p, r)

-- twice the sum over pairs is that of what both sides add
both_sides : (x : Weights) (forest : RefinedMesh) → pairs x forest + pairs x forest ≡ over (λ a. over (λ b. term x forest a b + term x forest b a) (all_faces forest)) (all_faces forest)
both_sides x forest =
    let ys : List Face = all_faces forest in
    ap (λ n. pairs x forest + n) (swap (term x forest) ys ys)
    ∙ sym (over_plus (all_parts_of x forest) (λ a. over (λ b. term x forest b a) ys) ys)
    ∙ each_plus (term x forest) (λ a b. term x forest b a) ys ys

-- what one pair of faces adds, whichever side is visited
met_sum : (b : Bool) (m n k l : ℕ) → (b ≡ true → m + n ≡ k + l) → if_met b m + if_met b n ≡ if_met b k + if_met b l
met_sum true m n k l h = h refl
met_sum false m n k l h = refl

-- two weights that add the same over the two sides of each part
pub record AddSame (x y : Weights) (forest : RefinedMesh) : Type 0 where
  pub base : (c : ℕ) → base x forest c ≡ base y forest c
  pub edge : (a b : Face) → IsFaceOf forest a → IsFaceOf forest b → is_equal forest a b ≡ true →
      x a.0 (part_visit a.1 Whole Whole b) + x b.0 (part_visit b.1 Whole Whole a) ≡ y a.0 (part_visit a.1 Whole Whole b) + y b.0 (part_visit b.1 Whole Whole a)
  pub half : (k : ℕ) (a b : Face) → k < 2 → IsFaceOf forest a → IsFaceOf forest b → is_half forest k a b ≡ true →
      x a.0 (part_visit a.1 Whole (half_part k) b) + x b.0 (part_visit b.1 (half_part k) Whole a) ≡ y a.0 (part_visit a.1 Whole (half_part k) b) + y b.0 (part_visit b.1 (half_part k) Whole a)

not_both_ways : (b : Bool) → b ≡ true → b ≡ false → ⊥
not_both_ways true h k = cc
not_both_ways false h k = cc

equal_both : (forest : RefinedMesh) (a b : Face) (e : Bool) → is_equal forest a b ≡ e → is_equal forest b a ≡ e
equal_both forest a b true h = same_turned forest a b h
equal_both forest a b false h = not_true (is_equal forest b a) (λ k. not_both_ways (is_equal forest a b) (same_turned forest b a k) h)

edge_sum : (x y : Weights) (forest : RefinedMesh) (a b : Face) → AddSame x y forest → IsFaceOf forest a → IsFaceOf forest b → edge_term x forest a b + edge_term x forest b a ≡ edge_term y forest a b + edge_term y forest b a
edge_sum x y forest a b same ha hb =
    let e : Bool = is_equal forest a b in
    let back : is_equal forest b a ≡ e = equal_both forest a b e refl in
    let s = met_sum e (x a.0 (part_visit a.1 Whole Whole b)) (x b.0 (part_visit b.1 Whole Whole a)) (y a.0 (part_visit a.1 Whole Whole b)) (y b.0 (part_visit b.1 Whole Whole a)) (λ h. same.edge a b ha hb h) in
    let p = ap (λ t. if_met t (x b.0 (part_visit b.1 Whole Whole a))) back in
    let q = ap (λ t. if_met t (y b.0 (part_visit b.1 Whole Whole a))) back in
    omega (arith, s, p, q)

half_sum : (x y : Weights) (forest : RefinedMesh) (k : ℕ) (a b : Face) → k < 2 → AddSame x y forest → IsFaceOf forest a → IsFaceOf forest b →
    up_term x forest k (half_part k) a b + down_term x forest k (half_part k) b a ≡ up_term y forest k (half_part k) a b + down_term y forest k (half_part k) b a
half_sum x y forest k a b hk same ha hb =
    met_sum (is_half forest k a b) (x a.0 (part_visit a.1 Whole (half_part k) b)) (x b.0 (part_visit b.1 (half_part k) Whole a)) (y a.0 (part_visit a.1 Whole (half_part k) b)) (y b.0 (part_visit b.1 (half_part k) Whole a))
    (λ h. same.half k a b hk ha hb h)

pair_sum : (x y : Weights) (forest : RefinedMesh) (a b : Face) → AddSame x y forest → IsFaceOf forest a → IsFaceOf forest b → term x forest a b + term x forest b a ≡ term y forest a b + term y forest b a
pair_sum x y forest a b same ha hb =
    let e = edge_sum x y forest a b same ha hb in
    let h0 = half_sum x y forest 0 a b (omega arith) same ha hb in
    let h1 = half_sum x y forest 1 a b (omega arith) same ha hb in
    let g0 = half_sum x y forest 0 b a (omega arith) same hb ha in
    let g1 = half_sum x y forest 1 b a (omega arith) same hb ha in
    omega (arith, e, h0, h1, g0, g1)

faces_same : (f g : Face → ℕ) (forest : RefinedMesh) → ((z e : ℕ) → z < length forest.cells → e < 4 → f (z, e) ≡ g (z, e)) → over f (all_faces forest) ≡ over g (all_faces forest)
unfolding all_faces
faces_same f g forest h = range_same f g 0 (length forest.cells) (λ z e k l. h z e (omega (arith, k)) l)

halved : (m n : ℕ) → m + m ≡ n + n → m ≡ n
halved m n h = omega (arith, h)

pairs_same : (x y : Weights) (forest : RefinedMesh) → AddSame x y forest → pairs x forest ≡ pairs y forest
pairs_same x y forest same =
    halved (pairs x forest) (pairs y forest)
    (both_sides x forest
    ∙ faces_same (λ a. over (λ b. term x forest a b + term x forest b a) (all_faces forest)) (λ a. over (λ b. term y forest a b + term y forest b a) (all_faces forest)) forest
    (λ z e hz he. faces_same (λ b. term x forest (z, e) b + term x forest b (z, e)) (λ b. term y forest (z, e) b + term y forest b (z, e)) forest
    (λ w d hw hd. pair_sum x y forest (z, e) (w, d) same (hz, he) (hw, hd)))
    ∙ sym (both_sides y forest))

sums_same : (x y : Weights) (first : Bool) (forest : RefinedMesh) → AddSame x y forest → sum_over x (all_visits first forest) forest ≡ sum_over y (all_visits first forest) forest
sums_same x y first forest same =
    let a = all_weigh x first forest in let b = all_weigh y first forest in
    let s = total_range (base x forest) (base y forest) 0 (length forest.cells) (λ c k. same.base c) in
    let p = pairs_same x y forest same in omega (arith, a, b, s, p)

-- the weights of the visits that are made
abbrev own_weight : Weights → Subdomains → Flags → Weights
own_weight weight subdomain flags c = chosen_weight (weight c) (is_chosen subdomain (for_subdomain flags (subdomain c)) c)

abbrev whole_weight : Weights → Subdomains → Flags → Weights
whole_weight weight subdomain flags c = chosen_weight (weight c) (is_chosen subdomain (for_all flags) c)

choose : (p q : Bool) (m n : ℕ) → ind p + ind q ≡ 1 → m ≡ n → (if p then m else 0) + (if q then n else 0) ≡ m
choose true true m n h e = absurd (omega (arith, h))
choose true false m n h e = omega arith
choose false true m n h e = omega (arith, e)
choose false false m n h e = absurd (omega (arith, h))

-- just one side of a part is chosen
abbrev OneSide : (Face → Face → Part → Part → Bool) → Face → Face → Part → Part → Type 0
OneSide goes a b here there = ind (goes a b here there) + ind (goes b a there here) ≡ 1

abbrev goes_run : Subdomains → Flags → Face → Face → Part → Part → Bool
goes_run subdomain flags a b here there = goes_to_cell subdomain (for_subdomain flags (subdomain a.0)) a.0 b.0 here there

abbrev goes_whole : Flags → Face → Face → Part → Part → Bool
goes_whole flags a b here there = goes_inside flags.interior a.0 b.0 here there

same_goes : (subdomain : Subdomains) (flags : Flags) (a b : Face) (here there : Part) → subdomain b.0 ≡ subdomain a.0 → goes_run subdomain flags a b here there ≡ goes_whole flags a b here there
same_goes subdomain flags a b here there e =
    ap (λ t. if t then goes_inside flags.interior a.0 b.0 here there else goes_out flags.ghost_parts (Some (subdomain a.0)) (subdomain b.0)) (eq-eqb (subdomain b.0) (subdomain a.0) e)

out_goes : (subdomain : Subdomains) (flags : Flags) (a b : Face) (here there : Part) → flags.ghost_parts ≡ Once → (subdomain b.0 ≡ subdomain a.0 → ⊥) → goes_run subdomain flags a b here there ≡ nat_lt (subdomain a.0) (subdomain b.0)
out_goes subdomain flags a b here there once e =
    ap (λ t. if t then goes_inside flags.interior a.0 b.0 here there else goes_out flags.ghost_parts (Some (subdomain a.0)) (subdomain b.0)) (not_true (subdomain b.0 == subdomain a.0) (λ k. e (eq_true (subdomain b.0) (subdomain a.0) k)))
    ∙ ap (λ rule. goes_out rule (Some (subdomain a.0)) (subdomain b.0)) once

one_by : (p q r s : Bool) → p ≡ r → q ≡ s → ind r + ind s ≡ 1 → ind p + ind q ≡ 1
one_by p q r s e f h = rw (e, f) h

run_side : (subdomain : Subdomains) (flags : Flags) (a b : Face) (here there : Part) → flags.ghost_parts ≡ Once → OneSide (goes_whole flags) a b here there → OneSide (goes_run subdomain flags) a b here there
run_side subdomain flags a b here there once whole =
    ⊎_elim
    (λ (e : subdomain a.0 ≡ subdomain b.0). one_by (goes_run subdomain flags a b here there) (goes_run subdomain flags b a there here) (goes_whole flags a b here there) (goes_whole flags b a there here)
    (same_goes subdomain flags a b here there (sym e)) (same_goes subdomain flags b a there here e) whole)
    (λ (e : subdomain a.0 ≡ subdomain b.0 → ⊥). one_by (goes_run subdomain flags a b here there) (goes_run subdomain flags b a there here) (nat_lt (subdomain a.0) (subdomain b.0)) (nat_lt (subdomain b.0) (subdomain a.0))
    (out_goes subdomain flags a b here there once (λ k. e (sym k))) (out_goes subdomain flags b a there here once e) (one_below (subdomain a.0) (subdomain b.0) e))
    (nat_decides (subdomain a.0) (subdomain b.0))

abbrev sides_once : Face → Face → Part → Part → Interior → Type 0
sides_once a b here there rule = ind (goes_inside rule a.0 b.0 here there) + ind (goes_inside rule b.0 a.0 there here) ≡ 1

edge_side : (flags : Flags) (a b : Face) → flags.interior ≡ Once → (a.0 ≡ b.0 → ⊥) → OneSide (goes_whole flags) a b Whole Whole
edge_side flags a b once apart_cells = subst (sides_once a b Whole Whole) (sym once) (one_below a.0 b.0 apart_cells)

half_once : (k : ℕ) (a b : Face) → k < 2 → sides_once a b Whole (half_part k) Once
half_once zero a b h = refl
half_once (suc zero) a b h = refl
half_once (suc (suc k)) a b h = absurd (omega (arith, h))

half_side : (flags : Flags) (k : ℕ) (a b : Face) → k < 2 → flags.interior ≡ Once → OneSide (goes_whole flags) a b Whole (half_part k)
half_side flags k a b h once = subst (sides_once a b Whole (half_part k)) (sym once) (half_once k a b h)

boundary_same : (x y : Visit → ℕ) (b : Bool) (v : Visit) → x v ≡ y v → weigh x (if b then v ∷ [] else []) ≡ weigh y (if b then v ∷ [] else [])
boundary_same x y true v e = omega (arith, e)
boundary_same x y false v e = refl

-- of the cell and its faces at the boundary both choose the same
same_base : (weight : Weights) (subdomain : Subdomains) (flags : Flags) (forest : RefinedMesh) (c : ℕ) → base (own_weight weight subdomain flags) forest c ≡ base (whole_weight weight subdomain flags) forest c
same_base weight subdomain flags forest c =
    let b : (f : ℕ) → outer_part (own_weight weight subdomain flags) forest (c, f) ≡ outer_part (whole_weight weight subdomain flags) forest (c, f) =
    λ f. boundary_same (own_weight weight subdomain flags c) (whole_weight weight subdomain flags c) (is_outer forest (c, f)) (OnBoundary f (id_of forest (c, f))) refl in
    let b0 = b 0 in let b1 = b 1 in let b2 = b 2 in let b3 = b 3 in omega (arith, b0, b1, b2, b3)

add_same : (weight : Weights) (subdomain : Subdomains) (flags : Flags) (forest : RefinedMesh) → IsGrown forest → flags.interior ≡ Once → flags.ghost_parts ≡ Once → IsTwoSided weight forest →
    AddSame (own_weight weight subdomain flags) (whole_weight weight subdomain flags) forest
add_same weight subdomain flags forest grown inside out two = record {
  base = λ c. same_base weight subdomain flags forest c;
  edge = λ a b ha hb h.
      let m : ℕ = weight a.0 (part_visit a.1 Whole Whole b) in
      let n : ℕ = weight b.0 (part_visit b.1 Whole Whole a) in
      let e : m ≡ n = two.edge a b ha hb (let t = equal_true forest a b h in (t.0, t.1)) in
      let w : OneSide (goes_whole flags) a b Whole Whole = edge_side flags a b inside (apart forest a b (record { grown = grown; here = ha; there = hb }) h) in
      choose (goes_run subdomain flags a b Whole Whole) (goes_run subdomain flags b a Whole Whole) m n (run_side subdomain flags a b Whole Whole out w) e
      ∙ sym (choose (goes_whole flags a b Whole Whole) (goes_whole flags b a Whole Whole) m n w e);
  half = λ k a b hk ha hb h.
      let m : ℕ = weight a.0 (part_visit a.1 Whole (half_part k) b) in
      let n : ℕ = weight b.0 (part_visit b.1 (half_part k) Whole a) in
      let e : m ≡ n = two.half k a b hk ha hb (half_true forest k a b h) in
      let w : OneSide (goes_whole flags) a b Whole (half_part k) = half_side flags k a b hk inside in
      choose (goes_run subdomain flags a b Whole (half_part k)) (goes_run subdomain flags b a (half_part k) Whole) m n (run_side subdomain flags a b Whole (half_part k) out w) e
      ∙ sym (choose (goes_whole flags a b Whole (half_part k)) (goes_whole flags b a (half_part k) Whole) m n w e);
}

-- a run without ghost cells makes no visit of a cell of another subdomain
nothing : (subdomain : Subdomains) (flags : Flags) (visits : List Visit) (met : Bool) → list_any (meets_own subdomain flags.own) visits ≡ met → flags.ghost_cells ≡ false → outer_visits subdomain flags visits ≡ []
nothing subdomain flags visits true e f = rw (e, f) refl
nothing subdomain flags visits false e f = rw e refl

other_nothing : (weight : Weights) (subdomain : Subdomains) (flags : Flags) (forest : RefinedMesh) (c s : ℕ) → flags.ghost_cells ≡ false → (s ≡ subdomain c → ⊥) → weigh (weight c) (visits_of subdomain (for_subdomain flags s) forest c) ≡ 0
other_nothing weight subdomain flags forest c s none e =
    let visits : List Visit = all_visits flags.cells_after_faces forest c in
    ap (weigh (weight c)) (outer_run subdomain (for_subdomain flags s) forest c (not_true (subdomain c == s) (λ t. e (sym (eq_true (subdomain c) s t))))
    ∙ nothing subdomain (for_subdomain flags s) visits (list_any (meets_own subdomain (Some s)) visits) refl none)

cell_over_runs : (weight : Weights) (subdomain : Subdomains) (flags : Flags) (forest : RefinedMesh) (runs : List ℕ) (c : ℕ) → flags.ghost_cells ≡ false → length (filter (λ s. s == subdomain c) runs) ≡ 1 →
    total (λ s. weigh (weight c) (visits_of subdomain (for_subdomain flags s) forest c)) runs ≡ weigh (own_weight weight subdomain flags c) (all_visits flags.cells_after_faces forest c)
cell_over_runs weight subdomain flags forest runs c none once =
    let s : ℕ = subdomain c in
    total_one (λ t. weigh (weight c) (visits_of subdomain (for_subdomain flags t) forest c)) s runs (λ t e. other_nothing weight subdomain flags forest c t none e) once
    ∙ ap (weigh (weight c)) (own_run subdomain (for_subdomain flags s) forest c (eq-eqb s s refl))
    ∙ weigh_filter (weight c) (is_chosen subdomain (for_subdomain flags s) c) (all_visits flags.cells_after_faces forest c)

-- what the run over all cells adds
cell_over_all : (weight : Weights) (subdomain : Subdomains) (flags : Flags) (forest : RefinedMesh) (c : ℕ) →
    weigh (whole_weight weight subdomain flags c) (all_visits flags.cells_after_faces forest c) ≡ weigh (weight c) (visits_of subdomain (for_all flags) forest c)
cell_over_all weight subdomain flags forest c =
    sym (weigh_filter (weight c) (is_chosen subdomain (for_all flags) c) (all_visits flags.cells_after_faces forest c)) ∙ ap (weigh (weight c)) (sym (own_run subdomain (for_all flags) forest c refl))

pub sums_add_up : SumsAddUp
sums_add_up weight subdomain flags forest runs grown each inside out none two =
    let first : Bool = flags.cells_after_faces in
    total_swap (λ s c. weigh (weight c) (visits_of subdomain (for_subdomain flags s) forest c)) runs (cells_in forest)
    ∙ total_range (λ c. total (λ s. weigh (weight c) (visits_of subdomain (for_subdomain flags s) forest c)) runs) (λ c. weigh (own_weight weight subdomain flags c) (all_visits first forest c)) 0 (length forest.cells)
    (λ c k. cell_over_runs weight subdomain flags forest runs c none (each c (omega (arith, k))))
    ∙ sums_same (own_weight weight subdomain flags) (whole_weight weight subdomain flags) first forest (add_same weight subdomain flags forest grown inside out two)
    ∙ total_range (λ c. weigh (whole_weight weight subdomain flags c) (all_visits first forest c)) (λ c. weigh (weight c) (visits_of subdomain (for_all flags) forest c)) 0 (length forest.cells)
    (λ c k. cell_over_all weight subdomain flags forest c)
