-- The least id decides.
use Rattle.std.proofs.Common.{◌≡◌, ◌∙◌, sym, ap, refl, subst, ℕ, zero, suc, ◌+◌, ◌<◌, ◌≤◌, ◌⊎◌, inl, inr, ⊎_elim, Bool, true, false, ◌&&◌, cond, List, [], ◌∷◌, ◌++◌, length, map, arith}
use Rattle.std.specs.Prelude.{Some, None, IsSome, is_some, fold}
use Rattle.std.specs.declared.option.Option.{Option}
use Rattle.std.specs.List.{filter, flat_map, range_with_len}
use Rattle.std.proofs.lemmas.Bool.{cases_lt}
use Rattle.hanging_refine.specs.Refined.{RefinedMesh}
use Rattle.problem_read.specs.Entries.{ProblemParts}
use Rattle.problem_read.specs.LookUps.{dirichlet_on}
use Rattle.mesh_visits.specs.Meeting.{Face, is_outer, faces_of_cell, all_faces}
use Rattle.mesh_visits.specs.Visits.{id_of}
use Rattle.mesh_visits.proofs.Meets.{and_true, and_by}
use Rattle.constrained_mesh.specs.Dirichlet.{lesser, has_value, lies_on, ids_among, deciding_id}
use Rattle.constrained_mesh.specs.Laws.{LiesOnFace, Decides, LeastIdDecides}

IsIn : {X : Type 0} → X → List X → Type 0
IsIn x [] = ⊥
IsIn x (y ∷ ys) = (x ≡ y) ⊎ IsIn x ys

abbrev pub step : Option ℕ → ℕ → Option ℕ
step so_far x = Some (lesser so_far x)

lesser_first : (acc : Option ℕ) (x a : ℕ) → acc ≡ Some a → lesser acc x ≤ a
lesser_first None x a e = absurd cc
lesser_first (Some b) x a e = let s : b ≡ a = cc in omega arith

lesser_second : (acc : Option ℕ) (x : ℕ) → lesser acc x ≤ x
lesser_second None x = omega arith
lesser_second (Some b) x = omega arith

which : (acc : Option ℕ) (x m : ℕ) → lesser acc x ≡ m → (acc ≡ Some m) ⊎ (m ≡ x)
which None x m e = inr (sym e)
which (Some b) x m e = ⊎_elim (λ (h : b < x). inl (ap Some (let s : b ≡ m = omega arith in s))) (λ (h : x ≤ b). inr (let s : m ≡ x = omega arith in s)) (cases_lt b x)

-- what the least of a list is, after a first number
record IsLeastIn (acc : Option ℕ) (xs : List ℕ) (m : ℕ) : Type 0 where
  pub found : (acc ≡ Some m) ⊎ IsIn m xs
  pub first : (a : ℕ) → acc ≡ Some a → m ≤ a
  pub all : (y : ℕ) → IsIn y xs → m ≤ y

same_some : (x y : ℕ) → Some x ≡ Some y → x ≡ y
same_some x y e = cc

least_in : (xs : List ℕ) (acc : Option ℕ) (m : ℕ) → fold step acc xs ≡ Some m → IsLeastIn acc xs m
unfolding IsIn
least_in [] acc m e = record { found = inl e; first = λ a h. (let s = same_some a m (sym h ∙ e) in omega arith); all = λ y h. absurd h }
least_in (x ∷ xs) acc m e =
    let r = least_in xs (Some (lesser acc x)) m e in
    let below : m ≤ lesser acc x = r.first (lesser acc x) refl in
    record {
      found = ⊎_elim (λ (s : Some (lesser acc x) ≡ Some m). ⊎_elim (λ (t : acc ≡ Some m). inl t) (λ (t : m ≡ x). inr (inl t)) (which acc x m (same_some (lesser acc x) m s))) (λ (s : IsIn m xs). inr (inr s)) r.found;
      first = λ a h. (let s = lesser_first acc x a h in omega arith);
      all = λ y h. ⊎_elim (λ (s : y ≡ x). (let t = lesser_second acc x in omega arith)) (λ (s : IsIn y xs). r.all y s) h;
    }

fold_some : (xs : List ℕ) (a : ℕ) → fold step (Some a) xs ≡ None → ⊥
fold_some [] a e = cc
fold_some (x ∷ xs) a e = fold_some xs (lesser (Some a) x) e

not_none : (xs : List ℕ) (y : ℕ) → IsIn y xs → fold step None xs ≡ None → ⊥
unfolding IsIn
not_none [] y h e = h
not_none (x ∷ xs) y h e = fold_some xs x e

filtered : (p : Face → Bool) (x y : Face) (ys : List Face) (b : Bool) → p y ≡ b → IsIn x (cond b (y ∷ filter p ys) (filter p ys)) → (IsIn x (filter p ys) → IsIn x ys × (p x ≡ true)) → IsIn x (y ∷ ys) × (p x ≡ true)
unfolding IsIn
filtered p x y ys true e h more = ⊎_elim (λ (s : x ≡ y). (inl s, ap p s ∙ e)) (λ (s : IsIn x (filter p ys)). let t = more s in (inr t.0, t.1)) h
filtered p x y ys false e h more = let t = more h in (inr t.0, t.1)

filter_in : (p : Face → Bool) (xs : List Face) (x : Face) → IsIn x (filter p xs) → IsIn x xs × (p x ≡ true)
unfolding IsIn
filter_in p [] x h = absurd h
filter_in p (y ∷ ys) x h = filtered p x y ys (p y) refl h (filter_in p ys x)

passes : (p : Face → Bool) (x y : Face) (ys : List Face) (b : Bool) → p y ≡ b → (x ≡ y) ⊎ IsIn x (filter p ys) → p x ≡ true → IsIn x (cond b (y ∷ filter p ys) (filter p ys))
unfolding IsIn
passes p x y ys true e h t = h
passes p x y ys false e h t = ⊎_elim (λ (s : x ≡ y). absurd (clash (p y) (sym (ap p s) ∙ t) e)) (λ (s : IsIn x (filter p ys)). s) h
  where
    clash : (b : Bool) → b ≡ true → b ≡ false → ⊥
    clash b e h = cc

in_filter : (p : Face → Bool) (xs : List Face) (x : Face) → IsIn x xs → p x ≡ true → IsIn x (filter p xs)
unfolding IsIn
in_filter p [] x h t = h
in_filter p (y ∷ ys) x h t = passes p x y ys (p y) refl (⊎_elim (λ (s : x ≡ y). inl s) (λ (s : IsIn x ys). inr (in_filter p ys x s t)) h) t

map_in : (f : Face → ℕ) (xs : List Face) (i : ℕ) → IsIn i (map f xs) → (x : Face) × (IsIn x xs × (i ≡ f x))
unfolding IsIn
map_in f [] i h = absurd h
map_in f (y ∷ ys) i h = ⊎_elim (λ (s : i ≡ f y). (y, (inl refl, s))) (λ (s : IsIn i (map f ys)). let t = map_in f ys i s in (t.0, (inr t.1.0, t.1.1))) h

in_map : (f : Face → ℕ) (xs : List Face) (x : Face) → IsIn x xs → IsIn (f x) (map f xs)
unfolding IsIn
in_map f [] x h = h
in_map f (y ∷ ys) x h = ⊎_elim (λ (s : x ≡ y). inl (ap f s)) (λ (s : IsIn x ys). inr (in_map f ys x s)) h

append_in : (xs ys : List Face) (x : Face) → IsIn x (xs ++ ys) → IsIn x xs ⊎ IsIn x ys
unfolding IsIn
append_in [] ys x h = inr h
append_in (y ∷ xs) ys x h = ⊎_elim (λ (s : x ≡ y). inl (inl s)) (λ (s : IsIn x (xs ++ ys)). ⊎_elim (λ (t : IsIn x xs). inl (inr t)) (λ (t : IsIn x ys). inr t) (append_in xs ys x s)) h

in_left : (xs ys : List Face) (x : Face) → IsIn x xs → IsIn x (xs ++ ys)
unfolding IsIn
in_left [] ys x h = absurd h
in_left (y ∷ xs) ys x h = ⊎_elim (λ (s : x ≡ y). inl s) (λ (s : IsIn x xs). inr (in_left xs ys x s)) h

in_right : (xs ys : List Face) (x : Face) → IsIn x ys → IsIn x (xs ++ ys)
unfolding IsIn
in_right [] ys x h = h
in_right (y ∷ xs) ys x h = inr (in_right xs ys x h)

cell_in : (c : ℕ) (x : Face) → IsIn x (faces_of_cell c) → (x.0 ≡ c) × (x.1 < 4)
unfolding IsIn
cell_in c x h = ⊎_elim (λ (s : x ≡ (c, 0)). at 0 (omega arith) s) (λ h. ⊎_elim (λ (s : x ≡ (c, 1)). at 1 (omega arith) s) (λ h. ⊎_elim (λ (s : x ≡ (c, 2)). at 2 (omega arith) s) (λ h. ⊎_elim (λ (s : x ≡ (c, 3)). at 3 (omega arith) s) (λ (h : ⊥). absurd h) h) h) h) h
  where
    at : (f : ℕ) → f < 4 → x ≡ (c, f) → (x.0 ≡ c) × (x.1 < 4)
    at f b e = (ap (λ (y : Face). y.0) e, (let s : x.1 ≡ f = ap (λ (y : Face). y.1) e in omega arith))

in_cell : (c f : ℕ) → f < 4 → IsIn (c, f) (faces_of_cell c)
unfolding IsIn
in_cell c zero h = inl refl
in_cell c (suc zero) h = inr (inl refl)
in_cell c (suc (suc zero)) h = inr (inr (inl refl))
in_cell c (suc (suc (suc zero))) h = inr (inr (inr (inl refl)))
in_cell c (suc (suc (suc (suc f)))) h = absurd (omega (arith, h))

record IsFaceFrom (a n : ℕ) (x : Face) : Type 0 where
  pub from : a ≤ x.0
  pub below : x.0 < a + n
  pub face : x.1 < 4

faces_in : (a n : ℕ) (x : Face) → IsIn x (flat_map faces_of_cell (range_with_len a n)) → IsFaceFrom a n x
unfolding IsIn
faces_in a zero x h = absurd h
faces_in a (suc n) x h = ⊎_elim
    (λ (s : IsIn x (faces_of_cell a)). let t = cell_in a x s in let e = t.0 in record { from = omega (arith, e); below = omega (arith, e); face = t.1 })
    (λ (s : IsIn x (flat_map faces_of_cell (range_with_len (a + 1) n))). let t = faces_in (a + 1) n x s in let u = t.from in let v = t.below in record { from = omega (arith, u); below = omega (arith, v); face = t.face })
    (append_in (faces_of_cell a) (flat_map faces_of_cell (range_with_len (a + 1) n)) x h)

in_faces : (a n c f : ℕ) → a ≤ c → c < a + n → f < 4 → IsIn (c, f) (flat_map faces_of_cell (range_with_len a n))
in_faces a zero c f h k b = absurd (omega (arith, h, k))
in_faces a (suc n) c f h k b = ⊎_elim
    (λ (s : a < c). in_right (faces_of_cell a) (flat_map faces_of_cell (range_with_len (a + 1) n)) (c, f) (in_faces (a + 1) n c f (omega (arith, s)) (omega (arith, k)) b))
    (λ (s : c ≤ a). in_left (faces_of_cell a) (flat_map faces_of_cell (range_with_len (a + 1) n)) (c, f) (let e : a ≡ c = omega (arith, s, h) in let P : ℕ → Type 0 = λ y. IsIn (c, f) (faces_of_cell y) in subst P (sym e) (in_cell c f b)))
    (cases_lt a c)

all_in : (forest : RefinedMesh) (x : Face) → IsIn x (all_faces forest) → IsFaceFrom 0 (length forest.cells) x
unfolding all_faces
all_in forest x h = faces_in 0 (length forest.cells) x h

in_all : (forest : RefinedMesh) (c f : ℕ) → c < length forest.cells → f < 4 → IsIn (c, f) (all_faces forest)
unfolding all_faces
in_all forest c f h b = in_faces 0 (length forest.cells) c f (omega arith) (omega (arith, h)) b

test : ℕ → RefinedMesh → ProblemParts → ℕ → Face → Bool
test degree forest problem dof face = has_value forest problem face && lies_on degree forest dof face

-- an id among them is that of a face with a value that has the dof at an end
found_face : (degree : ℕ) (forest : RefinedMesh) (problem : ProblemParts) (dof id : ℕ) → IsIn id (ids_among degree forest problem (all_faces forest) dof) → LiesOnFace degree forest dof id × IsSome (dirichlet_on problem id)
unfolding ids_among has_value
found_face degree forest problem dof id h =
    let p : Face → Bool = λ face. has_value forest problem face && lies_on degree forest dof face in
    let m = map_in (id_of forest) (filter p (all_faces forest)) id h in
    let k = filter_in p (all_faces forest) m.0 m.1.0 in
    let at = all_in forest m.0 k.0 in
    let b = at.below in
    let both = and_true (has_value forest problem m.0) (lies_on degree forest dof m.0) k.1 in
    let value = and_true (is_outer forest m.0) (is_some (dirichlet_on problem (id_of forest m.0))) both.0 in (
      record { cell = m.0.0; face = m.0.1; is_cell = omega (arith, b); is_face = at.face; outer = value.0; is_id = m.1.1; lies = both.1 },
      (let P : ℕ → Type 0 = λ i. IsSome (dirichlet_on problem i) in subst P (sym m.1.1) value.1),
    )

face_found : (degree : ℕ) (forest : RefinedMesh) (problem : ProblemParts) (dof id : ℕ) → LiesOnFace degree forest dof id → IsSome (dirichlet_on problem id) → IsIn id (ids_among degree forest problem (all_faces forest) dof)
unfolding ids_among has_value
face_found degree forest problem dof id w some =
    let p : Face → Bool = λ face. has_value forest problem face && lies_on degree forest dof face in
    let x : Face = (w.cell, w.face) in
    let P : ℕ → Type 0 = λ i. IsIn i (map (id_of forest) (filter p (all_faces forest))) in
    let Q : ℕ → Type 0 = λ i. IsSome (dirichlet_on problem i) in
    subst P (sym w.is_id) (in_map (id_of forest) (filter p (all_faces forest)) x (in_filter p (all_faces forest) x (in_all forest w.cell w.face w.is_cell w.is_face)
    (and_by (has_value forest problem x) (lies_on degree forest dof x) (and_by (is_outer forest x) (is_some (dirichlet_on problem (id_of forest x))) w.outer (subst Q w.is_id some)) w.lies)))

decides : (degree : ℕ) (forest : RefinedMesh) (problem : ProblemParts) (dof id : ℕ) → deciding_id degree forest problem dof ≡ Some id → Decides degree forest problem dof id
unfolding deciding_id
decides degree forest problem dof id e =
    let r = least_in (ids_among degree forest problem (all_faces forest) dof) None id e in
    let here : IsIn id (ids_among degree forest problem (all_faces forest) dof) = ⊎_elim (λ (s : None ≡ Some id). absurd (no_some id s)) (λ (s : IsIn id (ids_among degree forest problem (all_faces forest) dof)). s) r.found in
    let t = found_face degree forest problem dof id here in
    record { on = t.0; has = t.1; least = λ other w some. r.all other (face_found degree forest problem dof other w some) }
  where
    no_some : (x : ℕ) → None ≡ Some x → ⊥
    no_some x e = cc

decided_by : (degree : ℕ) (forest : RefinedMesh) (problem : ProblemParts) (dof id : ℕ) → Decides degree forest problem dof id → (found : Option ℕ) → deciding_id degree forest problem dof ≡ found → found ≡ Some id
unfolding deciding_id
decided_by degree forest problem dof id w None e = absurd (not_none (ids_among degree forest problem (all_faces forest) dof) id (face_found degree forest problem dof id w.on w.has) e)
decided_by degree forest problem dof id w (Some m) e =
    let v = decides degree forest problem dof m e in
    let a = w.least m v.on v.has in let b = v.least id w.on w.has in ap Some (let s : m ≡ id = omega arith in s)

pub law : LeastIdDecides
law degree forest problem dof id = (λ w. decided_by degree forest problem dof id w (deciding_id degree forest problem dof) refl, λ e. decides degree forest problem dof id e)
