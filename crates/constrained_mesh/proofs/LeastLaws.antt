-- The table of the least ids, face by face.
use Rattle.std.proofs.Common.{◌≡◌, ◌∙◌, sym, ap, refl, subst, ℕ, zero, suc, ◌+◌, ◌<◌, inl, inr, ⊎_elim, ◌⊎◌, Bool, true, false, cond, ◌&&◌, ◌||◌, ◌==◌, List, [], ◌∷◌, ◌++◌, length, map, replicate, slice_index, slice_index_or, slice_set, get_or-set_same, get_or-set_other, arith}
use Rattle.std.specs.Prelude.{Some, None, nat_eq}
use Rattle.std.specs.declared.option.Option.{Option}
use Rattle.std.specs.List.{filter, flat_map, range_with_len}
use Rattle.std.proofs.lemmas.List.{map-append, get_or-replicate, length-replicate, append-nil}
use Rattle.std.proofs.lemmas.List.Elements.{filter-append}
use Rattle.std.proofs.lemmas.List.Sums.{fold-append}
use Rattle.std.proofs.lemmas.Grind.{flat_map-append}
use Rattle.std.proofs.lemmas.Bool.{cases_Bool}
use Rattle.corner_names.specs.Cells.{face_start, face_end}
use Rattle.corner_names.proofs.Across.{nat_decides, start_less, end_less}
use Rattle.corner_names.proofs.Active.{clash}
use Rattle.hanging_refine.specs.Refined.{RefinedMesh}
use Rattle.fem_fixed.specs.Lists.{contains}
use Rattle.fem_fixed.proofs.Occurrences.{numbers_equal}
use Rattle.dof_numbers.specs.Dofs.{Numbering, IsNumberingOf, cell_dof, corner_dof, middle_dof, names_each}
use Rattle.dof_numbers.proofs.Rows.{dofs_of_corners}
use Rattle.dof_numbers.proofs.Every.{four_each}
use Rattle.problem_read.specs.Entries.{ProblemParts}
use Rattle.mesh_visits.specs.Meeting.{Face, faces_of_cell, all_faces}
use Rattle.mesh_visits.specs.Visits.{id_of}
use Rattle.constrained_mesh.specs.Dirichlet.{least, lesser, has_value, face_dofs, lies_on, ids_among}
use Rattle.constrained_mesh.specs.LeastIds.{HoldsLeast}

pub least-push : (xs : List ℕ) (x : ℕ) → least (xs ++ x ∷ []) ≡ Some (lesser (least xs) x)
least-push xs x = fold-append (λ (so_far : Option ℕ) (y : ℕ). Some (lesser so_far y)) None xs (x ∷ [])

passes_one : (p : Face → Bool) (f : Face → ℕ) (x : Face) (b : Bool) → p x ≡ b → map f (filter p (x ∷ [])) ≡ cond b (f x ∷ []) []
passes_one p f x true e = rw e refl
passes_one p f x false e = rw e refl

-- the ids of one more face
pub ids-push : (degree : ℕ) (forest : RefinedMesh) (problem : ProblemParts) (seen : List Face) (face : Face) (dof : ℕ) (b : Bool) → (has_value forest problem face && lies_on degree forest dof face) ≡ b →
    ids_among degree forest problem (seen ++ face ∷ []) dof ≡ ids_among degree forest problem seen dof ++ cond b (id_of forest face ∷ []) []
unfolding ids_among
ids-push degree forest problem seen face dof b e =
    let p : Face → Bool = λ x. has_value forest problem x && lies_on degree forest dof x in
    ap (map (id_of forest)) (filter-append p seen (face ∷ [])) ∙ map-append (id_of forest) (filter p seen) (filter p (face ∷ []))
    ∙ ap (λ xs. map (id_of forest) (filter p seen) ++ xs) (passes_one p (id_of forest) face b e)

pub least_kept : (degree : ℕ) (forest : RefinedMesh) (problem : ProblemParts) (seen : List Face) (face : Face) (dof : ℕ) → (has_value forest problem face && lies_on degree forest dof face) ≡ false →
    least (ids_among degree forest problem (seen ++ face ∷ []) dof) ≡ least (ids_among degree forest problem seen dof)
least_kept degree forest problem seen face dof e = ap least (ids-push degree forest problem seen face dof false e ∙ append-nil (ids_among degree forest problem seen dof))

pub least_noted : (degree : ℕ) (forest : RefinedMesh) (problem : ProblemParts) (seen : List Face) (face : Face) (dof : ℕ) → (has_value forest problem face && lies_on degree forest dof face) ≡ true →
    least (ids_among degree forest problem (seen ++ face ∷ []) dof) ≡ Some (lesser (least (ids_among degree forest problem seen dof)) (id_of forest face))
least_noted degree forest problem seen face dof e = ap least (ids-push degree forest problem seen face dof true e) ∙ least-push (ids_among degree forest problem seen dof) (id_of forest face)

-- a face without a value leaves the table
pub face_passed : (degree : ℕ) (forest : RefinedMesh) (problem : ProblemParts) (seen : List Face) (face : Face) (ids : List (Option ℕ)) → has_value forest problem face ≡ false → HoldsLeast degree forest problem seen ids →
    HoldsLeast degree forest problem (seen ++ face ∷ []) ids
unfolding HoldsLeast
face_passed degree forest problem seen face ids e h dof b = h dof b ∙ sym (least_kept degree forest problem seen face dof (ap (λ v. v && lies_on degree forest dof face) e))

lesser_twice : (noted : Option ℕ) (id : ℕ) → lesser (Some (lesser noted id)) id ≡ lesser noted id
lesser_twice None id = omega arith
lesser_twice (Some other) id = omega arith

and_all : (a b : Bool) → a ≡ true → b ≡ true → (a && b) ≡ true
and_all a b e h = rw (e, h) refl

and_none : (a b : Bool) → b ≡ false → (a && b) ≡ false
and_none true b e = e
and_none false b e = refl

-- what a face with a value does to the table: its id is noted at its two ends
pub record IsNotedAt (old new : List (Option ℕ)) (dof id : ℕ) : Type 0 where
  pub within : dof < length old
  pub is : new ≡ slice_set old dof (Some (lesser (slice_index_or old dof None) id))

at_noted : (old new : List (Option ℕ)) (dof id : ℕ) → IsNotedAt old new dof id → slice_index_or new dof None ≡ Some (lesser (slice_index_or old dof None) id)
at_noted old new dof id w = ap (λ xs. slice_index_or xs dof None) w.is ∙ get_or-set_same old dof (Some (lesser (slice_index_or old dof None) id)) None w.within

at_other : (old new : List (Option ℕ)) (dof id other : ℕ) → IsNotedAt old new dof id → (other ≡ dof → ⊥) → slice_index_or new other None ≡ slice_index_or old other None
at_other old new dof id other w e = ap (λ xs. slice_index_or xs other None) w.is ∙ get_or-set_other old dof other (Some (lesser (slice_index_or old dof None) id)) None e

-- the id is noted at these dofs, one after another
pub AreNoted : ℕ → List ℕ → List (Option ℕ) → List (Option ℕ) → Type 0
AreNoted id [] old new = new ≡ old
AreNoted id (dof ∷ dofs) old new = (mid : List (Option ℕ)) × (IsNotedAt old mid dof id × AreNoted id dofs mid new)

not_noted : (id : ℕ) (dofs : List ℕ) (old new : List (Option ℕ)) (dof : ℕ) → AreNoted id dofs old new → contains nat_eq dofs dof ≡ false → slice_index_or new dof None ≡ slice_index_or old dof None
unfolding AreNoted
not_noted id [] old new dof w e = ap (λ (xs : List (Option ℕ)). slice_index_or xs dof None) w
not_noted id (d ∷ dofs) old new dof w e =
    let parts = or_false (nat_eq d dof) (contains nat_eq dofs dof) e in
    not_noted id dofs w.0 new dof w.1.1 parts.1 ∙ at_other old w.0 d id dof w.1.0 (λ x. clash (nat_eq d dof) (same_test d dof (sym x)) parts.0)
  where
    or_false : (a b : Bool) → (a || b) ≡ false → (a ≡ false) × (b ≡ false)
    or_false true b h = absurd cc
    or_false false b h = (refl, h)

    same_test : (a b : ℕ) → a ≡ b → nat_eq a b ≡ true
    same_test a b h = ap (nat_eq a) (sym h) ∙ numbers_equal.itself a

was_noted : (id : ℕ) (dofs : List ℕ) (old new : List (Option ℕ)) (dof : ℕ) → AreNoted id dofs old new → contains nat_eq dofs dof ≡ true → slice_index_or new dof None ≡ Some (lesser (slice_index_or old dof None) id)
unfolding AreNoted
was_noted id [] old new dof w e = absurd cc
was_noted id (d ∷ dofs) old new dof w e =
    let mid : List (Option ℕ) = w.0 in
    let here : dof ≡ d → slice_index_or mid dof None ≡ Some (lesser (slice_index_or old dof None) id) =
    λ x. ap (λ k. slice_index_or mid k None) x ∙ at_noted old mid d id w.1.0 ∙ ap (λ k. Some (lesser (slice_index_or old k None) id)) (sym x) in
    elim (cases_Bool (contains nat_eq dofs dof)) [
      | inl t ↦ (let later = was_noted id dofs mid new dof w.1.1 t in
          later ∙ ⊎_elim (λ (x : dof ≡ d). ap (λ v. Some (lesser v id)) (here x) ∙ ap Some (lesser_twice (slice_index_or old dof None) id))
          (λ (x : dof ≡ d → ⊥). ap (λ v. Some (lesser v id)) (at_other old mid d id dof w.1.0 x)) (nat_decides dof d))
      | inr t ↦ (let same : nat_eq d dof ≡ true = first (nat_eq d dof) (contains nat_eq dofs dof) e t in
          not_noted id dofs mid new dof w.1.1 t ∙ here (sym (numbers_equal.equal d dof same)))
    ]
  where
    first : (a b : Bool) → (a || b) ≡ true → b ≡ false → a ≡ true
    first true b h k = refl
    first false b h k = absurd (clash b h k)

-- a face with a value is noted
pub face_noted : (degree : ℕ) (forest : RefinedMesh) (problem : ProblemParts) (seen : List Face) (face : Face) (old new : List (Option ℕ)) (id : ℕ) → has_value forest problem face ≡ true → id ≡ id_of forest face →
    AreNoted id (face_dofs degree forest face) old new → length new ≡ length old → HoldsLeast degree forest problem seen old → HoldsLeast degree forest problem (seen ++ face ∷ []) new
unfolding HoldsLeast lies_on
face_noted degree forest problem seen face old new id value is w len h dof within =
    let before : slice_index_or old dof None ≡ least (ids_among degree forest problem seen dof) = h dof (omega (arith, len, within)) in
    let on : Bool = contains nat_eq (face_dofs degree forest face) dof in
    elim (cases_Bool on) [
      | inl t ↦ was_noted id (face_dofs degree forest face) old new dof w t ∙ ap (λ x. Some (lesser x id)) before ∙ ap (λ x. Some (lesser (least (ids_among degree forest problem seen dof)) x)) is
          ∙ sym (least_noted degree forest problem seen face dof (and_all (has_value forest problem face) on value t))
      | inr t ↦ not_noted id (face_dofs degree forest face) old new dof w t ∙ before ∙ sym (least_kept degree forest problem seen face dof (and_none (has_value forest problem face) on t))
    ]

-- no face is seen yet
pub none_noted : (degree : ℕ) (forest : RefinedMesh) (problem : ProblemParts) (size : ℕ) → HoldsLeast degree forest problem [] (replicate size None)
unfolding HoldsLeast ids_among
none_noted degree forest problem size dof within = get_or-replicate size dof None None (omega (arith, within, length-replicate {A = Option ℕ} size None))

abbrev pub faces_below : ℕ → List Face
faces_below n = flat_map faces_of_cell (range_with_len 0 n)

range_more : (a n : ℕ) → range_with_len a (suc n) ≡ range_with_len a n ++ (a + n) ∷ []
range_more a zero = ap (λ x. x ∷ []) (let e : a ≡ a + 0 = omega arith in e)
range_more a (suc n) = ap (λ xs. a ∷ xs) (range_more (a + 1) n ∙ ap (λ x. range_with_len (a + 1) n ++ x ∷ []) (let e : a + 1 + n ≡ a + suc n = omega arith in e))

-- the faces of one more cell
pub faces_more : (n : ℕ) → faces_below (n + 1) ≡ faces_below n ++ (n, 0) ∷ (n, 1) ∷ (n, 2) ∷ (n, 3) ∷ []
faces_more n =
    let step : range_with_len 0 (n + 1) ≡ range_with_len 0 n ++ n ∷ [] =
    ap (range_with_len 0) (let e : n + 1 ≡ suc n = omega arith in e) ∙ range_more 0 n ∙ ap (λ x. range_with_len 0 n ++ x ∷ []) (let e : 0 + n ≡ n = omega arith in e) in
    ap (flat_map faces_of_cell) step ∙ flat_map-append faces_of_cell (range_with_len 0 n) (n ∷ []) ∙ ap (λ xs. faces_below n ++ xs) (append-nil (faces_of_cell n))

pub cell_noted : (degree : ℕ) (forest : RefinedMesh) (problem : ProblemParts) (n : ℕ) (ids : List (Option ℕ)) → HoldsLeast degree forest problem (faces_below n ++ (n, 0) ∷ (n, 1) ∷ (n, 2) ∷ (n, 3) ∷ []) ids → HoldsLeast degree forest problem (faces_below (n + 1)) ids
cell_noted degree forest problem n ids h = (let P : List Face → Type 0 = λ faces. HoldsLeast degree forest problem faces ids in subst P (sym (faces_more n)) h)

pub all_noted : (degree : ℕ) (forest : RefinedMesh) (problem : ProblemParts) (n : ℕ) (ids : List (Option ℕ)) → n ≡ length forest.cells → HoldsLeast degree forest problem (faces_below n) ids → HoldsLeast degree forest problem (all_faces forest) ids
unfolding all_faces
all_noted degree forest problem n ids e h = (let P : ℕ → Type 0 = λ k. HoldsLeast degree forest problem (faces_below k) ids in subst P e h)

-- the ids were noted at these dofs, which are those of the face
pub noted_by : (id : ℕ) (dofs told : List ℕ) (old new : List (Option ℕ)) → told ≡ dofs → AreNoted id told old new → AreNoted id dofs old new
noted_by id dofs told old new e w = subst (λ ds. AreNoted id ds old new) e w

pub two_noted : (id s e : ℕ) (old mid new : List (Option ℕ)) → IsNotedAt old mid s id → IsNotedAt mid new e id → AreNoted id (s ∷ e ∷ []) old new
unfolding AreNoted
two_noted id s e old mid new a b = (mid, (a, (new, (b, refl))))

pub three_noted : (id s e m : ℕ) (old first second new : List (Option ℕ)) → IsNotedAt old first s id → IsNotedAt first second e id → IsNotedAt second new m id → AreNoted id (s ∷ e ∷ m ∷ []) old new
unfolding AreNoted
three_noted id s e m old first second new a b c = (first, (a, (second, (b, (new, (c, refl))))))

at_row : (row rows_at : List ℕ) (i v : ℕ) → row ≡ rows_at → i ≡ v → slice_index row i ≡ slice_index rows_at v
at_row row rows_at i v e h = ap (λ (r : List ℕ). slice_index r i) e ∙ ap (slice_index rows_at) h

pair_is : (a b x y : ℕ) (rest : List ℕ) → a ≡ x → b ≡ y → a ∷ b ∷ rest ≡ x ∷ y ∷ rest
pair_is a b x y rest e h = cc

-- the dofs of a face, as the table of dofs has them
pub dofs_are : (forest : RefinedMesh) (dofs : Numbering) → IsNumberingOf forest dofs → (dofs.degree == 2) ≡ false → (c f : ℕ) (row : List ℕ) (s e : ℕ) → c < length forest.cells → f < 4 → row ≡ slice_index_or dofs.cells c [] → s ≡ face_start f → e ≡ face_end f →
    slice_index row s ∷ slice_index row e ∷ [] ≡ face_dofs dofs.degree forest (c, f)
dofs_are forest dofs is one c f row s e hc hf at es ee =
    let a = at_row row _ s (face_start f) at es ∙ is.cells c (face_start f) hc (start_less f hf) in
    let b = at_row row _ e (face_end f) at ee ∙ is.cells c (face_end f) hc (end_less f hf) in
    let x : ℕ = corner_dof dofs.degree forest c (face_start f) in let y : ℕ = corner_dof dofs.degree forest c (face_end f) in
    let last : Bool → List ℕ = λ t. cond t (middle_dof forest c f ∷ []) [] in
    pair_is (slice_index row s) (slice_index row e) x y [] a b ∙ ap (λ t. x ∷ y ∷ last t) (sym one)

pub three_are : (forest : RefinedMesh) (dofs : Numbering) → IsNumberingOf forest dofs → dofs.degree ≡ 2 → (c f : ℕ) (row : List ℕ) (s e m : ℕ) → c < length forest.cells → f < 4 → row ≡ slice_index_or dofs.cells c [] → s ≡ face_start f → e ≡ face_end f → m ≡ 4 + f →
    slice_index row s ∷ slice_index row e ∷ slice_index row m ∷ [] ≡ face_dofs dofs.degree forest (c, f)
three_are forest dofs is two c f row s e m hc hf at es ee em =
    let a = at_row row _ s (face_start f) at es ∙ is.cells c (face_start f) hc (start_less f hf) in
    let b = at_row row _ e (face_end f) at ee ∙ is.cells c (face_end f) hc (end_less f hf) in
    let z : slice_index row m ≡ middle_dof forest c f = at_row row _ m (4 + f) at em ∙ is.middles c f two hc hf in
    let x : ℕ = corner_dof dofs.degree forest c (face_start f) in let y : ℕ = corner_dof dofs.degree forest c (face_end f) in
    let last : Bool → List ℕ = λ t. cond t (middle_dof forest c f ∷ []) [] in
    let test : (dofs.degree == 2) ≡ true = ap (λ d. d == 2) two in
    pair_is (slice_index row s) (slice_index row e) x y (slice_index row m ∷ []) a b ∙ ap (λ k. x ∷ y ∷ k ∷ []) z ∙ ap (λ t. x ∷ y ∷ last t) (sym test)

-- they are below the number of dofs
pub within_size : (forest : RefinedMesh) (dofs : Numbering) → IsNumberingOf forest dofs → (c place dof : ℕ) (row : List ℕ) → c < length forest.cells → place < names_each dofs.degree → row ≡ slice_index_or dofs.cells c [] → dof ≡ slice_index row place → dof < dofs.size
within_size forest dofs is c place dof row hc hp at e =
    let w : cell_dof dofs c place < dofs.size = (dofs_of_corners forest dofs is).below c place hc hp in
    let same : dof ≡ cell_dof dofs c place = e ∙ ap (λ (r : List ℕ). slice_index r place) at in omega arith

pub vertex_within : (forest : RefinedMesh) (dofs : Numbering) → IsNumberingOf forest dofs → (c v dof : ℕ) (row : List ℕ) → c < length forest.cells → v < 4 → row ≡ slice_index_or dofs.cells c [] → dof ≡ slice_index row v → dof < dofs.size
vertex_within forest dofs is c v dof row hc hv at e =
    let four = four_each dofs.degree is.degree in within_size forest dofs is c v dof row hc (omega arith) at e

pub middle_within : (forest : RefinedMesh) (dofs : Numbering) → IsNumberingOf forest dofs → dofs.degree ≡ 2 → (c f dof : ℕ) (row : List ℕ) → c < length forest.cells → f < 4 → row ≡ slice_index_or dofs.cells c [] → dof ≡ slice_index row (4 + f) → dof < dofs.size
middle_within forest dofs is two c f dof row hc hf at e =
    let nine : names_each dofs.degree ≡ 9 = ap names_each two in within_size forest dofs is c (4 + f) dof row hc (omega arith) at e

pub not_two : (degree : ℕ) → (degree ≡ 1) ⊎ (degree ≡ 2) → (degree ≡ 2 → ⊥) → (degree == 2) ≡ false
not_two degree d apart = ⊎_elim (λ (e : degree ≡ 1). ap (λ k. k == 2) e) (λ (e : degree ≡ 2). absurd (apart e)) d
