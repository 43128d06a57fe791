-- One middle, one centre and one cell more, with degree 2.
use Rattle.std.proofs.Common.{◌≡◌, ◌∙◌, sym, ap, refl, subst, ℕ, zero, suc, ◌+◌, ◌<◌, List, [], ◌∷◌, ◌++◌, true, cond, length, take, drop, slice_index, slice_index_or, append_assoc, append-nil, arith}
use Rattle.std.specs.Prelude.{Some, unwrap_or, ◌==◌}
use Rattle.std.specs.declared.option.Option.{Option}
use Rattle.std.specs.List.{flat_map}
use Rattle.std.proofs.lemmas.List.{take_more}
use Rattle.corner_names.specs.Names.{Name, node}
use Rattle.corner_names.specs.Cells.{Corners, mid}
use Rattle.corner_names.proofs.Cover.{pair_mid}
use Rattle.hanging_refine.specs.declared.sides.ActiveSide.{ActiveSide}
use Rattle.hanging_refine.specs.declared.sides.ActiveSide.TheVariants.{Equal}
use Rattle.hanging_refine.specs.Coarse.{corner_at}
use Rattle.hanging_refine.specs.Refined.{RefinedMesh, active_cells, cell_at}
use Rattle.hanging_refine.specs.Numbered.{AreNamedBy, corner_name}
use Rattle.hanging_refine.specs.Sides.{IsSideOf, MeetsOnly}
use Rattle.hanging_refine.specs.Grown.{IsGrown}
use Rattle.fem_fixed.specs.Lists.{contains, rank_of}
use Rattle.fem_fixed.proofs.Occurrences.{contains_last, contains_more}
use Rattle.dof_numbers.specs.Dofs.{same_name, vertex_names, middle_names, cell_names, name_list, name_dof, middle_name, centre_name, middle_dof, centre_dof}
use Rattle.dof_numbers.specs.Middles.{IsVertexNumber}
use Rattle.dof_numbers.specs.Table.{corner, Holds, seen_below, seen_faces, HaveMiddles, IsRow}
use Rattle.dof_numbers.proofs.Names.{names_equal}
use Rattle.dof_numbers.proofs.Held.{held_more, held_fresh, held_again}
use Rattle.dof_numbers.proofs.Listed.{past, at_four, front, seen_more, take_drop, has_middle, earlier, kept_dof}
use Rattle.dof_numbers.proofs.Rows.{corner_final}
use Rattle.dof_numbers.proofs.Fresh.{IsFirst, middle_new, centre_new}

-- the names up to a middle stand at the front
faces_front : (forest : RefinedMesh) (c f : ℕ) → c < length forest.cells → (rest : List Name) × (name_list 2 forest ≡ seen_faces forest c f ++ rest)
unfolding seen_faces
faces_front forest c f h =
    let s : List Name = seen_below 2 forest c in
    let v : List Name = vertex_names forest.mesh (cell_at forest c) in
    let m : List Name = middle_names forest.mesh (cell_at forest c) in
    let z : List Name = centre_name forest c ∷ [] in
    let t : List Name = flat_map (cell_names 2 forest.mesh) (drop (c + 1) (active_cells forest)) in
    let a : List Name = take f m in let b : List Name = drop f m in
    let e : name_list 2 forest ≡ (s ++ (v ++ (m ++ z))) ++ t = front 2 forest (c + 1) ∙ ap (λ l. l ++ t) (seen_more 2 forest c h) in
    let split : m ≡ a ++ b = sym (take_drop f m) in
    (b ++ (z ++ t), e ∙ ap (λ l. (s ++ (v ++ (l ++ z))) ++ t) split ∙ regroup s v a b z t)
  where
    regroup : (s v a b z t : List Name) → (s ++ (v ++ ((a ++ b) ++ z))) ++ t ≡ ((s ++ v) ++ a) ++ (b ++ (z ++ t))
    regroup s v a b z t =
        append_assoc s (v ++ ((a ++ b) ++ z)) t
        ∙ ap (λ l. s ++ l) (append_assoc v ((a ++ b) ++ z) t
        ∙ ap (λ l. v ++ l) (append_assoc (a ++ b) z t ∙ append_assoc a b (z ++ t)))
        ∙ sym (append_assoc (s ++ v) a (b ++ (z ++ t)) ∙ append_assoc s v (a ++ (b ++ (z ++ t))))

pub faces_more : (forest : RefinedMesh) (c f : ℕ) → f < 4 → seen_faces forest c (f + 1) ≡ seen_faces forest c f ++ middle_name forest c f ∷ []
unfolding seen_faces
faces_more forest c f b =
    let m : List Name = middle_names forest.mesh (cell_at forest c) in
    let four : length m ≡ 4 = refl in
    let s : List Name = seen_below 2 forest c ++ vertex_names forest.mesh (cell_at forest c) in
    ap (λ l. s ++ l) (take_more m f (node 0) (omega arith) ∙ ap (λ x. take f m ++ x ∷ []) (at_four (mid (corner_at forest.mesh) (cell_at forest c)) f b))
    ∙ sym (append_assoc s (take f m) (middle_name forest c f ∷ []))

pub no_faces : (forest : RefinedMesh) (c : ℕ) → seen_faces forest c 0 ≡ seen_below 2 forest c ++ vertex_names forest.mesh (cell_at forest c)
unfolding seen_faces
no_faces forest c = append-nil (seen_below 2 forest c ++ vertex_names forest.mesh (cell_at forest c))

pub all_faces : (forest : RefinedMesh) (c : ℕ) → c < length forest.cells → seen_faces forest c 4 ++ centre_name forest c ∷ [] ≡ seen_below 2 forest (c + 1)
unfolding seen_faces
all_faces forest c h =
    let s : List Name = seen_below 2 forest c in
    let v : List Name = vertex_names forest.mesh (cell_at forest c) in
    let m : List Name = middle_names forest.mesh (cell_at forest c) in
    let z : List Name = centre_name forest c ∷ [] in
    append_assoc (s ++ v) m z ∙ append_assoc s v (m ++ z) ∙ sym (seen_more 2 forest c h)

-- a table with the middle of face f, and the dof of that middle
pub record MiddleHeld (forest : RefinedMesh) (c f : ℕ) (told_of : ℕ → Option ℕ) (size dof : ℕ) : Type 0 where
  pub holds : Holds forest (seen_faces forest c (f + 1)) told_of size
  pub is : dof ≡ middle_dof forest c f

-- what is so with one name more
middle_by : (forest : RefinedMesh) (c f : ℕ) (told_of : ℕ → Option ℕ) (size dof : ℕ) → c < length forest.cells → f < 4 → Holds forest (seen_faces forest c f ++ middle_name forest c f ∷ []) told_of size →
    dof ≡ rank_of same_name (seen_faces forest c f ++ middle_name forest c f ∷ []) (middle_name forest c f) → MiddleHeld forest c f told_of size dof
middle_by forest c f told_of size dof h b holds rank =
    let x : Name = middle_name forest c f in
    let e : seen_faces forest c f ++ x ∷ [] ≡ seen_faces forest c (f + 1) = sym (faces_more forest c f b) in
    let P : List Name → Type 0 = λ l. Holds forest l told_of size in
    let t = faces_front forest c (f + 1) h in
    record {
      holds = subst P e holds;
      is = rank ∙ ap (λ l. rank_of same_name l x) e
          ∙ kept_dof 2 forest (seen_faces forest c (f + 1)) t.0 x t.1 (ap (λ l. contains same_name l x) (sym e) ∙ contains_last names_equal (seen_faces forest c f) x);
    }

pub middle_first : (forest : RefinedMesh) → IsGrown forest → (c f : ℕ) (side : ActiveSide) (told_of : ℕ → Option ℕ) (size : ℕ) → c < length forest.cells → f < 4 → IsSideOf forest c f side → MeetsOnly forest c f side → IsFirst c side →
    Holds forest (seen_faces forest c f) told_of size → MiddleHeld forest c f told_of (size + 1) size
middle_first forest w c f side told_of size h b says only first holds =
    let x : Name = middle_name forest c f in
    let n = middle_new forest w c f side h b says only first in
    let t = held_fresh forest (seen_faces forest c f) told_of size x holds n.new n.numberless in
    middle_by forest c f told_of (size + 1) size h b t.0 t.1

pub middle_numbered : (forest : RefinedMesh) → AreNamedBy forest → (c f n : ℕ) (told_of now : ℕ → Option ℕ) (size next dof : ℕ) → c < length forest.cells → f < 4 → IsVertexNumber forest (middle_name forest c f) n →
    Holds forest (seen_faces forest c f) told_of size → dof ≡ unwrap_or (told_of n) size → ((q : ℕ) → now q ≡ cond (q == n) (Some dof) (told_of q)) → next ≡ cond (dof == size) (size + 1) size →
    MiddleHeld forest c f now next dof
middle_numbered forest a c f n told_of now size next dof h b is holds value table more =
    let t = held_more forest a (seen_faces forest c f) told_of now size next n dof (middle_name forest c f) holds (corner is.cell is.v is.within is.is_vertex is.number is.name) value table more in
    middle_by forest c f now next dof h b t.0 t.1

seen_there : (forest : RefinedMesh) (c f : ℕ) (x : Name) → contains same_name (seen_below 2 forest c) x ≡ true → contains same_name (seen_faces forest c f) x ≡ true
unfolding seen_faces
seen_there forest c f x h =
    let s : List Name = seen_below 2 forest c in
    let v : List Name = vertex_names forest.mesh (cell_at forest c) in
    contains_more same_name (s ++ v) (take f (middle_names forest.mesh (cell_at forest c))) x (contains_more same_name s v x h)

pub middle_again : (forest : RefinedMesh) (c f j g : ℕ) (rows : List (List ℕ)) (told_of : ℕ → Option ℕ) (size dof : ℕ) → c < length forest.cells → f < 4 → j < c → g < 4 → IsSideOf forest c f (Equal j g) → HaveMiddles forest c rows →
    dof ≡ slice_index (slice_index_or rows j []) (4 + g) → Holds forest (seen_faces forest c f) told_of size → MiddleHeld forest c f told_of size dof
middle_again forest c f j g rows told_of size dof h b before hg says middles is holds =
    let m : Corners = corner_at forest.mesh in
    let x : Name = middle_name forest c f in
    let same : middle_name forest j g ≡ x = sym (pair_mid m (cell_at forest c) (cell_at forest j) f g says.3) in
    let there : contains same_name (seen_faces forest c f) x ≡ true = ap (contains same_name (seen_faces forest c f)) (sym same) ∙ seen_there forest c f (middle_name forest j g)
    (earlier 2 forest j c (middle_name forest j g) before (omega arith) (has_middle forest.mesh (cell_at forest j) g hg)) in
    let e : seen_faces forest c f ++ x ∷ [] ≡ seen_faces forest c (f + 1) = sym (faces_more forest c f b) in
    let P : List Name → Type 0 = λ l. Holds forest l told_of size in
    record { holds = subst P e (held_again forest (seen_faces forest c f) told_of size x holds there); is = is ∙ middles j g before hg ∙ ap (name_dof 2 forest) same }

-- the table with a whole cell, and the dof of its centre
pub record CentreHeld (forest : RefinedMesh) (c : ℕ) (told_of : ℕ → Option ℕ) (size dof : ℕ) : Type 0 where
  pub holds : Holds forest (seen_below 2 forest (c + 1)) told_of size
  pub is : dof ≡ centre_dof forest c

pub centre_first : (forest : RefinedMesh) → IsGrown forest → (c : ℕ) (told_of : ℕ → Option ℕ) (size : ℕ) → c < length forest.cells → Holds forest (seen_faces forest c 4) told_of size → CentreHeld forest c told_of (size + 1) size
centre_first forest w c told_of size h holds =
    let x : Name = centre_name forest c in
    let n = centre_new forest w c h in
    let t = held_fresh forest (seen_faces forest c 4) told_of size x holds n.new n.numberless in
    let e : seen_faces forest c 4 ++ x ∷ [] ≡ seen_below 2 forest (c + 1) = all_faces forest c h in
    let P : List Name → Type 0 = λ l. Holds forest l told_of (size + 1) in
    let rest : List Name = flat_map (cell_names 2 forest.mesh) (drop (c + 1) (active_cells forest)) in
    record {
      holds = subst P e t.0;
      is = t.1 ∙ ap (λ l. rank_of same_name l x) e
          ∙ kept_dof 2 forest (seen_below 2 forest (c + 1)) rest x (front 2 forest (c + 1)) (ap (λ l. contains same_name l x) (sym e) ∙ contains_last names_equal (seen_faces forest c 4) x);
    }

-- the vertices of a cell
pub vertices_first : (forest : RefinedMesh) (c : ℕ) (told_of : ℕ → Option ℕ) (size : ℕ) → Holds forest (seen_below 2 forest c ++ vertex_names forest.mesh (cell_at forest c)) told_of size → Holds forest (seen_faces forest c 0) told_of size
vertices_first forest c told_of size h =
    let P : List Name → Type 0 = λ l. Holds forest l told_of size in subst P (sym (no_faces forest c)) h

-- the nine dofs together
pub nine_row : (forest : RefinedMesh) (c : ℕ) (vertices : List ℕ) (left right bottom top middle : ℕ) → c < length forest.cells →
    ((v : ℕ) → v < 4 → slice_index vertices v ≡ rank_of same_name (seen_below 2 forest c ++ vertex_names forest.mesh (cell_at forest c)) (corner_name forest c v)) →
    left ≡ middle_dof forest c 0 → right ≡ middle_dof forest c 1 → bottom ≡ middle_dof forest c 2 → top ≡ middle_dof forest c 3 → middle ≡ centre_dof forest c →
    IsRow forest c (slice_index vertices 0 ∷ slice_index vertices 1 ∷ slice_index vertices 2 ∷ slice_index vertices 3 ∷ left ∷ right ∷ bottom ∷ top ∷ middle ∷ [])
nine_row forest c vertices left right bottom top middle h at l r b t z = record {
  corners = λ v k. by_vertex v k ∙ corner_final 2 forest c v (slice_index vertices v) h k (at v k);
  middles = by_face;
  centre = z;
}
  where
    row : List ℕ
    row = slice_index vertices 0 ∷ slice_index vertices 1 ∷ slice_index vertices 2 ∷ slice_index vertices 3 ∷ left ∷ right ∷ bottom ∷ top ∷ middle ∷ []

    by_vertex : (v : ℕ) → v < 4 → slice_index row v ≡ slice_index vertices v
    by_vertex zero k = refl
    by_vertex (suc zero) k = refl
    by_vertex (suc (suc zero)) k = refl
    by_vertex (suc (suc (suc zero))) k = refl
    by_vertex (suc (suc (suc (suc n)))) k = absurd (past n k)

    by_face : (f : ℕ) → f < 4 → slice_index row (4 + f) ≡ middle_dof forest c f
    by_face zero k = l
    by_face (suc zero) k = r
    by_face (suc (suc zero)) k = b
    by_face (suc (suc (suc zero))) k = t
    by_face (suc (suc (suc (suc n)))) k = absurd (past n k)
