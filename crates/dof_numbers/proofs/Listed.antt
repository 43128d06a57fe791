-- Which names stand in the list, and where.
use Rattle.std.proofs.Common.{◌≡◌, ◌∙◌, sym, ap, refl, subst, ℕ, zero, suc, ◌+◌, ◌<◌, ◌≤◌, List, [], ◌∷◌, ◌++◌, Bool, true, false, cond, length, take, drop, map, slice_index_or, append-nil, arith, inl, inr, ⊎_elim}
use Rattle.std.specs.Prelude.{◌==◌}
use Rattle.std.specs.List.{flat_map}
use Rattle.std.proofs.lemmas.Bool.{cases_Bool}
use Rattle.std.proofs.lemmas.List.{take_more, get_or-take, length-take-le}
use Rattle.std.proofs.lemmas.List.Concat.{flat_map-append}
use Rattle.corner_names.specs.Names.{Cell, root, Name, node, centre}
use Rattle.corner_names.specs.Cells.{vertex, mid}
use Rattle.corner_names.proofs.Distinct.{eq_true}
use Rattle.corner_names.proofs.Across.{nat_decides}
use Rattle.corner_names.proofs.Active.{or_true, or_left, or_right}
use Rattle.quad_mesh.specs.Mesh.{CoarseMesh}
use Rattle.hanging_refine.specs.Coarse.{corner_at}
use Rattle.hanging_refine.specs.Refined.{RefinedMesh, active_cells, cell_at, cell_in, named}
use Rattle.hanging_refine.proofs.Lists.{map_length}
use Rattle.fem_fixed.specs.Lists.{contains, rank_of}
use Rattle.fem_fixed.proofs.Occurrences.{contains-append, contains_more, contains_last, rank_stays}
use Rattle.dof_numbers.specs.Dofs.{same_name, vertex_names, middle_names, cell_names, name_list, name_dof}
use Rattle.dof_numbers.specs.Table.{seen_below}
use Rattle.dof_numbers.proofs.Names.{names_equal}

pub past : (n : ℕ) → suc (suc (suc (suc n))) < 4 → ⊥
past n h = omega arith

-- a list of four by its places
pub at_four : (g : ℕ → Name) (v : ℕ) → v < 4 → slice_index_or (map g (0 ∷ 1 ∷ 2 ∷ 3 ∷ [])) v (node 0) ≡ g v
at_four g zero b = refl
at_four g (suc zero) b = refl
at_four g (suc (suc zero)) b = refl
at_four g (suc (suc (suc zero))) b = refl
at_four g (suc (suc (suc (suc n)))) b = absurd (past n b)

-- what stands in a place is in the list, and what is in the list stands in a place
pub contains_at : (xs : List Name) (i : ℕ) → i < length xs → contains same_name xs (slice_index_or xs i (node 0)) ≡ true
contains_at [] i h = absurd (omega arith)
contains_at (y ∷ ys) zero h = or_left (same_name y y) (contains same_name ys y) (names_equal.itself y)
contains_at (y ∷ ys) (suc i) h =
    let x = slice_index_or ys i (node 0) in or_right (same_name y x) (contains same_name ys x) (contains_at ys i (omega arith))

pub record PlaceIn (xs : List Name) (x : Name) : Type 0 where
  pub place : ℕ
  pub within : place < length xs
  pub is : slice_index_or xs place (node 0) ≡ x

pub place_in : (xs : List Name) (x : Name) → contains same_name xs x ≡ true → PlaceIn xs x
place_in [] x h = absurd cc
place_in (y ∷ ys) x h = elim (or_true (same_name y x) (contains same_name ys x) h) [
  | inl e ↦ record { place = 0; within = omega arith; is = names_equal.equal y x e }
  | inr e ↦ (let p = place_in ys x e in
      let w : p.place < length ys = p.within in
      record { place = suc p.place; within = omega arith; is = p.is })
]

pub four_has : (g : ℕ → Name) (v : ℕ) → v < 4 → contains same_name (map g (0 ∷ 1 ∷ 2 ∷ 3 ∷ [])) (g v) ≡ true
four_has g v b =
    let xs : List Name = map g (0 ∷ 1 ∷ 2 ∷ 3 ∷ []) in
    ap (contains same_name xs) (sym (at_four g v b)) ∙ contains_at xs v (omega arith)

-- which of the names of a cell a name is
pub data CellName (degree : ℕ) (mesh : CoarseMesh) (cell : Cell) (x : Name) : Type 0 where
  a_vertex : (v : ℕ) → v < 4 → vertex (corner_at mesh) cell v ≡ x → CellName degree mesh cell x
  a_middle : (f : ℕ) → degree ≡ 2 → f < 4 → mid (corner_at mesh) cell f ≡ x → CellName degree mesh cell x
  a_centre : degree ≡ 2 → centre cell ≡ x → CellName degree mesh cell x

pub vertex_is : (mesh : CoarseMesh) (cell : Cell) (x : Name) → contains same_name (vertex_names mesh cell) x ≡ true → (v : ℕ) × ((v < 4) × (vertex (corner_at mesh) cell v ≡ x))
vertex_is mesh cell x h =
    let p = place_in (vertex_names mesh cell) x h in
    let b : p.place < 4 = p.within in
    (p.place, (b, sym (at_four (vertex (corner_at mesh) cell) p.place b) ∙ p.is))

pub cell_name_is : (degree : ℕ) (mesh : CoarseMesh) (cell : Cell) (x : Name) → contains same_name (cell_names degree mesh cell) x ≡ true → CellName degree mesh cell x
cell_name_is degree mesh cell x h =
    let more : Bool → List Name = λ b. cond b (middle_names mesh cell ++ centre cell ∷ []) [] in
    elim (or_true (contains same_name (vertex_names mesh cell) x) (contains same_name (more (degree == 2)) x) (sym (contains-append same_name (vertex_names mesh cell) (more (degree == 2)) x) ∙ h)) [
      | inl e ↦ (let t = vertex_is mesh cell x e in a_vertex t.0 t.1.0 t.1.1)
      | inr e ↦ elim (cases_Bool (degree == 2)) [
        | inl two ↦ (let k : contains same_name (middle_names mesh cell ++ centre cell ∷ []) x ≡ true = sym (ap (λ b. contains same_name (more b) x) two) ∙ e in
            elim (or_true (contains same_name (middle_names mesh cell) x) (contains same_name (centre cell ∷ []) x) (sym (contains-append same_name (middle_names mesh cell) (centre cell ∷ []) x) ∙ k)) [
              | inl m ↦ (let p = place_in (middle_names mesh cell) x m in
                  let b : p.place < 4 = p.within in
                  a_middle p.place (eq_true degree 2 two) b (sym (at_four (mid (corner_at mesh) cell) p.place b) ∙ p.is))
              | inr m ↦ elim (or_true (same_name (centre cell) x) false m) [
                | inl s ↦ a_centre (eq_true degree 2 two) (names_equal.equal (centre cell) x s)
                | inr s ↦ absurd cc
              ]
            ])
        | inr two ↦ (let k : contains same_name [] x ≡ true = sym (ap (λ b. contains same_name (more b) x) two) ∙ e in absurd cc)
      ]
    ]

-- the names of a cell are among them
pub has_vertex : (degree : ℕ) (mesh : CoarseMesh) (cell : Cell) (v : ℕ) → v < 4 → contains same_name (cell_names degree mesh cell) (vertex (corner_at mesh) cell v) ≡ true
has_vertex degree mesh cell v b =
    contains_more same_name (vertex_names mesh cell) (cond (degree == 2) (middle_names mesh cell ++ centre cell ∷ []) []) (vertex (corner_at mesh) cell v) (four_has (vertex (corner_at mesh) cell) v b)

pub has_later : (xs ys : List Name) (x : Name) → contains same_name ys x ≡ true → contains same_name (xs ++ ys) x ≡ true
has_later xs ys x h = contains-append same_name xs ys x ∙ or_right (contains same_name xs x) (contains same_name ys x) h

pub has_middle : (mesh : CoarseMesh) (cell : Cell) (f : ℕ) → f < 4 → contains same_name (cell_names 2 mesh cell) (mid (corner_at mesh) cell f) ≡ true
has_middle mesh cell f b =
    let x : Name = mid (corner_at mesh) cell f in
    has_later (vertex_names mesh cell) (middle_names mesh cell ++ centre cell ∷ []) x
    (contains_more same_name (middle_names mesh cell) (centre cell ∷ []) x (four_has (mid (corner_at mesh) cell) f b))

pub has_centre : (mesh : CoarseMesh) (cell : Cell) → contains same_name (cell_names 2 mesh cell) (centre cell) ≡ true
has_centre mesh cell =
    has_later (vertex_names mesh cell) (middle_names mesh cell ++ centre cell ∷ []) (centre cell) (contains_last names_equal (middle_names mesh cell) (centre cell))

pub len_is : (forest : RefinedMesh) → length (map named forest.cells) ≡ length forest.cells
len_is forest = map_length named forest.cells

-- the names of one cell more
pub seen_more : (degree : ℕ) (forest : RefinedMesh) (c : ℕ) → c < length forest.cells → seen_below degree forest (c + 1) ≡ seen_below degree forest c ++ cell_names degree forest.mesh (cell_at forest c)
unfolding seen_below
seen_more degree forest c h =
    let len = len_is forest in
    ap (flat_map (cell_names degree forest.mesh)) (take_more (active_cells forest) c (root 0) (omega arith))
    ∙ flat_map-append (cell_names degree forest.mesh) (take c (active_cells forest)) (cell_at forest c ∷ [])
    ∙ ap (λ ys. flat_map (cell_names degree forest.mesh) (take c (active_cells forest)) ++ ys) (append-nil (cell_names degree forest.mesh (cell_at forest c)))

pub take_drop : {X : Type 0} (i : ℕ) (xs : List X) → take i xs ++ drop i xs ≡ xs
take_drop zero xs = refl
take_drop (suc i) [] = refl
take_drop (suc i) (x ∷ xs) = ap (λ ys. x ∷ ys) (take_drop i xs)

-- the names of the first cells stand at the front
pub front : (degree : ℕ) (forest : RefinedMesh) (i : ℕ) → name_list degree forest ≡ seen_below degree forest i ++ flat_map (cell_names degree forest.mesh) (drop i (active_cells forest))
unfolding name_list seen_below
front degree forest i =
    sym (ap (flat_map (cell_names degree forest.mesh)) (take_drop i (active_cells forest)))
    ∙ flat_map-append (cell_names degree forest.mesh) (take i (active_cells forest)) (drop i (active_cells forest))

drop_all : (xs : List Cell) → drop (length xs) xs ≡ []
drop_all [] = refl
drop_all (x ∷ xs) = drop_all xs

pub all_seen : (degree : ℕ) (forest : RefinedMesh) → seen_below degree forest (length forest.cells) ≡ name_list degree forest
all_seen degree forest =
    let len : length forest.cells ≡ length (map named forest.cells) = sym (len_is forest) in
    let s = seen_below degree forest (length forest.cells) in
    sym (front degree forest (length forest.cells)
    ∙ ap (λ xs. s ++ flat_map (cell_names degree forest.mesh) xs) (ap (λ n. drop n (active_cells forest)) len ∙ drop_all (active_cells forest)) ∙ append-nil s)

pub none_seen : (degree : ℕ) (forest : RefinedMesh) → seen_below degree forest 0 ≡ []
unfolding seen_below
none_seen degree forest = refl

-- a name of a cell
abbrev pub IsIn : ℕ → RefinedMesh → ℕ → Name → Type 0
IsIn degree forest c x = contains same_name (cell_names degree forest.mesh (cell_at forest c)) x ≡ true

pub last_cell : (degree : ℕ) (forest : RefinedMesh) (c : ℕ) (x : Name) → c < length forest.cells → IsIn degree forest c x → contains same_name (seen_below degree forest (c + 1)) x ≡ true
last_cell degree forest c x h is =
    ap (λ l. contains same_name l x) (seen_more degree forest c h) ∙ has_later (seen_below degree forest c) (cell_names degree forest.mesh (cell_at forest c)) x is

pub earlier : (degree : ℕ) (forest : RefinedMesh) (d c : ℕ) (x : Name) → d < c → c ≤ length forest.cells → IsIn degree forest d x → contains same_name (seen_below degree forest c) x ≡ true
earlier degree forest d zero x l h is = absurd (omega arith)
earlier degree forest d (suc c) x l h is =
    let one : suc c ≡ c + 1 = omega arith in
    let inside : c < length forest.cells = omega arith in
    ap (λ n. contains same_name (seen_below degree forest n) x) one
    ∙ ⊎_elim
    (λ (e : d ≡ c). last_cell degree forest c x inside (let P : ℕ → Type 0 = λ i. IsIn degree forest i x in subst P e is))
    (λ (e : d ≡ c → ⊥). ap (λ l. contains same_name l x) (seen_more degree forest c inside)
    ∙ contains_more same_name (seen_below degree forest c) (cell_names degree forest.mesh (cell_at forest c)) x (earlier degree forest d c x (less d c l e) (omega arith) is))
    (nat_decides d c)
  where
    less : (a b : ℕ) → a < suc b → (a ≡ b → ⊥) → a < b
    less a b h e = grind arith

pub is_listed : (degree : ℕ) (forest : RefinedMesh) (c : ℕ) (x : Name) → c < length forest.cells → IsIn degree forest c x → contains same_name (name_list degree forest) x ≡ true
is_listed degree forest c x h is =
    ap (λ l. contains same_name l x) (front degree forest (c + 1))
    ∙ contains_more same_name (seen_below degree forest (c + 1)) (flat_map (cell_names degree forest.mesh) (drop (c + 1) (active_cells forest))) x (last_cell degree forest c x h is)

-- the dof that a name has at the front of the list is the dof that it keeps
pub kept_dof : (degree : ℕ) (forest : RefinedMesh) (seen rest : List Name) (x : Name) → name_list degree forest ≡ seen ++ rest → contains same_name seen x ≡ true → rank_of same_name seen x ≡ name_dof degree forest x
kept_dof degree forest seen rest x e h = sym (rank_stays same_name seen rest x h) ∙ ap (λ l. rank_of same_name l x) (sym e)

-- a cell of the list that has a name
pub record CellOf (degree : ℕ) (mesh : CoarseMesh) (cells : List Cell) (x : Name) : Type 0 where
  pub cell : ℕ
  pub within : cell < length cells
  pub is : CellName degree mesh (cell_in cells cell) x

pub cell_of_name : (degree : ℕ) (mesh : CoarseMesh) (cells : List Cell) (x : Name) → contains same_name (flat_map (cell_names degree mesh) cells) x ≡ true → CellOf degree mesh cells x
cell_of_name degree mesh [] x h = absurd cc
cell_of_name degree mesh (c ∷ cells) x h =
    elim (or_true (contains same_name (cell_names degree mesh c) x) (contains same_name (flat_map (cell_names degree mesh) cells) x)
    (sym (contains-append same_name (cell_names degree mesh c) (flat_map (cell_names degree mesh) cells) x) ∙ h)) [
      | inl e ↦ record { cell = 0; within = omega arith; is = cell_name_is degree mesh c x e }
      | inr e ↦ (let p = cell_of_name degree mesh cells x e in
          let within : p.cell < length cells = p.within in
          record { cell = suc p.cell; within = omega arith; is = p.is })
    ]

-- a cell before one that has a name
pub record CellBelow (degree : ℕ) (forest : RefinedMesh) (c : ℕ) (x : Name) : Type 0 where
  pub cell : ℕ
  pub before : cell < c
  pub is : CellName degree forest.mesh (cell_at forest cell) x

pub cell_below : (degree : ℕ) (forest : RefinedMesh) (c : ℕ) (x : Name) → c ≤ length forest.cells → contains same_name (seen_below degree forest c) x ≡ true → CellBelow degree forest c x
unfolding seen_below
cell_below degree forest c x b h =
    let len = len_is forest in
    let p = cell_of_name degree forest.mesh (take c (active_cells forest)) x h in
    let few : length (take c (active_cells forest)) ≡ c = length-take-le c (active_cells forest) (omega arith) in
    let w : p.cell < length (take c (active_cells forest)) = p.within in
    let before : p.cell < c = omega arith in
    let same : cell_in (take c (active_cells forest)) p.cell ≡ cell_at forest p.cell = get_or-take c (active_cells forest) p.cell (root 0) before in
    record { cell = p.cell; before = before; is = (let P : Cell → Type 0 = λ z. CellName degree forest.mesh z x in subst P same p.is) }
