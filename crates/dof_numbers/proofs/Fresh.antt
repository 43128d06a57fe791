-- Which middles and which centres come for the first time.
use Rattle.std.proofs.Common.{◌≡◌, ◌∙◌, sym, ap, refl, ℕ, ◌<◌, ◌≤◌, List, ◌++◌, true, false, length, take, inl, inr, ⊎_elim, arith}
use Rattle.std.proofs.lemmas.List.{get_or-take, length-take-le}
use Rattle.corner_names.specs.Names.{Cell, Name, node, centre}
use Rattle.corner_names.specs.Cells.{Corners, mid}
use Rattle.corner_names.proofs.Names.{middle_of-centre}
use Rattle.corner_names.proofs.Across.{mid_pair, mid_node, mid_one}
use Rattle.corner_names.specs.Forest.{MeetAt}
use Rattle.corner_names.specs.Active.{refined_by}
use Rattle.corner_names.proofs.Active.{or_true, clash, not_true}
use Rattle.corner_names.proofs.Lower.{half_not_same}
use Rattle.hanging_refine.specs.declared.sides.ActiveSide.{ActiveSide}
use Rattle.hanging_refine.specs.declared.sides.ActiveSide.TheVariants.{Boundary, Equal, Coarser, Finer}
use Rattle.hanging_refine.specs.Coarse.{corner_at, on_boundary}
use Rattle.hanging_refine.specs.Refined.{RefinedMesh, active_cells, cell_at}
use Rattle.hanging_refine.specs.Numbered.{corner_name}
use Rattle.hanging_refine.specs.Sides.{IsSideOf, MeetsOnly, NamesFace, half_end}
use Rattle.hanging_refine.specs.Grown.{IsGrown}
use Rattle.hanging_refine.proofs.Only.{cell_is}
use Rattle.fem_fixed.specs.Lists.{contains}
use Rattle.fem_fixed.proofs.Occurrences.{contains-append}
use Rattle.dof_numbers.specs.Dofs.{same_name, vertex_names, middle_names, middle_name, centre_name}
use Rattle.dof_numbers.specs.Table.{IsNumber, low, corner, seen_below, seen_faces}
use Rattle.dof_numbers.specs.Masters.{IsDone}
use Rattle.dof_numbers.proofs.Listed.{place_in, at_four, vertex_is, cell_below, a_vertex, a_middle, a_centre}
use Rattle.dof_numbers.proofs.Middles.{centre_divided}
use Rattle.dof_numbers.proofs.Finer.{stands, is_active, one_place, name_hangs, not_boundary, not_equal, not_coarser}

-- what stands before the middle of face f of cell c
data Seen (forest : RefinedMesh) (c f : ℕ) (x : Name) : Type 0 where
  of_vertex : (d v : ℕ) → d < length forest.cells → v < 4 → corner_name forest d v ≡ x → Seen forest c f x
  of_middle : (d g : ℕ) → d < length forest.cells → g < 4 → IsDone c f d g → middle_name forest d g ≡ x → Seen forest c f x
  of_centre : (d : ℕ) → d < c → centre_name forest d ≡ x → Seen forest c f x

seen_before : (forest : RefinedMesh) (c f : ℕ) (x : Name) → c < length forest.cells → contains same_name (seen_below 2 forest c) x ≡ true → Seen forest c f x
seen_before forest c f x h t =
    let p = cell_below 2 forest c x (omega arith) t in
    let within : p.cell < length forest.cells = (let b = p.before in omega arith) in
    elim p.is [
      | a_vertex v b e ↦ of_vertex p.cell v within b e
      | a_middle g two b e ↦ of_middle p.cell g within b (inl p.before) e
      | a_centre two e ↦ of_centre p.cell p.before e
    ]

seen_here : (forest : RefinedMesh) (c f : ℕ) (x : Name) → c < length forest.cells → f ≤ 4 → contains same_name (take f (middle_names forest.mesh (cell_at forest c))) x ≡ true → Seen forest c f x
seen_here forest c f x h b t =
    let m : Corners = corner_at forest.mesh in
    let names : List Name = middle_names forest.mesh (cell_at forest c) in
    let four : length names ≡ 4 = refl in
    let few : length (take f names) ≡ f = length-take-le f names (omega arith) in
    let p = place_in (take f names) x t in
    let w : p.place < length (take f names) = p.within in
    let less : p.place < f = omega arith in
    let is : middle_name forest c p.place ≡ x = sym (at_four (mid m (cell_at forest c)) p.place (omega arith)) ∙ sym (get_or-take f names p.place (node 0) less) ∙ p.is in
    of_middle c p.place h (omega arith) (inr (refl, less)) is

seen_is : (forest : RefinedMesh) (c f : ℕ) (x : Name) → c < length forest.cells → f ≤ 4 → contains same_name (seen_faces forest c f) x ≡ true → Seen forest c f x
unfolding seen_faces
seen_is forest c f x h b t =
    let s : List Name = seen_below 2 forest c in
    let v : List Name = vertex_names forest.mesh (cell_at forest c) in
    let m : List Name = take f (middle_names forest.mesh (cell_at forest c)) in
    elim (or_true (contains same_name (s ++ v) x) (contains same_name m x) (sym (contains-append same_name (s ++ v) m x) ∙ t)) [
      | inl e ↦ elim (or_true (contains same_name s x) (contains same_name v x) (sym (contains-append same_name s v x) ∙ e)) [
        | inl k ↦ seen_before forest c f x h k
        | inr k ↦ (let w = vertex_is forest.mesh (cell_at forest c) x k in of_vertex c w.0 h w.1.0 w.1.1)
      ]
      | inr e ↦ seen_here forest c f x h b e
    ]

-- the side has no smaller cells, and no cell before cell c
abbrev pub IsFirst : ℕ → ActiveSide → Type 0
IsFirst c (Boundary id) = Unit {0}
IsFirst c (Equal j g) = c ≤ j
IsFirst c (Coarser j g half) = Unit {0}
IsFirst c (Finer js gs) = ⊥

no_vertex : (forest : RefinedMesh) → IsGrown forest → (c f : ℕ) (side : ActiveSide) → c < length forest.cells → f < 4 → IsSideOf forest c f side → MeetsOnly forest c f side → IsFirst c side →
    (d v : ℕ) → d < length forest.cells → v < 4 → corner_name forest d v ≡ middle_name forest c f → ⊥
no_vertex forest w c f (Boundary id) h b says only first d v hd hv e = not_boundary forest w c f id only (corner_name forest d v) (name_hangs forest w c f d v h b hd hv e)
no_vertex forest w c f (Equal j g) h b says only first d v hd hv e = not_equal forest w c f j g says only (corner_name forest d v) (name_hangs forest w c f d v h b hd hv e)
no_vertex forest w c f (Coarser j g half) h b says only first d v hd hv e = not_coarser forest w c f j g half says only (corner_name forest d v) (name_hangs forest w c f d v h b hd hv e)
no_vertex forest w c f (Finer js gs) h b says only first d v hd hv e = first

-- a face that the side names has another middle, or comes later
named_apart : (forest : RefinedMesh) → IsGrown forest → (c f : ℕ) (side : ActiveSide) → c < length forest.cells → f < 4 → IsSideOf forest c f side → IsFirst c side →
    (d g : ℕ) → g < 4 → IsDone c f d g → NamesFace side d g → middle_name forest d g ≡ middle_name forest c f → ⊥
named_apart forest w c f (Boundary id) h b says first d g hg done names e = names
named_apart forest w c f (Equal j k) h b says first d g hg done names e =
    ⊎_elim (λ (s : d < c). (let t : d ≡ j = names.0 in omega arith))
    (λ (s : (d ≡ c) × (g < f)).
    let m : Corners = corner_at forest.mesh in
    let is = cell_is (length forest.mesh.cells) m (on_boundary forest.mesh) (active_cells forest) (stands forest w) (cell_at forest c) (is_active forest w c h) in
    let same : g ≡ f = mid_one (length forest.mesh.cells) m w.coarse.distinct (cell_at forest c) is g f hg b (ap (λ i. middle_name forest i g) (sym s.0) ∙ e) in
    let less : g < f = s.1 in
    omega arith) done
named_apart forest w c f (Coarser j k half) h b says first d g hg done names e =
    let m : Corners = corner_at forest.mesh in
    half_not_same m (cell_at forest c) (cell_at forest j) f k (half_end k half) says.3 (sym e ∙ ap (λ i. middle_name forest i g) names.0 ∙ ap (middle_name forest j) names.1)
named_apart forest w c f (Finer js gs) h b says first d g hg done names e = first

no_middle : (forest : RefinedMesh) → IsGrown forest → (c f : ℕ) (side : ActiveSide) → c < length forest.cells → f < 4 → IsSideOf forest c f side → MeetsOnly forest c f side → IsFirst c side →
    (d g : ℕ) → d < length forest.cells → g < 4 → IsDone c f d g → middle_name forest d g ≡ middle_name forest c f → ⊥
no_middle forest w c f side h b says only first d g hd hg done e =
    let m : Corners = corner_at forest.mesh in
    let meet : MeetAt m (cell_at forest c) f (cell_at forest d) g = inl (mid_pair m (cell_at forest c) (cell_at forest d) f g (sym e)) in
    ⊎_elim
    (λ (s : (d ≡ c) × (g ≡ f)). not_before c f d g s.0 s.1 done)
    (λ (s : NamesFace side d g). named_apart forest w c f side h b says first d g hg done s e)
    (only d g hd hg meet)
  where
    not_before : (c f d g : ℕ) → d ≡ c → g ≡ f → IsDone c f d g → ⊥
    not_before c f d g a b done = ⊎_elim (λ (s : d < c). omega arith) (λ (s : (d ≡ c) × (g < f)). (let l : g < f = s.1 in omega arith)) done

-- a name that doesn't stand in a list that gives numbers, and has none
pub record IsNew (forest : RefinedMesh) (seen : List Name) (x : Name) : Type 0 where
  pub new : contains same_name seen x ≡ false
  pub numberless : (n : ℕ) → IsNumber forest n x → ⊥

mid_centre : (forest : RefinedMesh) (c f : ℕ) (p : Cell) → middle_name forest c f ≡ centre p → ⊥
unfolding mid
mid_centre forest c f p e = middle_of-centre _ _ p e

pub middle_new : (forest : RefinedMesh) → IsGrown forest → (c f : ℕ) (side : ActiveSide) → c < length forest.cells → f < 4 → IsSideOf forest c f side → MeetsOnly forest c f side → IsFirst c side →
    IsNew forest (seen_faces forest c f) (middle_name forest c f)
middle_new forest w c f side h b says only first =
    let x : Name = middle_name forest c f in
    record {
      new = not_true (contains same_name (seen_faces forest c f) x) (λ t. elim (seen_is forest c f x h (omega arith) t) [
        | of_vertex d v hd hv e ↦ no_vertex forest w c f side h b says only first d v hd hv e
        | of_middle d g hd hg done e ↦ no_middle forest w c f side h b says only first d g hd hg done e
        | of_centre d l e ↦ mid_centre forest c f (cell_at forest d) (sym e)
      ]);
      numberless = λ n is. elim is [
        | low l e ↦ mid_node (corner_at forest.mesh) (cell_at forest c) f n e
        | corner d v hd hv i e ↦ no_vertex forest w c f side h b says only first d v hd hv e
      ];
    }

no_centre : (forest : RefinedMesh) → IsGrown forest → (c d v : ℕ) → c < length forest.cells → d < length forest.cells → v < 4 → corner_name forest d v ≡ centre_name forest c → ⊥
no_centre forest w c d v hc hd hv e =
    let refined = refined_by (active_cells forest) in
    clash (refined (cell_at forest c))
    (centre_divided (length forest.mesh.cells) (corner_at forest.mesh) (on_boundary forest.mesh) refined w.leaves.balanced (cell_at forest c) (cell_at forest d) (is_active forest w d hd).0 v hv e)
    (is_active forest w c hc).1

centre_cell : (p q : Cell) → centre p ≡ centre q → p ≡ q
centre_cell p q e = cc

centre_node : (p : Cell) (n : ℕ) → centre p ≡ node n → ⊥
centre_node p n e = cc

pub centre_new : (forest : RefinedMesh) → IsGrown forest → (c : ℕ) → c < length forest.cells → IsNew forest (seen_faces forest c 4) (centre_name forest c)
centre_new forest w c h =
    let x : Name = centre_name forest c in
    record {
      new = not_true (contains same_name (seen_faces forest c 4) x) (λ t. elim (seen_is forest c 4 x h (omega arith) t) [
        | of_vertex d v hd hv e ↦ no_centre forest w c d v h hd hv e
        | of_middle d g hd hg done e ↦ mid_centre forest d g (cell_at forest c) e
        | of_centre d l e ↦ (let hd : d < length forest.cells = omega arith in
            let same : d ≡ c = one_place forest w d c hd h (centre_cell (cell_at forest d) (cell_at forest c) e) in
            omega arith)
      ]);
      numberless = λ n is. elim is [
        | low l e ↦ centre_node (cell_at forest c) n e
        | corner d v hd hv i e ↦ no_centre forest w c d v h hd hv e
      ];
    }
