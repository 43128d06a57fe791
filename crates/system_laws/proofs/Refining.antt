-- Steps of refinement have an outcome.
use Rattle.std.proofs.Common.{◌≡◌, ◌∙◌, sym, ap, ap₂, refl, subst, ℕ, zero, suc, ◌<◌, ◌≤◌, ⊎_elim, ◌⊎◌, inl, inr, Bool, true, false, List, [], ◌∷◌, ◌++◌, length, map, slice_index, slice_index_or, length-append, Ok, Err, arith}
use Rattle.std.specs.Prelude.{◌^◌, nat_le, fold, Some, None, IfOk}
use Rattle.std.specs.declared.option.Option.{Option}
use Rattle.std.proofs.lemmas.Bool.{cases_lt}
use Rattle.std.proofs.lemmas.Bool.Decides.{nat_tests}
use Rattle.std.proofs.lemmas.List.{get_or_append_left}
use Rattle.std.proofs.Math.Seq.{get_or-append_seam}
use Rattle.quad_mesh.specs.Mesh.{CoarseMesh}
use Rattle.corner_names.specs.Names.{Cell, root, child, Name, node, middle, centre}
use Rattle.corner_names.specs.Cells.{vertex}
use Rattle.corner_names.proofs.Distinct.{vertex_root}
use Rattle.hanging_refine.specs.declared.fault.RefineFault.{RefineFault}
use Rattle.hanging_refine.specs.declared.fault.RefineFault.TheVariants.{NoSuchCell, Level, Limit, Flat, NoMemory}
use Rattle.hanging_refine.specs.Coarse.{corner_at}
use Rattle.hanging_refine.specs.Refined.{ActiveCell, RefinedMesh, cell_of, coarse_of, named, active_cells, cell_in, cell_at, unrefined_cell, unrefined_cells, unrefined}
use Rattle.hanging_refine.specs.Order.{path_of}
use Rattle.hanging_refine.specs.Numbered.{corner_name, corner_number}
use Rattle.hanging_refine.specs.Step.{refined_below, count_below, first_where}
use Rattle.hanging_refine.specs.Refinement.{IsStepSet, is_lowest, has_flat, next_count, IsRefinedBy, IsRefusal}
use Rattle.hanging_refine.proofs.Lists.{map_in, map_length}
use Rattle.hanging_refine.proofs.Unrefined.{by_face, coarse_in}
use Rattle.hanging_refine.specs.Grown.{IsGrown}
use Rattle.constrained_mesh.specs.Steps.{Outcome, refused, refined, RefinesBy}
use Rattle.diagnostics.specs.declared.refusal.Refusal.{Refusal}
use Rattle.diagnostics.specs.declared.ending.Ending.TheVariants.{Refused}
use Rattle.system_setup.specs.Endings.{of_refining}
use Rattle.system_laws.proofs.Search.{IsFirst, first_or_none}
use Rattle.system_laws.proofs.StepSets.{least_set, is_least}
use Rattle.system_laws.proofs.Grown.{coarse_names, step_grown}

-- a number for each name, that of the node where it is one
number_of : Name → ℕ
number_of (node n) = n
number_of (middle a b) = 0
number_of (centre c) = 0

pub at_four : {A : Type 0} (f : ℕ → A) (d : A) (v : ℕ) → v < 4 → slice_index_or (map f (0 ∷ 1 ∷ 2 ∷ 3 ∷ [])) v d ≡ f v
at_four f d v h = by_face (λ w. slice_index_or (map f (0 ∷ 1 ∷ 2 ∷ 3 ∷ [])) w d ≡ f w) refl refl refl refl v h

-- a cell as an active one
numbered : CoarseMesh → Cell → ActiveCell
numbered mesh x = record { coarse = coarse_of x; path = path_of x; corners = map (λ v. number_of (vertex (corner_at mesh) x v)) (0 ∷ 1 ∷ 2 ∷ 3 ∷ []) }

fold_push : (path : List ℕ) (p : Cell) (k : ℕ) → fold child p (path ++ (k ∷ [])) ≡ child (fold child p path) k
fold_push [] p k = refl
fold_push (j ∷ path) p k = fold_push path (child p j) k

path_named : (x : Cell) → cell_of (coarse_of x) (path_of x) ≡ x
unfolding cell_of
path_named (root c) = refl
path_named (child p k) = fold_push (path_of p) (root (coarse_of p)) k ∙ ap (λ y. child y k) (path_named p)

names_back : (mesh : CoarseMesh) (cells : List Cell) → map named (map (numbered mesh) cells) ≡ cells
unfolding numbered
names_back mesh [] = refl
names_back mesh (x ∷ xs) = ap₂ (λ (y : Cell) (ys : List Cell). y ∷ ys) (path_named x) (names_back mesh xs)

-- each corner has the number of its name
pub record IsNodeNumbered (forest : RefinedMesh) : Type 0 where
  by_name : (c v : ℕ) → c < length forest.cells → v < 4 → corner_number forest c v ≡ number_of (corner_name forest c v)

made : CoarseMesh → List Cell → RefinedMesh
made mesh cells = record { mesh = mesh; cells = map (numbered mesh) cells }

made_numbered : (mesh : CoarseMesh) (cells : List Cell) → IsNodeNumbered (made mesh cells)
unfolding made numbered
made_numbered mesh cells = record {
  by_name = λ c v h a.
      let l = map_length (numbered mesh) cells in
      let b : c < length cells = omega arith in
      let x : Cell = cell_in cells c in
      ap (λ (y : ActiveCell). slice_index y.corners v) (map_in (numbered mesh) cells c (root 0) (record { coarse = 0; path = []; corners = [] }) b)
      ∙ at_four (λ w. number_of (vertex (corner_at mesh) x w)) 0 v a
      ∙ ap (λ (xs : List Cell). number_of (vertex (corner_at mesh) (cell_in xs c) v)) (sym (names_back mesh cells));
}

unrefined_length : (mesh : CoarseMesh) (n : ℕ) → length (unrefined_cells mesh n) ≡ n
unrefined_length mesh zero = refl
unrefined_length mesh (suc n) = let h = unrefined_length mesh n in let k = length-append (unrefined_cells mesh n) (unrefined_cell mesh n ∷ []) in omega arith

unrefined_in : (mesh : CoarseMesh) (n c : ℕ) (d : ActiveCell) → c < n → slice_index_or (unrefined_cells mesh n) c d ≡ unrefined_cell mesh c
unrefined_in mesh zero c d h = absurd (omega arith)
unrefined_in mesh (suc n) c d h =
    ⊎_elim (λ (a : c < n). get_or_append_left (unrefined_cells mesh n) (unrefined_cell mesh n ∷ []) d c (omega (arith, unrefined_length mesh n)) ∙ unrefined_in mesh n c d a)
    (λ (a : n ≤ c).
    let e : c ≡ n = omega arith in
    ap (λ i. slice_index_or (unrefined_cells mesh n ++ (unrefined_cell mesh n ∷ [])) i d) (e ∙ sym (unrefined_length mesh n)) ∙ get_or-append_seam (unrefined_cells mesh n) (unrefined_cell mesh n) [] d ∙ ap (unrefined_cell mesh) (sym e))
    (cases_lt c n)

start_numbered : (mesh : CoarseMesh) → IsNodeNumbered (unrefined mesh)
unfolding corner_at number_of
start_numbered mesh = record {
  by_name = λ c v h a.
      let n : ℕ = length mesh.cells in
      let l = unrefined_length mesh n in
      let b : c < n = omega arith in
      let x : cell_at (unrefined mesh) c ≡ root c = ap (λ xs. cell_in xs c) (coarse_names mesh n) ∙ coarse_in n c b in
      ap (λ (y : ActiveCell). slice_index y.corners v) (unrefined_in mesh n c (record { coarse = 0; path = []; corners = [] }) b)
      ∙ ap number_of (sym (vertex_root (corner_at mesh) c v)) ∙ ap (λ y. number_of (vertex (corner_at mesh) y v)) (sym x);
}

-- what stands against a step, if anything
data Verdict (low : Option ℕ) (count : ℕ) (flat : Option ℕ) : Type 0 where
  deep : (cell : ℕ) → low ≡ Some cell → Verdict low count flat
  many : low ≡ None → 2 ^ 20 < count → Verdict low count flat
  flattens : (cell : ℕ) → low ≡ None → count ≤ 2 ^ 20 → flat ≡ Some cell → Verdict low count flat
  fine : low ≡ None → count ≤ 2 ^ 20 → flat ≡ None → Verdict low count flat

last_verdict : (count : ℕ) (flat : Option ℕ) → count ≤ 2 ^ 20 → Verdict None count flat
last_verdict count None h = fine refl h refl
last_verdict count (Some cell) h = flattens cell refl h refl

verdict : (low : Option ℕ) (count : ℕ) (flat : Option ℕ) → Verdict low count flat
verdict (Some cell) count flat = deep cell refl
verdict None count flat = ⊎_elim (λ (h : 2 ^ 20 < count). many refl h) (λ (h : count ≤ 2 ^ 20). last_verdict count flat h) (cases_lt (2 ^ 20) count)

-- an outcome of a step
data Stepped (old : RefinedMesh) (asked : List ℕ) : Type 0 where
  is_refused : (fault : RefineFault) → IsRefusal old asked fault → Stepped old asked
  is_refined : (new : RefinedMesh) (count : ℕ) → IsRefinedBy old asked new count → IsNodeNumbered new → Stepped old asked

next_mesh : RefinedMesh → (ℕ → Bool) → RefinedMesh
next_mesh old set = made old.mesh (refined_below set (active_cells old) (length old.cells))

next_numbered : (old : RefinedMesh) (set : ℕ → Bool) → IsNodeNumbered (next_mesh old set)
unfolding next_mesh
next_numbered old set = made_numbered old.mesh (refined_below set (active_cells old) (length old.cells))

next_is : (old : RefinedMesh) (asked : List ℕ) (set : ℕ → Bool) → IsNodeNumbered old → IsStepSet old asked set → first_where (is_lowest old set) (length old.cells) ≡ None → next_count old set ≤ 2 ^ 20 →
    first_where (has_flat old set) (length old.cells) ≡ None → IsRefinedBy old asked (next_mesh old set) (count_below set (length old.cells))
unfolding next_mesh made
next_is old asked set s is low few round = record {
  set = set;
  is_set = is;
  low = low;
  few = few;
  round = round;
  counted = refl;
  mesh = refl;
  cells = names_back old.mesh (refined_below set (active_cells old) (length old.cells));
  numbers = λ c d v w hc hd a b e. s.by_name c v hc a ∙ ap number_of e ∙ sym ((next_numbered old set).by_name d w hd b);
}

by_verdict : (old : RefinedMesh) (asked : List ℕ) (set : ℕ → Bool) → IsNodeNumbered old → IsStepSet old asked set →
    Verdict (first_where (is_lowest old set) (length old.cells)) (next_count old set) (first_where (has_flat old set) (length old.cells)) → Stepped old asked
by_verdict old asked set s is (deep cell e) = is_refused (Level cell) (set, (is, e))
by_verdict old asked set s is (many e h) = is_refused Limit (set, (is, (e, h)))
by_verdict old asked set s is (flattens cell e h f) = is_refused (Flat cell) (set, (is, (e, (h, f))))
by_verdict old asked set s is (fine e h f) = is_refined (next_mesh old set) (count_below set (length old.cells)) (next_is old asked set s is e h f) (next_numbered old set)

past_true : (n x : ℕ) → nat_le n x ≡ true → n ≤ x
past_true n x e = grind (arith, nat_tests)

past_false : (n x : ℕ) → nat_le n x ≡ false → x < n
past_false n x e = grind (arith, nat_tests)

some_step : (old : RefinedMesh) (asked : List ℕ) → IsNodeNumbered old → Stepped old asked
some_step old asked s =
    let n : ℕ = length old.cells in
    let test : ℕ → Bool = λ k. nat_le n (slice_index asked k) in
    ⊎_elim
    (λ (t : (k : ℕ) × IsFirst test (length asked) k).
    is_refused (NoSuchCell (slice_index asked t.0)) (t.0, (t.1.below, past_true n (slice_index asked t.0) t.1.passes, refl, λ j h. past_false n (slice_index asked j) (t.1.before j h))))
    (λ (t : (k : ℕ) → k < length asked → test k ≡ false).
    let set : ℕ → Bool = least_set old asked in
    by_verdict old asked set s (is_least old asked (λ k h. past_false n (slice_index asked k) (t k h))) (verdict _ _ _))
    (first_or_none test (length asked))

some_outcome : (steps : List (List ℕ)) (old : RefinedMesh) → IsNodeNumbered old → (outcome : Outcome) × RefinesBy steps old outcome × IfOk outcome IsNodeNumbered
some_outcome [] old s = (Ok old, refl, s)
some_outcome (asked ∷ steps) old s = elim (some_step old asked s) [
  | is_refused fault is ↦ (Err fault, refused fault is refl, tt)
  | is_refined new count is after ↦ (let t = some_outcome steps new after in (t.0, refined new count is t.1, t.2))
]

-- each coarse mesh has an outcome of each list of steps
pub steps_end : (steps : List (List ℕ)) (mesh : CoarseMesh) → (outcome : Outcome) × RefinesBy steps (unrefined mesh) outcome × IfOk outcome IsNodeNumbered
steps_end steps mesh = some_outcome steps (unrefined mesh) (start_numbered mesh)

-- and each refined mesh with such numbers one of each step: a fault, or a mesh
pub step_ends : (old : RefinedMesh) (asked : List ℕ) → IsNodeNumbered old → ((fault : RefineFault) × IsRefusal old asked fault) ⊎ ((new : RefinedMesh) × (count : ℕ) × IsRefinedBy old asked new count)
step_ends old asked s = elim (some_step old asked s) [ is_refused fault is ↦ inl (fault, is) | is_refined new count is after ↦ inr (new, count, is) ]

same_mesh : (a b : RefinedMesh) → (let r : Outcome = Ok a in r) ≡ Ok b → a ≡ b
same_mesh a b e = cc

no_mesh : (a : RefinedMesh) (fault : RefineFault) → (let r : Outcome = Ok a in r) ≡ Err fault → ⊥
no_mesh a fault e = cc

same_fault : (x y : RefineFault) → (let r : Outcome = Err x in r) ≡ Err y → x ≡ y
same_fault x y e = cc

-- steps keep forests
pub steps_grown : (steps : List (List ℕ)) (old new : RefinedMesh) → IsGrown old → RefinesBy steps old (Ok new) → IsGrown new
steps_grown [] old new g w = subst IsGrown (sym (same_mesh new old w)) g
steps_grown (asked ∷ steps) old new g (refused fault is e) = absurd (no_mesh new fault e)
steps_grown (asked ∷ steps) old new g (refined next count is w) = steps_grown steps next new (step_grown old asked next count g is) w

never_memory : (steps : List (List ℕ)) (old : RefinedMesh) → RefinesBy steps old (Err NoMemory) → ⊥
never_memory [] old w = no_mesh old NoMemory (sym w)
never_memory (asked ∷ steps) old (refused fault is e) = (let P : RefineFault → Type 0 = λ f. IsRefusal old asked f in subst P (sym (same_fault NoMemory fault e)) is)
never_memory (asked ∷ steps) old (refined next count is w) = never_memory steps next w

refusal_by : (fault : RefineFault) → (fault ≡ NoMemory → ⊥) → (r : Refusal) × (of_refining fault ≡ Refused r)
refusal_by (NoSuchCell cell) n = (_, refl)
refusal_by (Level cell) n = (_, refl)
refusal_by Limit n = (_, refl)
refusal_by (Flat cell) n = (_, refl)
refusal_by NoMemory n = absurd (n refl)

-- and each fault of theirs is told
pub steps_told : (steps : List (List ℕ)) (old : RefinedMesh) (fault : RefineFault) → RefinesBy steps old (Err fault) → (r : Refusal) × (of_refining fault ≡ Refused r)
steps_told steps old fault w = refusal_by fault (λ e. never_memory steps old (let P : RefineFault → Type 0 = λ f. RefinesBy steps old (Err f) in subst P e w))
