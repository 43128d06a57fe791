-- The refined meshes that steps lead to are leaves of balanced forests.
use Rattle.std.proofs.Common.{◌≡◌, ◌∙◌, sym, ap, refl, subst, ℕ, zero, suc, ◌+◌, ◌<◌, ⊎_elim, Bool, true, List, [], ◌∷◌, ◌++◌, length, map, arith}
use Rattle.quad_mesh.specs.Mesh.{CoarseMesh}
use Rattle.corner_names.specs.Names.{Cell, root, child}
use Rattle.corner_names.specs.Cells.{Corners, level}
use Rattle.corner_names.specs.Forest.{MeetAt}
use Rattle.corner_names.specs.Active.{same_cell, has_cell, refined_by, next_active, IsForest, IsClosedSet, AreOnce, coarse_cells}
use Rattle.corner_names.proofs.Active.{or_true, same_true, step_forest, clash}
use Rattle.corner_names.proofs.Start.{coarse_forest, coarse_once, once_next}
use Rattle.hanging_refine.specs.Coarse.{corner_at, on_boundary, IsCoarse}
use Rattle.hanging_refine.specs.Refined.{RefinedMesh, cell_of, named, active_cells, cell_in, unrefined_cell, unrefined_cells, unrefined}
use Rattle.hanging_refine.specs.Grown.{IsGrown}
use Rattle.hanging_refine.specs.Step.{refined_below}
use Rattle.hanging_refine.specs.Refinement.{level_of, IsRefinedBy, IsStepSet}
use Rattle.hanging_refine.proofs.Lists.{map_length, has_in}
use Rattle.hanging_refine.proofs.Unrefined.{map_push}
use Rattle.hanging_refine.proofs.Stepped.{among, among_from, among_to, step_by_places}
use Rattle.system_laws.proofs.Forests.{level_at}

pub coarse_names : (mesh : CoarseMesh) (n : ℕ) → map named (unrefined_cells mesh n) ≡ coarse_cells n
unfolding cell_of
coarse_names mesh zero = refl
coarse_names mesh (suc n) = map_push named (unrefined_cells mesh n) (unrefined_cell mesh n) ∙ ap (λ cells. cells ++ (root n ∷ [])) (coarse_names mesh n)

-- the coarse cells
pub start_grown : (mesh : CoarseMesh) → IsCoarse mesh → IsGrown (unrefined mesh)
start_grown mesh coarse =
    let n : ℕ = length mesh.cells in
    let P : List Cell → Type 0 = λ cells. IsForest n (corner_at mesh) (on_boundary mesh) cells in
    record {
      coarse = coarse;
      leaves = subst P (sym (coarse_names mesh n)) (coarse_forest n (corner_at mesh) (on_boundary mesh));
      once = subst AreOnce (sym (coarse_names mesh n)) (coarse_once n);
    }

has_place : (cells : List Cell) (z : Cell) → has_cell cells z ≡ true → (j : ℕ) × ((j < length cells) × (z ≡ cell_in cells j))
has_place [] z h = absurd cc
has_place (x ∷ xs) z h =
    let R : Type 0 = (j : ℕ) × ((j < suc (length xs)) × (z ≡ cell_in (x ∷ xs) j)) in
    ⊎_elim (λ (a : same_cell z x ≡ true). let r : R = (0, (omega arith, same_true z x a)) in r)
    (λ (a : has_cell xs z ≡ true). let t = has_place xs z a in let r : R = (suc t.0, (omega (arith, t.1.0), t.1.1)) in r) (or_true (same_cell z x) (has_cell xs z) h)

-- the cells of a step's set are closed, by their names
closed_cells : (forest : RefinedMesh) (asked : List ℕ) (set : ℕ → Bool) → IsStepSet forest asked set →
    IsClosedSet (corner_at forest.mesh) (active_cells forest) (among set (active_cells forest) (length (active_cells forest)))
closed_cells forest asked set s =
    let active : List Cell = active_cells forest in
    let m : Corners = corner_at forest.mesh in
    let len : length active ≡ length forest.cells = map_length named forest.cells in
    record {
      active_only = λ p h. let t = among_from set active (length active) p h in ap (has_cell active) t.1.2 ∙ has_in active t.0 t.1.0;
      closed = λ x z f e h there lower a b meet.
          let i = among_from set active (length active) x h in
          let j = has_place active z there in
          let hi : i.0 < length forest.cells = omega (arith, i.1.0) in let hj : j.0 < length forest.cells = omega (arith, j.1.0) in
          let M : Cell → Type 0 = λ p. MeetAt m p f (cell_in active j.0) e in let N : Cell → Type 0 = λ q. MeetAt m x f q e in
          let l : level_of forest j.0 + 1 ≡ level_of forest i.0 =
          ap (λ k. k + 1) (level_at forest j.0 ∙ ap level (sym j.1.1)) ∙ lower ∙ ap level i.1.2 ∙ sym (level_at forest i.0) in
          ap (among set active (length active)) j.1.1 ∙ among_to set active (length active) j.0 j.1.0 (s.closed i.0 j.0 f e hi hj a b i.1.1 l (subst M i.1.2 (subst N j.1.1 meet)));
    }

-- a step keeps it
pub step_grown : (old : RefinedMesh) (asked : List ℕ) (new : RefinedMesh) (count : ℕ) → IsGrown old → IsRefinedBy old asked new count → IsGrown new
step_grown old asked new count g r =
    let active : List Cell = active_cells old in
    let n : ℕ = length old.mesh.cells in let m : Corners = corner_at old.mesh in let bd : ℕ → ℕ → Bool = on_boundary old.mesh in
    let len : length active ≡ length old.cells = map_length named old.cells in
    let chosen : Cell → Bool = among r.set active (length active) in
    let same : next_active chosen active ≡ active_cells new = step_by_places r.set active g.once ∙ ap (refined_below r.set active) len ∙ sym r.cells in
    let lone : (q : Cell) (k : ℕ) → has_cell active q ≡ true → has_cell active (child q k) ≡ true → ⊥ = λ q k a b. clash (refined_by active q) (g.leaves.leaves (child q k) b).0.0 (g.leaves.leaves q a).1 in
    let F : List Cell → Type 0 = λ cells. IsForest n m bd cells in
    let G : CoarseMesh → Type 0 = λ mesh. IsForest (length mesh.cells) (corner_at mesh) (on_boundary mesh) (active_cells new) in
    record {
      coarse = subst IsCoarse (sym r.mesh) g.coarse;
      leaves = subst G (sym r.mesh) (subst F same (step_forest n m bd active chosen g.coarse g.leaves (closed_cells old asked r.set r.is_set)));
      once = subst AreOnce same (once_next chosen active g.once lone);
    }
