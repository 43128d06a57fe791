-- The blocks of visits, by the degree of the dofs.
use Rattle.std.proofs.Common.{◌≡◌, ◌≢◌, ◌∙◌, sym, ap, subst, refl, ℕ, ◌+◌, ◌<◌, ◌==◌, ℤ, pos, Bool, true, false, List, [], ◌∷◌, ◌++◌, length, cond, get_or, Ok, Some, None, arith}
use Rattle.std.specs.Prelude.{unwrap_or}
use Rattle.std.specs.List.{All}
use Rattle.std.specs.declared.option.Option.{Option}
use Rattle.std.specs.declared.result.Result.{Result}
use Rattle.std.proofs.lemmas.Bool.{ne_eqb}
use Rattle.std.proofs.lemmas.List.{append-nil}
use Rattle.fem_fixed.specs.declared.mesh.Point.{Point}
use Rattle.fixed_q1.specs.declared.fault.LocalFault.{LocalFault}
use Rattle.fixed_q1.specs.declared.geometry.Vector.{Vector}
use Rattle.fixed_q1.specs.declared.places.Part.{Part}
use Rattle.fixed_q1.specs.LocalForm.{LocalForm, zero_matrix, zero_load}
use Rattle.fixed_q1.specs.BoundaryForm.{boundary_form as linear_edge}
use Rattle.fixed_q1.specs.Places.{reference_place}
use Rattle.fixed_q1.proofs.FaceBounds.{boundary_none}
use Rattle.fixed_q2.specs.BoundaryForm.{boundary_form as quadratic_edge}
use Rattle.problem_read.specs.LookUps.{diffusion_on, source_on, robin_on, penalty_in}
use Rattle.dof_numbers.specs.Dofs.{names_each}
use Rattle.mesh_visits.specs.declared.visit.Visit.TheVariants.{Cell as OnCell, Boundary as OnBoundary, Interior as OnPart}
use Rattle.cell_blocks.specs.declared.local.LocalSystem.{LocalSystem}
use Rattle.cell_blocks.specs.LocalBlocks.{LocalBlock}
use Rattle.cell_blocks.specs.Forms.{cell_form, boundary_form, jump_form, face_form}
use Rattle.cell_blocks.specs.Blocks.{Given, material_of, points_of, dofs_of, end_points, end_dofs, middle_dof, face_dofs, part_ends, with_dofs, block_of}
use Rattle.cell_blocks.specs.Filling.{IsMade}
use Rattle.cell_blocks.proofs.Squares.{face_none}

-- what is chosen by the degree
pub by_two : {A : Type 0} (degree : ℕ) (quadratic linear : A) → degree ≡ 2 → quadratic ≡ cond (degree == 2) quadratic linear
by_two degree quadratic linear h = ap (λ n. cond (n == 2) quadratic linear) (sym h)

pub by_other : {A : Type 0} (degree : ℕ) (quadratic linear : A) → degree ≢ 2 → linear ≡ cond (degree == 2) quadratic linear
by_other degree quadratic linear h = ap (λ b. cond b quadratic linear) (sym (ne_eqb degree 2 h))

-- the block of the cell itself
pub own_made : {A : Type 0} (g : Given) (cell : ℕ) (dofs : List ℕ) (points : List Point) (m : ℕ) (d s : ℤ) (form : Result LocalForm LocalFault) (system : LocalSystem) (result : Result A LocalFault) →
    dofs ≡ dofs_of g cell → points ≡ points_of g cell → m ≡ material_of g cell → d ≡ diffusion_on g.problem m → s ≡ source_on g.problem m → form ≡ cell_form g.dofs.degree points d s →
    IsMade (with_dofs dofs form) system result → IsMade (block_of g cell OnCell) system result
unfolding block_of
own_made g cell dofs points m d s form system result a p q u v e made =
    let du : d ≡ diffusion_on g.problem (material_of g cell) = u ∙ ap (diffusion_on g.problem) q in
    let sv : s ≡ source_on g.problem (material_of g cell) = v ∙ ap (source_on g.problem) q in
    let P : Result LocalBlock LocalFault → Type 0 = λ r. IsMade r system result in
    subst P (ap (with_dofs dofs) e ∙ (λ i. with_dofs (a i) (cell_form g.dofs.degree (p i) (du i) (sv i)))) made

-- that of a part of an interior face
pub part_made : {A : Type 0} (g : Given) (cell face other other_face : ℕ) (mine theirs : Part) (dofs others : List ℕ) (here there ends : List Point) (p q : Vector) (gamma : ℤ) (form : Result LocalForm LocalFault) (system : LocalSystem) (result : Result A LocalFault) →
    dofs ≡ dofs_of g cell → others ≡ dofs_of g other → here ≡ points_of g cell → there ≡ points_of g other → p ≡ reference_place face mine → q ≡ reference_place other_face theirs →
    ends ≡ part_ends g cell face other other_face mine → gamma ≡ penalty_in g.problem → form ≡ jump_form g.dofs.degree here p there q ends gamma →
    IsMade (with_dofs (dofs ++ others) form) system result → IsMade (block_of g cell (OnPart face other other_face mine theirs)) system result
unfolding block_of
part_made g cell face other other_face mine theirs dofs others here there ends p q gamma form system result a b h t u v w z e made =
    let P : Result LocalBlock LocalFault → Type 0 = λ r. IsMade r system result in
    subst P (ap (with_dofs (dofs ++ others)) e ∙ (λ i. with_dofs (a i ++ b i) (jump_form g.dofs.degree (h i) (u i) (t i) (v i) (w i) (z i)))) made

none_by : (two : Bool) (ends : List Point) → cond two (quadratic_edge ends (pos 0) (pos 0)) (linear_edge ends (pos 0) (pos 0)) ≡
    record { matrix = zero_matrix (cond two (0 ∷ 1 ∷ 2 ∷ []) (0 ∷ 1 ∷ [])); load = zero_load (cond two (0 ∷ 1 ∷ 2 ∷ []) (0 ∷ 1 ∷ [])) }
none_by true ends = face_none ends
none_by false ends = boundary_none ends

pub face_form_is : (degree : ℕ) (robin : Option (ℤ × ℤ)) (ends : List Point) → boundary_form degree ends (unwrap_or robin (pos 0, pos 0)).0 (unwrap_or robin (pos 0, pos 0)).1 ≡ face_form degree robin ends
face_form_is degree None ends = none_by (degree == 2) ends
face_form_is degree (Some robin) ends = refl

-- that of a face at the boundary: zeros where nothing is set on its id
pub face_made : (g : Given) (cell face id : ℕ) (dofs : List ℕ) (ends : List Point) (robin : Option (ℤ × ℤ)) (numbers : ℤ × ℤ) (form : LocalForm) (block : LocalBlock) →
    dofs ≡ face_dofs g cell face → ends ≡ end_points g cell face → robin ≡ robin_on g.problem id → numbers ≡ unwrap_or robin (pos 0, pos 0) → form ≡ boundary_form g.dofs.degree ends numbers.0 numbers.1 →
    block ≡ record { dofs = dofs; form = form } → block_of g cell (OnBoundary face id) ≡ Ok block
unfolding block_of
face_made g cell face id dofs ends robin numbers form block a e r n f is =
    let whole : form ≡ face_form g.dofs.degree (robin_on g.problem id) (end_points g cell face) =
    f ∙ ap (λ (x : ℤ × ℤ). boundary_form g.dofs.degree ends x.0 x.1) n ∙ face_form_is g.dofs.degree robin ends ∙ (λ i. face_form g.dofs.degree (r i) (e i)) in
    sym (ap Ok is ∙ (λ i. Ok (record { dofs = a i; form = whole i })))

-- with degree 1 a face has the dofs of its ends alone
pub only_ends : (g : Given) (cell face : ℕ) → g.dofs.degree ≢ 2 → end_dofs g cell face ≡ face_dofs g cell face
only_ends g cell face other = sym (append-nil (end_dofs g cell face)) ∙ ap (λ xs. end_dofs g cell face ++ xs) (by_other g.dofs.degree (middle_dof g cell face ∷ []) [] other)

-- how many dofs the cells have
pub eight_of : (degree : ℕ) (each : List (List ℕ)) (a b : ℕ) (mine theirs : List ℕ) → degree ≢ 2 → All (λ row. length row ≡ names_each degree) each → a < length each → b < length each →
    mine ≡ get_or each a [] → theirs ≡ get_or each b [] → length mine + length theirs ≡ 8
eight_of degree each a b mine theirs other all la lb m t =
    let four : 4 ≡ names_each degree = by_other degree 9 4 other in
    omega (arith, four, ap length m, ap length t, all a [] la, all b [] lb)
