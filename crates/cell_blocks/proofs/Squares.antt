-- The forms of degree 2 are blocks.
use Rattle.std.proofs.Common.{◌≡◌, ◌∙◌, sym, ap, refl, subst, ℕ, zero, suc, ◌≤◌, ◌^◌, ℤ, pos, negsuc, ◌*ℤ◌, false, List, [], ◌∷◌, length, map, Ok, arith, lit≤}
use Rattle.std.specs.Prelude.{unsigned_abs, ◌||◌}
use Rattle.std.specs.List.{All}
use Rattle.fem_fixed.specs.declared.mesh.Point.{Point}
use Rattle.fem_fixed.specs.Mesh.{IsWithinReach}
use Rattle.fem_fixed.specs.Rounding.{nearest}
use Rattle.fem_fixed.proofs.Sizes.{size_mul}
use Rattle.fixed_q1.specs.declared.geometry.Vector.{Vector}
use Rattle.fixed_q1.specs.LocalForm.{LocalForm, matrix_over, zero_matrix, zero_load, is_large}
use Rattle.fixed_q1.specs.CellForm.{total}
use Rattle.fixed_q1.specs.BoundaryForm.{edge_length}
use Rattle.fixed_q1.specs.JumpForm.{jump_entry, is_steep, is_folded_at}
use Rattle.fixed_q1.proofs.Bounds.{chosen_is, not_either, all_small}
use Rattle.fixed_q1.proofs.FaceBounds.{edge_small}
use Rattle.fixed_q1.proofs.Loads.{nearest_small}
use Rattle.fem_fixed.proofs.Signs.{none_times}
use Rattle.std.proofs.Math.IntN.{*ℤ_comm}
use Rattle.fixed_q2.specs.Biquadratic.{shape_numbers}
use Rattle.fixed_q2.specs.CellForm.{cell_form, diffusion_matrix, diffusion_term, gauss_points, load_vector, is_distorted}
use Rattle.fixed_q2.specs.BoundaryForm.{boundary_form, robin_entry, robin_load, edge_masses, edge_shares}
use Rattle.fixed_q2.specs.JumpForm.{jump_form, jump_factors, penalty_matrix, part_numbers}
use Rattle.fixed_q2.proofs.Edges.{all_three}
use Rattle.fixed_q2.proofs.Loads.{load_small}
use Rattle.cell_blocks.specs.LocalBlocks.{IsBlock, IsSmallEntry}

all_map : {A B : Type 0} (P : B → Type 0) (f : A → B) (xs : List A) → ((x : A) → P (f x)) → All P (map f xs)
all_map P f [] h k d below = absurd (omega (arith, below))
all_map P f (x ∷ xs) h zero d below = h x
all_map P f (x ∷ xs) h (suc k) d below = all_map P f xs h k d (omega (arith, below))

length-map : {A B : Type 0} (f : A → B) (xs : List A) → length (map f xs) ≡ length xs
length-map f [] = refl
length-map f (x ∷ xs) = ap suc (length-map f xs)

-- a matrix with these entries over as many dofs
over_block : (numbers dofs : List ℕ) (entry : ℕ → ℕ → ℤ) (load : List ℤ) → length numbers ≤ 18 → length dofs ≡ length numbers → is_large (matrix_over numbers entry) ≡ false → length load ≡ length numbers → All IsSmallEntry load →
    IsBlock (record { dofs = dofs; form = record { matrix = matrix_over numbers entry; load = load } })
over_block numbers dofs entry load few count small loads small_load = record {
  few = omega (arith, few, count);
  rows = length-map (λ i. map (entry i) numbers) numbers ∙ sym count;
  columns = all_map (λ (row : List ℤ). length row ≡ length dofs) (λ i. map (entry i) numbers) numbers (λ i. length-map (entry i) numbers ∙ sym count);
  load = loads ∙ sym count;
  small = all_small (matrix_over numbers entry) small;
  small_load = small_load;
}

load_count : (points : List Point) (source : ℤ) → length (load_vector points source) ≡ 9
unfolding load_vector
load_count points source = refl

own_block : (points : List Point) (diffusion source : ℤ) (dofs : List ℕ) → length dofs ≡ 9 → is_large (diffusion_matrix points diffusion) ≡ false → All IsSmallEntry (load_vector points source) →
    IsBlock (record { dofs = dofs; form = record { matrix = diffusion_matrix points diffusion; load = load_vector points source } })
unfolding diffusion_matrix
own_block points diffusion source dofs nine small loads = over_block shape_numbers dofs (λ i j. total (map (diffusion_term points diffusion i j) gauss_points)) (load_vector points source) (lit≤ tt) nine small (load_count points source) loads

-- that of a cell
pub cell_block : (points : List Point) (diffusion source : ℤ) (dofs : List ℕ) (form : LocalForm) → length points ≡ 4 → All IsWithinReach points → unsigned_abs source ≤ 2 ^ 31 → length dofs ≡ 9 →
    cell_form points diffusion source ≡ Ok form → IsBlock (record { dofs = dofs; form = form })
unfolding cell_form
cell_block points diffusion source dofs form four reach small nine h =
    let whole : LocalForm = record { matrix = diffusion_matrix points diffusion; load = load_vector points source } in
    let parts : (is_large (diffusion_matrix points diffusion) ≡ false) × (whole ≡ form) = chosen_is (is_distorted points) (is_large (diffusion_matrix points diffusion)) whole form h in
    let P : LocalForm → Type 0 = λ f. IsBlock (record { dofs = dofs; form = f }) in
    subst P parts.1 (own_block points diffusion source dofs nine parts.0 (load_small points source four reach small))

zeros_small : (numbers : List ℕ) → All IsSmallEntry (zero_load numbers)
zeros_small numbers = all_map IsSmallEntry (λ i. pos 0) numbers (λ i. lit≤ tt)

penalty_block : (gamma : ℤ) (factors : List ℤ) (dofs : List ℕ) → length dofs ≡ 18 → is_large (penalty_matrix gamma factors) ≡ false →
    IsBlock (record { dofs = dofs; form = record { matrix = penalty_matrix gamma factors; load = zero_load part_numbers } })
unfolding penalty_matrix
penalty_block gamma factors dofs count small = over_block part_numbers dofs (jump_entry gamma factors) (zero_load part_numbers) (lit≤ tt) count small refl (zeros_small part_numbers)

-- that of a part of an interior face
pub part_block : (here there : List Point) (p q : Vector) (ends : List Point) (gamma : ℤ) (dofs : List ℕ) (form : LocalForm) → length dofs ≡ 18 → jump_form here p there q ends gamma ≡ Ok form → IsBlock (record { dofs = dofs; form = form })
unfolding jump_form
part_block here there p q ends gamma dofs form count h =
    let factors : List ℤ = jump_factors here p there q ends in
    let whole : LocalForm = record { matrix = penalty_matrix gamma factors; load = zero_load part_numbers } in
    let parts : ((is_steep factors || is_large (penalty_matrix gamma factors)) ≡ false) × (whole ≡ form) =
    chosen_is (is_folded_at here p || is_folded_at there q) (is_steep factors || is_large (penalty_matrix gamma factors)) whole form h in
    let P : LocalForm → Type 0 = λ f. IsBlock (record { dofs = dofs; form = f }) in
    subst P parts.1 (penalty_block gamma factors dofs count (not_either (is_steep factors) (is_large (penalty_matrix gamma factors)) parts.0).1)

-- numbers of an edge
edge_part : (c a d : ℤ) (l : ℕ) → d ≡ pos 30 → unsigned_abs c ≤ 16 → unsigned_abs a ≤ 2 ^ 31 → l ≤ 2 ^ 28 → unsigned_abs (nearest (c *ℤ a *ℤ pos l) d) ≤ 2 ^ 72
edge_part c a d l e hc ha hl =
    let once : unsigned_abs (c *ℤ a) ≤ 2 ^ 35 = size_mul c a 16 (2 ^ 31) hc ha in
    let size : unsigned_abs (c *ℤ a *ℤ pos l) ≤ 2 ^ 63 = size_mul (c *ℤ a) (pos l) (2 ^ 35) (2 ^ 28) once hl in
    rw e (nearest_small (c *ℤ a *ℤ pos l) (pos 30) (2 ^ 72) (record { lt = tt }) (omega (arith, size)))

edge_share : (c a d : ℤ) (l : ℕ) → d ≡ pos 6 → unsigned_abs c ≤ 16 → unsigned_abs a ≤ 2 ^ 31 → l ≤ 2 ^ 28 → unsigned_abs (nearest (c *ℤ a *ℤ pos l) d) ≤ 2 ^ 72
edge_share c a d l e hc ha hl =
    let once : unsigned_abs (c *ℤ a) ≤ 2 ^ 35 = size_mul c a 16 (2 ^ 31) hc ha in
    let size : unsigned_abs (c *ℤ a *ℤ pos l) ≤ 2 ^ 63 = size_mul (c *ℤ a) (pos l) (2 ^ 35) (2 ^ 28) once hl in
    rw e (nearest_small (c *ℤ a *ℤ pos l) (pos 6) (2 ^ 72) (record { lt = tt }) (omega (arith, size)))

-- that of a face at the boundary
pub face_block : (ends : List Point) (alpha g : ℤ) (dofs : List ℕ) → length dofs ≡ 3 → length ends ≡ 2 → All IsWithinReach ends → unsigned_abs alpha ≤ 2 ^ 31 → unsigned_abs g ≤ 2 ^ 31 →
    IsBlock (record { dofs = dofs; form = boundary_form ends alpha g })
unfolding boundary_form robin_entry robin_load edge_masses edge_shares
face_block ends alpha g dofs three two reach ha hg =
    let l : edge_length ends ≤ 2 ^ 28 = edge_small ends two reach in
    let four = edge_part (pos 4) alpha (pos 30) (edge_length ends) refl (lit≤ tt) ha l in
    let less = edge_part (negsuc 0) alpha (pos 30) (edge_length ends) refl (lit≤ tt) ha l in
    let twice = edge_part (pos 2) alpha (pos 30) (edge_length ends) refl (lit≤ tt) ha l in
    let most = edge_part (pos 16) alpha (pos 30) (edge_length ends) refl (lit≤ tt) ha l in
    let end = edge_share (pos 1) g (pos 6) (edge_length ends) refl (lit≤ tt) hg l in
    let mid = edge_share (pos 4) g (pos 6) (edge_length ends) refl (lit≤ tt) hg l in
    record {
      few = omega (arith, three);
      rows = sym three;
      columns = all_three (λ (row : List ℤ). length row ≡ length dofs) _ _ _ (sym three) (sym three) (sym three);
      load = sym three;
      small = all_three (All IsSmallEntry) _ _ _ (all_three IsSmallEntry _ _ _ four less twice) (all_three IsSmallEntry _ _ _ less four twice) (all_three IsSmallEntry _ _ _ twice twice most);
      small_load = all_three IsSmallEntry _ _ _ end end mid;
    }

zero_entry : (c : ℤ) (l : ℕ) → c *ℤ pos 0 *ℤ pos l ≡ pos 0
zero_entry c l = ap (λ (x : ℤ). x *ℤ pos l) (*ℤ_comm c (pos 0) ∙ none_times c) ∙ none_times (pos l)

no_entry : (ends : List Point) (c : ℤ) → robin_entry ends (pos 0) c ≡ pos 0
unfolding robin_entry nearest
no_entry ends c = ap (λ x. nearest x (pos 30)) (zero_entry c (edge_length ends))

no_load : (ends : List Point) (c : ℤ) → robin_load ends (pos 0) c ≡ pos 0
unfolding robin_load nearest
no_load ends c = ap (λ x. nearest x (pos 6)) (zero_entry c (edge_length ends))

-- zeros where nothing is set
pub face_none : (ends : List Point) → boundary_form ends (pos 0) (pos 0) ≡ record { matrix = zero_matrix (0 ∷ 1 ∷ 2 ∷ []); load = zero_load (0 ∷ 1 ∷ 2 ∷ []) }
unfolding boundary_form edge_masses edge_shares
face_none ends = λ k. record { matrix = map (map (λ c. no_entry ends c k)) edge_masses; load = map (λ c. no_load ends c k) edge_shares }
