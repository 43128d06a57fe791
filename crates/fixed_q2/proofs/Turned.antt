-- The ends of a face may change places: each jump changes its sign, and the form stays.
use Rattle.std.proofs.Common.{◌≡◌, ◌∙◌, refl, ap, ℕ, zero, suc, List, [], ◌∷◌, ◌++◌, Bool, true, false, ℤ, pos, ◌+ℤ◌, ◌-ℤ◌, ◌*ℤ◌, ◌<ℤ◌, arith}
use Rattle.std.specs.Prelude.{map, ◌||◌, if◌then◌else◌, Ok, Err}
use Rattle.std.specs.declared.result.Result.{Result}
use Rattle.std.proofs.lemmas.Int.{ints}
use Rattle.fem_fixed.specs.declared.mesh.Point.{Point}
use Rattle.fem_fixed.specs.Rounding.{nearest}
use Rattle.fem_fixed.proofs.Signs.{opposite_times, times_opposite, opposite_twice, nearest_opposite}
use Rattle.fixed_q1.specs.declared.fault.LocalFault.{LocalFault}
use Rattle.fixed_q1.specs.declared.fault.LocalFault.TheVariants.{Distorted, Size}
use Rattle.fixed_q1.specs.declared.geometry.Vector.{Vector}
use Rattle.fixed_q1.specs.LocalForm.{LocalForm, zero_load, is_large}
use Rattle.fixed_q1.specs.Geometry.{vector}
use Rattle.fixed_q1.specs.CellForm.{determinant_at, dot}
use Rattle.fixed_q1.specs.JumpForm.{normal, factor_at, jump_entry, is_steep, is_folded_at}
use Rattle.fixed_q1.proofs.Forms.{positive_if}
use Rattle.fixed_q1.proofs.Jumps.{neither}
use Rattle.fixed_q1.proofs.Turned.{opposite, steep_turned}
use Rattle.fixed_q2.specs.Biquadratic.{shape_numbers}
use Rattle.fixed_q2.specs.CellForm.{gradient_at}
use Rattle.fixed_q2.specs.JumpForm.{slope_along, jump_factors, part_numbers, penalty_matrix, jump_form}

abbrev turned : Vector → Vector
turned n = vector (opposite n.x) (opposite n.y)

way_back : (a b : ℤ) → a -ℤ b ≡ opposite (b -ℤ a)
way_back a b = omega (arith, ints)

normal_turned : (a b : Point) → normal (b ∷ a ∷ []) ≡ turned (normal (a ∷ b ∷ []))
unfolding normal
normal_turned a b = rw (way_back a.y b.y, way_back b.x a.x)

sum_back : (a b : ℤ) → opposite a +ℤ opposite b ≡ opposite (a +ℤ b)
sum_back a b = omega (arith, ints)

dot_turned : (n g : Vector) → dot (turned n) g ≡ opposite (dot n g)
dot_turned n g = rw (opposite_times n.x g.x, opposite_times n.y g.y) (sum_back (n.x *ℤ g.x) (n.y *ℤ g.y))

slope_turned : (n : Vector) (vertices : List Point) (p : Vector) (i : ℕ) → pos 0 <ℤ determinant_at vertices p →
    slope_along (turned n) vertices p i ≡ opposite (slope_along n vertices p i)
unfolding slope_along
slope_turned n vertices p i positive =
    ap (λ x. nearest x (determinant_at vertices p)) (dot_turned n (gradient_at vertices p i))
    ∙ nearest_opposite (dot n (gradient_at vertices p i)) (determinant_at vertices p) positive

factors_turned : (here there : List Point) (p q : Vector) (a b : Point) → pos 0 <ℤ determinant_at here p → pos 0 <ℤ determinant_at there q →
    jump_factors here p there q (b ∷ a ∷ []) ≡ map opposite (jump_factors here p there q (a ∷ b ∷ []))
unfolding jump_factors
factors_turned here there p q a b hp hq =
    ap (λ n. map (slope_along n here p) shape_numbers ++ map (λ i. opposite (slope_along n there q i)) shape_numbers) (normal_turned a b)
    ∙ (λ k. map (λ i. slope_turned (normal (a ∷ b ∷ [])) here p i hp k) shape_numbers ++ map (λ i. opposite (slope_turned (normal (a ∷ b ∷ [])) there q i hq k)) shape_numbers)

factor_turned : (factors : List ℤ) (i : ℕ) → factor_at (map opposite factors) i ≡ opposite (factor_at factors i)
factor_turned [] i = refl
factor_turned (q ∷ factors) zero = refl
factor_turned (q ∷ factors) (suc i) = factor_turned factors i

product_turned : (gamma p q : ℤ) → gamma *ℤ opposite p *ℤ opposite q ≡ gamma *ℤ p *ℤ q
product_turned gamma p q =
    ap (λ x. x *ℤ opposite q) (times_opposite gamma p) ∙ opposite_times (gamma *ℤ p) (opposite q)
    ∙ ap opposite (times_opposite (gamma *ℤ p) q) ∙ opposite_twice (gamma *ℤ p *ℤ q)

entry_turned : (gamma : ℤ) (factors : List ℤ) (i j : ℕ) → jump_entry gamma (map opposite factors) i j ≡ jump_entry gamma factors i j
unfolding jump_entry
entry_turned gamma factors i j =
    ap (λ x. nearest (gamma *ℤ x *ℤ factor_at (map opposite factors) j) (pos 65536)) (factor_turned factors i)
    ∙ ap (λ x. nearest (gamma *ℤ opposite (factor_at factors i) *ℤ x) (pos 65536)) (factor_turned factors j)
    ∙ ap (λ x. nearest x (pos 65536)) (product_turned gamma (factor_at factors i) (factor_at factors j))

pub matrix_turned : (gamma : ℤ) (factors : List ℤ) → penalty_matrix gamma (map opposite factors) ≡ penalty_matrix gamma factors
unfolding penalty_matrix
matrix_turned gamma factors = λ k. map (λ i. map (λ j. entry_turned gamma factors i j k) part_numbers) part_numbers

abbrev chosen : Bool → ℤ → List ℤ → Result LocalForm LocalFault
chosen folded gamma factors =
    if folded then Err Distorted
    else if is_steep factors || is_large (penalty_matrix gamma factors) then Err Size
    else Ok (record { matrix = penalty_matrix gamma factors; load = zero_load part_numbers })

chosen_turned : (folded : Bool) (gamma : ℤ) (factors other : List ℤ) → (folded ≡ false → other ≡ map opposite factors) →
    chosen folded gamma other ≡ chosen folded gamma factors
chosen_turned true gamma factors other h = refl
chosen_turned false gamma factors other h =
    ap (chosen false gamma) (h refl)
    ∙ ap (λ m. if is_steep (map opposite factors) || is_large m then Err Size else Ok (record { matrix = m; load = zero_load part_numbers }))
    (matrix_turned gamma factors)
    ∙ ap (λ s. if s || is_large (penalty_matrix gamma factors) then Err Size else Ok (record { matrix = penalty_matrix gamma factors; load = zero_load part_numbers }))
    (steep_turned factors)

pub form_turned : (here there : List Point) (p q : Vector) (a b : Point) (gamma : ℤ) →
    jump_form here p there q (b ∷ a ∷ []) gamma ≡ jump_form here p there q (a ∷ b ∷ []) gamma
unfolding jump_form
form_turned here there p q a b gamma =
    chosen_turned (is_folded_at here p || is_folded_at there q) gamma (jump_factors here p there q (a ∷ b ∷ [])) (jump_factors here p there q (b ∷ a ∷ []))
    (λ h. (let both : (is_folded_at here p ≡ false) × (is_folded_at there q ≡ false) = neither (is_folded_at here p) (is_folded_at there q) h in
    factors_turned here there p q a b (positive_if (determinant_at here p) both.0) (positive_if (determinant_at there q) both.1)))
