-- The cells on the two sides of a part may change places: the halves of its matrix are exchanged.
use Rattle.std.proofs.Common.{◌≡◌, ◌∙◌, sym, refl, ap, ℕ, List, [], ◌∷◌, ◌++◌, Bool, true, false, ℤ, take, drop}
use Rattle.std.specs.Prelude.{map, ◌||◌, if◌then◌else◌, Ok, Err}
use Rattle.std.specs.List.{list_any}
use Rattle.std.proofs.lemmas.List.Folds.{list_any-append}
use Rattle.std.proofs.Math.Bool.{or_comm}
use Rattle.std.proofs.lemmas.List.{take-append-drop}
use Rattle.fem_fixed.specs.declared.mesh.Point.{Point}
use Rattle.fem_fixed.proofs.Signs.{opposite_twice}
use Rattle.fixed_q1.specs.declared.fault.LocalFault.TheVariants.{Distorted, Size}
use Rattle.fixed_q1.specs.declared.geometry.Vector.{Vector}
use Rattle.fixed_q1.specs.LocalForm.{zero_load, is_large}
use Rattle.fixed_q1.specs.JumpForm.{normal, jump_entry, is_steep, is_folded_at}
use Rattle.fixed_q1.proofs.Turned.{opposite, steep_turned}
use Rattle.fixed_q2.specs.Biquadratic.{shape_numbers}
use Rattle.fixed_q2.specs.JumpForm.{slope_along, jump_factors, part_numbers, penalty_matrix, jump_form, exchanged, other_way}
use Rattle.fixed_q2.proofs.Turned.{matrix_turned}

-- the jumps, with the other sign
factors_exchanged : (here there : List Point) (p q : Vector) (ends : List Point) →
    jump_factors there q here p ends ≡ map opposite (exchanged (jump_factors here p there q ends))
unfolding jump_factors
factors_exchanged here there p q ends = λ k.
    map (λ i. sym (opposite_twice (slope_along (normal ends) there q i)) k) shape_numbers ++ map (λ i. opposite (slope_along (normal ends) here p i)) shape_numbers

-- eighteen jumps, nine by nine
abbrev eighteen : (ℕ → ℤ) → (ℕ → ℤ) → List ℤ
eighteen s t = map s shape_numbers ++ map t shape_numbers

matrix_exchanged : (gamma : ℤ) (s t : ℕ → ℤ) → penalty_matrix gamma (exchanged (eighteen s t)) ≡ map exchanged (exchanged (penalty_matrix gamma (eighteen s t)))
unfolding penalty_matrix jump_entry
matrix_exchanged gamma s t = refl

part_exchanged : (here there : List Point) (p q : Vector) (ends : List Point) (gamma : ℤ) →
    penalty_matrix gamma (exchanged (jump_factors here p there q ends)) ≡ map exchanged (exchanged (penalty_matrix gamma (jump_factors here p there q ends)))
unfolding jump_factors
part_exchanged here there p q ends gamma =
    matrix_exchanged gamma (slope_along (normal ends) here p) (λ i. opposite (slope_along (normal ends) there q i))

any_exchanged : {X : Type 0} (test : X → Bool) (list : List X) → list_any test (exchanged list) ≡ list_any test list
any_exchanged test list =
    list_any-append test (drop 9 list) (take 9 list) ∙ or_comm (list_any test (drop 9 list)) (list_any test (take 9 list))
    ∙ sym (list_any-append test (take 9 list) (drop 9 list)) ∙ ap (list_any test) (take-append-drop 9 list)

any_row_exchanged : (test : ℤ → Bool) (rows : List (List ℤ)) → list_any (list_any test) (map exchanged rows) ≡ list_any (list_any test) rows
any_row_exchanged test [] = refl
any_row_exchanged test (row ∷ rows) =
    ap (λ b. b || list_any (list_any test) (map exchanged rows)) (any_exchanged test row)
    ∙ ap (λ b. list_any test row || b) (any_row_exchanged test rows)

large_exchanged : (matrix : List (List ℤ)) → is_large (map exchanged (exchanged matrix)) ≡ is_large matrix
unfolding is_large
large_exchanged matrix = any_row_exchanged _ (exchanged matrix) ∙ any_exchanged _ matrix

steep_exchanged : (factors : List ℤ) → is_steep (exchanged factors) ≡ is_steep factors
unfolding is_steep
steep_exchanged factors = any_exchanged _ factors

-- the same fault, or the exchanged form
decided : (folded large other_large : Bool) (matrix other : List (List ℤ)) → other_large ≡ large → other ≡ map exchanged (exchanged matrix) →
    (if folded then Err Distorted else if other_large then Err Size else Ok (record { matrix = other; load = zero_load part_numbers }))
    ≡ other_way (if folded then Err Distorted else if large then Err Size else Ok (record { matrix = matrix; load = zero_load part_numbers }))
decided true large other_large matrix other h k = refl
decided false true other_large matrix other h k = rw h refl
decided false false other_large matrix other h k = rw h (ap (λ (m : List (List ℤ)). Ok (record { matrix = m; load = zero_load part_numbers })) k)

pub form_exchanged : (here there : List Point) (p q : Vector) (ends : List Point) (gamma : ℤ) →
    jump_form there q here p ends gamma ≡ other_way (jump_form here p there q ends gamma)
unfolding jump_form
form_exchanged here there p q ends gamma =
    let factors : List ℤ = jump_factors here p there q ends in
    let other : List ℤ = jump_factors there q here p ends in
    let turned : other ≡ map opposite (exchanged factors) = factors_exchanged here there p q ends in
    let matrix : penalty_matrix gamma other ≡ map exchanged (exchanged (penalty_matrix gamma factors)) =
    ap (penalty_matrix gamma) turned ∙ matrix_turned gamma (exchanged factors) ∙ part_exchanged here there p q ends gamma in
    let steep : is_steep other ≡ is_steep factors = ap is_steep turned ∙ steep_turned (exchanged factors) ∙ steep_exchanged factors in
    let large : is_large (penalty_matrix gamma other) ≡ is_large (penalty_matrix gamma factors) = ap is_large matrix ∙ large_exchanged (penalty_matrix gamma factors) in
    let both : (is_steep other || is_large (penalty_matrix gamma other)) ≡ (is_steep factors || is_large (penalty_matrix gamma factors)) =
    λ k. steep k || large k in
    ap (λ folded. if folded then Err Distorted else if is_steep other || is_large (penalty_matrix gamma other) then Err Size else Ok (record { matrix = penalty_matrix gamma other; load = zero_load part_numbers }))
    (or_comm (is_folded_at there q) (is_folded_at here p))
    ∙ decided (is_folded_at here p || is_folded_at there q) (is_steep factors || is_large (penalty_matrix gamma factors)) (is_steep other || is_large (penalty_matrix gamma other))
    (penalty_matrix gamma factors) (penalty_matrix gamma other) both matrix
