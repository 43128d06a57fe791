-- Steps of sums modulo 2^128.
use Rattle.std.proofs.Common.{◌≡◌, ◌∙◌, sym, ap, subst, refl, ℕ, suc, ◌+◌, ◌<◌, ◌==◌, ℤ, pos, ◌+ℤ◌, ◌*ℤ◌, cond, List, [], ◌∷◌, ◌++◌, length, map, get_or, set, take, FitsSigned, arith}
use Rattle.std.specs.Prelude.{slice_index, slice_index_or}
use Rattle.std.specs.Int.{w128, int_wrap}
use Rattle.std.specs.List.{range_with_len}
use Rattle.std.proofs.lemmas.Bool.{eq-eqb}
use Rattle.std.proofs.lemmas.Int.{ints, int_wrap-add_left, int_wrap-add_right, int_wrap_fits}
use Rattle.std.proofs.lemmas.List.{get_or_default, take_more, map-append}
use Rattle.lumped_mass.specs.Masses.{total, sum_at, cell_dofs, cell_shares, cell_mass, integral}
use Rattle.hanging_refine.specs.Refined.{RefinedMesh}
use Rattle.dof_numbers.specs.Dofs.{Numbering}
use Rattle.lumped_mass.specs.Sums.{with_share}
use Rattle.lumped_mass.proofs.Totals.{total_range_more, zero_right}

-- a share that goes to the dof
pub goes : (value share made : ℤ) (at dof : ℕ) → at ≡ dof → made ≡ int_wrap w128 (value +ℤ share) → made ≡ int_wrap w128 (value +ℤ cond (at == dof) share (pos 0))
goes value share made at dof same is = is ∙ ap (λ b. int_wrap w128 (value +ℤ cond b share (pos 0))) (sym (eq-eqb at dof same))

joined : (a b c : ℤ) → a +ℤ b +ℤ c ≡ a +ℤ (b +ℤ c)
joined a b c = omega (arith, ints)

-- one term more of a sum that started from a value
pub step : (f : ℕ → ℤ) (value old new x : ℤ) (n : ℕ) → old ≡ int_wrap w128 (value +ℤ total (map f (range_with_len 0 n))) → x ≡ f n → new ≡ int_wrap w128 (old +ℤ x) → new ≡ int_wrap w128 (value +ℤ total (map f (range_with_len 0 (n + 1))))
step f value old new x n is term made =
    made ∙ ap (λ o. int_wrap w128 (o +ℤ x)) is ∙ int_wrap-add_left w128 (value +ℤ total (map f (range_with_len 0 n))) x
    ∙ ap (int_wrap w128) (joined value (total (map f (range_with_len 0 n))) x ∙ ap (λ y. value +ℤ (total (map f (range_with_len 0 n)) +ℤ y)) term ∙ ap (λ s. value +ℤ s) (sym (total_range_more f n)))

-- one term more of the integral
pub term_more : (f : ℕ → ℤ) (old new product a b : ℤ) (n : ℕ) → old ≡ int_wrap w128 (total (map f (range_with_len 0 n))) → a *ℤ b ≡ f n → product ≡ int_wrap w128 (a *ℤ b) → new ≡ int_wrap w128 (old +ℤ product) →
    new ≡ int_wrap w128 (total (map f (range_with_len 0 (n + 1))))
term_more f old new product a b n is term made next =
    let sum : ℤ = total (map f (range_with_len 0 n)) in
    next ∙ ap (λ o. int_wrap w128 (o +ℤ product)) is ∙ int_wrap-add_left w128 sum product ∙ ap (λ p. int_wrap w128 (sum +ℤ p)) (made ∙ ap (int_wrap w128) term) ∙ int_wrap-add_right w128 sum (f n)
    ∙ ap (int_wrap w128) (sym (total_range_more f n))

-- a share added in its place
pub share_added : (items view : List ℤ) (dof : ℕ) (share at from sum written : ℤ) → items ≡ view → dof < length view → at ≡ get_or items dof at → from ≡ share → sum ≡ int_wrap w128 (at +ℤ from) → written ≡ sum → set items dof written ≡ with_share view dof share
share_added items view dof share at from sum written e low there same made is =
    let P : List ℤ → Type 0 = λ l. at ≡ get_or l dof at in
    let read : at ≡ get_or view dof (pos 0) = subst P e there ∙ get_or_default view dof at (pos 0) low in
    ap (λ l. set l dof written) e ∙ ap (set view dof) (is ∙ made ∙ ap (int_wrap w128) (ap (λ y. at +ℤ y) same ∙ ap (λ x. x +ℤ share) read))

-- the start of a sum from a value
pub from_value : (f : ℕ → ℤ) (value : ℤ) → FitsSigned w128 value → value ≡ int_wrap w128 (value +ℤ total (map f (range_with_len 0 0)))
from_value f value h = sym (int_wrap_fits w128 value h) ∙ ap (int_wrap w128) (sym (zero_right value))

-- what vertex v gives to a dof
abbrev pub gives : List ℕ → List ℤ → ℕ → ℕ → ℤ
gives dofs shares dof v = cond (slice_index dofs v == dof) (slice_index_or shares v (pos 0)) (pos 0)

pub all_shares : (dofs : List ℕ) (shares : List ℤ) (dof : ℕ) (value start sum : ℤ) (v : ℕ) → v ≡ 4 → start ≡ value → sum ≡ int_wrap w128 (start +ℤ total (map (gives dofs shares dof) (range_with_len 0 v))) → sum ≡ int_wrap w128 (value +ℤ sum_at dofs shares dof)
unfolding sum_at
all_shares dofs shares dof value start sum v four e is =
    is ∙ ap (λ x. int_wrap w128 (x +ℤ total (map (gives dofs shares dof) (range_with_len 0 v)))) e ∙ ap (λ n. int_wrap w128 (value +ℤ total (map (gives dofs shares dof) (range_with_len 0 n)))) four

-- the terms of an integral
abbrev pub product_at : List ℤ → List ℤ → ℕ → ℤ
product_at weights values dof = slice_index_or weights dof (pos 0) *ℤ slice_index_or values dof (pos 0)

pub all_terms : (weights values : List ℤ) (sum : ℤ) (n : ℕ) → n ≡ length weights → sum ≡ int_wrap w128 (total (map (product_at weights values) (range_with_len 0 n))) → sum ≡ int_wrap w128 (integral weights values)
unfolding integral
all_terms weights values sum n e is = is ∙ ap (λ k. int_wrap w128 (total (map (product_at weights values) (range_with_len 0 k)))) e

-- one number more of a list
pub take_one : {A B : Type 0} (f : A → B) (xs : List A) (old new : List B) (n : ℕ) (d : A) (y : B) → n < length xs → old ≡ map f (take n xs) → y ≡ f (get_or xs n d) → new ≡ old ++ y ∷ [] → new ≡ map f (take (n + 1) xs)
take_one f xs old new n d y low is same made =
    made ∙ ap (λ l. l ++ y ∷ []) is ∙ ap (λ x. map f (take n xs) ++ x ∷ []) same ∙ sym (ap (map f) (take_more xs n d low) ∙ map-append f (take n xs) (get_or xs n d ∷ []))

-- a row of a cell
pub row_added : (forest : RefinedMesh) (numbering : Numbering) (cell row : ℕ) (value result : ℤ) (dofs : List ℕ) (shares : List ℤ) → dofs ≡ cell_dofs numbering cell → shares ≡ cell_shares forest cell → result ≡ int_wrap w128 (value +ℤ sum_at dofs shares row) →
    result ≡ int_wrap w128 (value +ℤ cell_mass forest numbering row cell)
unfolding cell_mass
row_added forest numbering cell row value result dofs shares d s is =
    is ∙ ap (λ l. int_wrap w128 (value +ℤ sum_at l shares row)) d ∙ ap (λ l. int_wrap w128 (value +ℤ sum_at (cell_dofs numbering cell) l row)) s
