-- The sum of each factor times the value at its dof, term by term.
use Rattle.std.proofs.Common.{◌≡◌, ◌∙◌, sym, ap, subst, ℕ, ◌+◌, ◌*◌, ◌^◌, ◌<◌, ◌≤◌, ℤ, ◌+ℤ◌, ◌*ℤ◌, FitsSigned, to_z, of_z, List, [], ◌∷◌, ◌++◌, map, slice_index, arith, lit≤, lit<}
use Rattle.std.specs.Prelude.{unsigned_abs}
use Rattle.std.specs.Int.{w64, w128}
use Rattle.std.specs.List.{range_with_len}
use Rattle.std.proofs.lemmas.Int.{ints, to_z-of_z, fits_signed_from_abs}
use Rattle.std.proofs.lemmas.List.FromFn.{map-range_with_len_more}
use Rattle.fem_fixed.proofs.Sizes.{size_add, size_fits}
use Rattle.fixed_q1.specs.CellForm.{total}
use Rattle.fixed_q1.specs.JumpForm.{factor_at}
use Rattle.jump_refine.specs.Jumps.{value_at, weighted_sum}

pub term_at : List ℤ → List ℕ → List ℤ → ℕ → ℤ
term_at factors dofs values k = factor_at factors k *ℤ value_at values (slice_index dofs k)

total_push : (xs : List ℤ) (y : ℤ) → total (xs ++ y ∷ []) ≡ total xs +ℤ y
total_push [] y = omega (arith, ints)
total_push (x ∷ xs) y = let e = total_push xs y in ap (λ n. x +ℤ n) e ∙ apart x (total xs) y
  where
    apart : (a b c : ℤ) → a +ℤ (b +ℤ c) ≡ a +ℤ b +ℤ c
    apart a b c = omega (arith, ints)

-- the sum of the first k terms
pub record IsWeighed (factors : List ℤ) (dofs : List ℕ) (values : List ℤ) (k : ℕ) (sum : ℤ) : Type 0 where
  pub is : sum ≡ total (map (term_at factors dofs values) (range_with_len 0 k))
  pub small : unsigned_abs sum ≤ k * 2 ^ 71

grown : (k m a b : ℕ) → a ≤ k * m + b → b ≤ m → a ≤ (k + 1) * m
grown k m a b h i = grind (arith, h, i)

pub one_weighed : (factors : List ℤ) (dofs : List ℕ) (values : List ℤ) (k : ℕ) (sum term new : ℤ) → IsWeighed factors dofs values k sum → term ≡ factor_at factors k *ℤ value_at values (slice_index dofs k) → unsigned_abs term ≤ 2 ^ 71 →
    new ≡ sum +ℤ term → IsWeighed factors dofs values (k + 1) new
unfolding term_at
one_weighed factors dofs values k sum term new w t small e = record {
  is = e ∙ ap (λ n. n +ℤ term) w.is ∙ ap (λ n. total (map (term_at factors dofs values) (range_with_len 0 k)) +ℤ n) t
      ∙ sym (ap total (map-range_with_len_more (term_at factors dofs values) 0 k k (omega arith)) ∙ total_push (map (term_at factors dofs values) (range_with_len 0 k)) (term_at factors dofs values k));
  small = (let Small : ℤ → Type 0 = λ n. unsigned_abs n ≤ (k + 1) * 2 ^ 71 in
      subst Small (sym e) (grown k (2 ^ 71) (unsigned_abs (sum +ℤ term)) (2 ^ 71) (size_add sum term (k * 2 ^ 71) (2 ^ 71) w.small small) (lit≤ tt)));
}

few : (k m n : ℕ) → k < 8 → n ≤ k * m → n ≤ 7 * m
few k m n h i = let step : k * m ≤ 7 * m = grind (arith, h) in omega (arith, i, step)

pub weighed_fits : (factors : List ℤ) (dofs : List ℕ) (values : List ℤ) (k : ℕ) (sum term : ℤ) → IsWeighed factors dofs values k sum → k < 8 → unsigned_abs term ≤ 2 ^ 71 → FitsSigned w128 (sum +ℤ term)
weighed_fits factors dofs values k sum term w h small =
    size_fits (sum +ℤ term) (7 * 2 ^ 71 + 2 ^ 71) (size_add sum term (7 * 2 ^ 71) (2 ^ 71) (few k (2 ^ 71) (unsigned_abs sum) h w.small) small) (lit< tt)

pub all_weighed : (factors : List ℤ) (dofs : List ℕ) (values : List ℤ) (k : ℕ) (sum : ℤ) → IsWeighed factors dofs values k sum → k ≡ 8 → sum ≡ weighted_sum factors dofs values
unfolding weighted_sum term_at
all_weighed factors dofs values k sum w e = w.is ∙ ap (λ n. total (map (term_at factors dofs values) (range_with_len 0 n))) e

pub all_small : (factors : List ℤ) (dofs : List ℕ) (values : List ℤ) (k : ℕ) (sum : ℤ) → IsWeighed factors dofs values k sum → k ≡ 8 → unsigned_abs sum ≤ 2 ^ 74
all_small factors dofs values k sum w e =
    let Small : ℕ → Type 0 = λ n. unsigned_abs sum ≤ n * 2 ^ 71 in
    subst Small e w.small

-- a term, from what the code keeps of a factor and of a value
pub term_is : (factor value term : ℤ) → unsigned_abs factor ≤ 2 ^ 40 → unsigned_abs value ≤ 2 ^ 31 → term ≡ to_z w128 (of_z w128 factor) *ℤ to_z w64 (of_z w64 value) → term ≡ factor *ℤ value
term_is factor value term a b e =
    let f : FitsSigned w128 factor = size_fits factor (2 ^ 40) a (lit< tt) in
    let small : 2 ^ 31 < 2 ^ 63 = lit< tt in
    let v : FitsSigned w64 value = fits_signed_from_abs w64 value (omega (arith, b, small)) in
    simp to_z-of_z at e
