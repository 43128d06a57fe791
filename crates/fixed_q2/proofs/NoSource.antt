-- Without a source the load is zero.
use Rattle.std.proofs.Common.{◌≡◌, ◌∙◌, refl, sym, ap, ℕ, ◌^◌, List, [], ◌∷◌, ℤ, pos, ◌+ℤ◌, ◌*ℤ◌, arith}
use Rattle.std.specs.Prelude.{map}
use Rattle.std.proofs.lemmas.Int.{ints}
use Rattle.fem_fixed.specs.Rounding.{nearest}
use Rattle.fem_fixed.proofs.Signs.{none_times}
use Rattle.fixed_q1.specs.CellForm.{total}
use Rattle.fixed_q1.specs.Evaluation.{number_at}
use Rattle.fixed_q2.specs.declared.sample.Sample.{Sample}
use Rattle.fixed_q2.specs.CellForm.{parts}
use Rattle.fixed_q2.specs.Samples.{kept_source, kept_load}
use Rattle.fixed_q2.proofs.Nine.{same_nine}

times_none : (a : ℤ) → a *ℤ pos 0 ≡ pos 0
times_none a = omega (arith, ints)

no_product : (v d : ℤ) → pos 0 *ℤ v *ℤ d ≡ pos 0
no_product v d = ap (λ x. x *ℤ d) (none_times v) ∙ none_times d

no_quotient : (x : ℤ) → x ≡ pos 0 → nearest x (pos (2 ^ 48)) ≡ pos 0
unfolding nearest
no_quotient x h = ap (λ y. nearest y (pos (2 ^ 48))) h

no_share : (weight n : ℤ) → n ≡ pos 0 → parts weight n ≡ pos 0
unfolding parts nearest
no_share weight n h = ap (λ y. nearest (weight *ℤ y) (pos 324)) h ∙ ap (λ y. nearest y (pos 324)) (times_none weight)

no_part : (i : ℕ) (s : Sample) → pos 0 ≡ kept_source (pos 0) i s
unfolding kept_source
no_part i s = sym (no_share s.weight _ (no_quotient _ (no_product (number_at s.values i) s.determinant)))

no_sum : (i : ℕ) (samples : List Sample) → pos 0 ≡ total (map (kept_source (pos 0) i) samples)
no_sum i [] = refl
no_sum i (s ∷ samples) =
    let first : pos 0 ≡ kept_source (pos 0) i s = no_part i s in
    let more : pos 0 ≡ total (map (kept_source (pos 0) i) samples) = no_sum i samples in
    ap (λ x. x +ℤ pos 0) first ∙ ap (λ x. kept_source (pos 0) i s +ℤ x) more

pub no_load : (source : ℤ) (list : List Sample) → source ≡ pos 0 →
    pos 0 ∷ pos 0 ∷ pos 0 ∷ pos 0 ∷ pos 0 ∷ pos 0 ∷ pos 0 ∷ pos 0 ∷ pos 0 ∷ [] ≡ kept_load list source
no_load source list h =
    rw h (same_nine _ _ _ _ _ _ _ _ _ _ _ _ _ _ _ _ _ _ (no_sum 0 list) (no_sum 1 list) (no_sum 2 list) (no_sum 3 list) (no_sum 4 list) (no_sum 5 list) (no_sum 6 list) (no_sum 7 list) (no_sum 8 list))
