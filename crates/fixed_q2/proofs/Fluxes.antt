-- What the fast way gives is what the point adds.
use Rattle.std.proofs.Common.{◌≡◌, ◌∙◌, refl, ap, ℕ, ◌+◌, ◌*◌, ◌^◌, ◌<◌, ◌≤◌, true, false, ℤ, pos, ◌*ℤ◌, ◌<ℤ◌, arith}
use Rattle.std.specs.Prelude.{unsigned_abs, int_le, int_lt}
use Rattle.std.proofs.Math.Nat.{mul-le-mul_left}
use Rattle.std.proofs.lemmas.Int.{ints, unsigned_abs-mul}
use Rattle.fem_fixed.specs.Rounding.{IsNearest, nearest}
use Rattle.fixed_q1.specs.declared.geometry.Vector.{Vector}
use Rattle.fixed_q1.specs.declared.geometry.Jacobian.{Jacobian}
use Rattle.fixed_q1.specs.CellForm.{dot}
use Rattle.fixed_q1.specs.Evaluation.{vector_at, number_at}
use Rattle.fixed_q1.proofs.Certain.{certain_value}
use Rattle.fixed_q2.specs.declared.sample.Sample.{Sample}
use Rattle.fixed_q2.specs.declared.flux.Flux.{Flux}
use Rattle.fixed_q2.specs.declared.flux.ScaledSource.{ScaledSource}
use Rattle.fixed_q2.specs.CellForm.{parts}
use Rattle.fixed_q2.specs.Samples.{kept_diffusion, kept_source, flux_along, fluxes_along, IsOnCell, IsSmallFlux, IsFluxOf, IsScaledSourceOf}
use Rattle.fixed_q2.proofs.Algebra.{turned, flux_dot}
use Rattle.fixed_q2.proofs.Nine.{at_nine}

flux_at : (d : ℤ) (s : Sample) (i : ℕ) → i < 9 → vector_at (fluxes_along d s) i ≡ flux_along d (vector_at s.gradients i)
flux_at d s = at_nine (λ i. vector_at (fluxes_along d s) i ≡ flux_along d (vector_at s.gradients i)) refl refl refl refl refl refl refl refl refl

narrow_number : (d x a b : ℕ) → x ≤ (a + b) * 2 ^ 18 → d * a ≤ 2 ^ 42 → d * b ≤ 2 ^ 42 → d * x ≤ 2 ^ 61
narrow_number d x a b h ha hb =
    let grown : d * x ≤ d * ((a + b) * 2 ^ 18) = mul-le-mul_left d h in
    omega (arith, grown, ha, hb)

narrow_size : (d x : ℤ) (a b : ℕ) → unsigned_abs x ≤ (a + b) * 2 ^ 18 → unsigned_abs d * a ≤ 2 ^ 42 → unsigned_abs d * b ≤ 2 ^ 42 →
    unsigned_abs (d *ℤ x) ≤ 2 ^ 61
narrow_size d x a b h ha hb = rw unsigned_abs-mul (narrow_number (unsigned_abs d) (unsigned_abs x) a b h ha hb)

-- where the diffusion times each slope is small, so is each flux
pub narrow_flux : (d : ℤ) (j : Jacobian) (g : Vector) → IsOnCell j g → unsigned_abs d * unsigned_abs j.xx ≤ 2 ^ 42 →
    unsigned_abs d * unsigned_abs j.xy ≤ 2 ^ 42 → unsigned_abs d * unsigned_abs j.yx ≤ 2 ^ 42 → unsigned_abs d * unsigned_abs j.yy ≤ 2 ^ 42 →
    IsSmallFlux (flux_along d g)
narrow_flux d j g on xx xy yx yy = (
  narrow_size d g.x (unsigned_abs j.yy) (unsigned_abs j.yx) on.0 yy yx,
  narrow_size d g.y (unsigned_abs j.xx) (unsigned_abs j.xy) on.1 xx xy,
)

short_divisor : (n : ℤ) → n <ℤ pos (2 ^ 46) → pos 0 <ℤ n → unsigned_abs (pos 65536 *ℤ n) < 2 ^ 62
short_divisor n h k = omega (arith, ints, h, k)

-- with one
pub whole_flux : (d : ℤ) (s : Sample) (f : Flux) → pos 0 <ℤ s.determinant → s.determinant <ℤ pos (2 ^ 46) → f.divisor ≡ pos 65536 *ℤ s.determinant →
    f.fluxes ≡ fluxes_along d s → ((i : ℕ) → i < 9 → IsSmallFlux (flux_along d (vector_at s.gradients i))) → IsFluxOf d s f
whole_flux d s f positive short divisor fluxes small = record {
  small = λ i h. rw (fluxes, flux_at d s i h) (small i h);
  divisor = rw divisor (short_divisor s.determinant short positive);
  divides = λ h. divisor;
  fluxes = λ h i below. rw fluxes (flux_at d s i below);
}

-- a quotient that is certain gives the point's part
pub certain_part : (d : ℤ) (s : Sample) (f : Flux) (i j : ℕ) (q : ℤ) → IsFluxOf d s f → i < 9 → pos 0 <ℤ f.divisor →
    IsNearest (dot (vector_at f.fluxes i) (vector_at s.gradients j)) f.divisor q → parts s.weight q ≡ kept_diffusion d i j s
unfolding kept_diffusion
certain_part d s f i j q of below positive near =
    let value : q ≡ nearest (dot (vector_at f.fluxes i) (vector_at s.gradients j)) f.divisor =
    certain_value (dot (vector_at f.fluxes i) (vector_at s.gradients j)) f.divisor q positive near in
    let dividend : dot (vector_at f.fluxes i) (vector_at s.gradients j) ≡ d *ℤ dot (vector_at s.gradients i) (vector_at s.gradients j) =
    ap (λ g. dot g (vector_at s.gradients j)) (of.fluxes positive i below) ∙ flux_dot d (vector_at s.gradients i) (vector_at s.gradients j) in
    ap (parts s.weight)
    (value ∙ ap (λ n. nearest n f.divisor) dividend
    ∙ ap (nearest (d *ℤ dot (vector_at s.gradients i) (vector_at s.gradients j))) (of.divides positive))

pub certain_source : (f : ℤ) (s : Sample) (h : ScaledSource) (i : ℕ) (q : ℤ) → IsScaledSourceOf f s h →
    IsNearest (h.product *ℤ number_at s.values i) (pos (2 ^ 48)) q → parts s.weight q ≡ kept_source f i s
unfolding kept_source
certain_source f s h i q of near =
    let value : q ≡ nearest (h.product *ℤ number_at s.values i) (pos (2 ^ 48)) =
    certain_value (h.product *ℤ number_at s.values i) (pos (2 ^ 48)) q (record { lt = tt }) near in
    let dividend : h.product *ℤ number_at s.values i ≡ f *ℤ number_at s.values i *ℤ s.determinant =
    ap (λ n. n *ℤ number_at s.values i) of ∙ turned f s.determinant (number_at s.values i) in
    ap (parts s.weight) (value ∙ ap (λ n. nearest n (pos (2 ^ 48))) dividend)

-- tests that were passed
pub below_limit : (n : ℤ) → int_le (pos 70368744177664) n ≡ false → n <ℤ pos (2 ^ 46)
below_limit n h = grind (arith, ints)

pub above_none : (n : ℤ) → int_lt (pos 0) n ≡ true → pos 0 <ℤ n
above_none n h = grind (arith, ints)
