use Rattle.std.proofs.Common.{ℤ, pos, ◌-ℤ◌, ◌*ℤ◌, ◌^◌, ◌≤◌, FitsSigned, lit<, arith}
use Rattle.std.specs.Prelude.{unsigned_abs}
use Rattle.std.specs.Int.{w64}
use Rattle.std.proofs.lemmas.Int.{ints, to_z-of_z}
use Rattle.fixed_q2.specs.Biquadratic.{first}
use Rattle.fixed_q2.proofs.ShapeSizes.{first_small}
use Rattle.fixed_q1.proofs.Fits.{short_fits}
use Rattle.fixed_q2.proofs.shapes.first_factor.Goals as goal

pub returns-clause-value : goal.returns-clause-value
unfolding first
returns-clause-value c =
    let t : ℤ = c.args.t in
    let low : unsigned_abs t ≤ 2 ^ 16 = c.requires.0 in
    let high : unsigned_abs (pos 65536 -ℤ t) ≤ 2 ^ 16 = c.requires.1 in
    let ft : FitsSigned w64 t = c.ranges.t in
    let f0 : FitsSigned w64 (pos 65536 -ℤ t) = short_fits _ (2 ^ 16) (omega (arith, ints, low, high)) (lit< tt) in
    let f1 : FitsSigned w64 (pos 2 *ℤ t) = short_fits _ (2 ^ 17) (omega (arith, ints, low, high)) (lit< tt) in
    let f2 : FitsSigned w64 (pos 65536 -ℤ pos 2 *ℤ t) = short_fits _ (2 ^ 18) (omega (arith, ints, low, high)) (lit< tt) in
    let f3 : FitsSigned w64 ((pos 65536 -ℤ t) *ℤ (pos 65536 -ℤ pos 2 *ℤ t)) = short_fits _ (2 ^ 32) (first_small t c.requires).value (lit< tt) in
    let f4 : FitsSigned w64 (pos 4 *ℤ t) = short_fits _ (2 ^ 18) (omega (arith, ints, low, high)) (lit< tt) in
    let f5 : FitsSigned w64 (pos 4 *ℤ t -ℤ pos 196608) = short_fits _ (2 ^ 19) (omega (arith, ints, low, high)) (lit< tt) in
    simp to_z-of_z

pub returns-clause-small : goal.returns-clause-small
unfolding first
returns-clause-small c =
    let t : ℤ = c.args.t in
    let low : unsigned_abs t ≤ 2 ^ 16 = c.requires.0 in
    let high : unsigned_abs (pos 65536 -ℤ t) ≤ 2 ^ 16 = c.requires.1 in
    let ft : FitsSigned w64 t = c.ranges.t in
    let f0 : FitsSigned w64 (pos 65536 -ℤ t) = short_fits _ (2 ^ 16) (omega (arith, ints, low, high)) (lit< tt) in
    let f1 : FitsSigned w64 (pos 2 *ℤ t) = short_fits _ (2 ^ 17) (omega (arith, ints, low, high)) (lit< tt) in
    let f2 : FitsSigned w64 (pos 65536 -ℤ pos 2 *ℤ t) = short_fits _ (2 ^ 18) (omega (arith, ints, low, high)) (lit< tt) in
    let f3 : FitsSigned w64 ((pos 65536 -ℤ t) *ℤ (pos 65536 -ℤ pos 2 *ℤ t)) = short_fits _ (2 ^ 32) (first_small t c.requires).value (lit< tt) in
    let f4 : FitsSigned w64 (pos 4 *ℤ t) = short_fits _ (2 ^ 18) (omega (arith, ints, low, high)) (lit< tt) in
    let f5 : FitsSigned w64 (pos 4 *ℤ t -ℤ pos 196608) = short_fits _ (2 ^ 19) (omega (arith, ints, low, high)) (lit< tt) in
    simp to_z-of_z (first_small t c.requires)
