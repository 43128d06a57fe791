use Rattle.std.proofs.Common.{◌*ℤ◌, ◌^◌, ◌≤◌, FitsSigned, lit<}
use Rattle.std.specs.Prelude.{unsigned_abs}
use Rattle.std.specs.Int.{w64}
use Rattle.std.proofs.lemmas.Int.{to_z-of_z}
use Rattle.fem_fixed.proofs.Sizes.{size_mul}
use Rattle.fixed_q1.proofs.Fits.{short_fits}
use Rattle.fixed_q1.proofs.shapes.times.Goals as goal

pub returns-clause-value : goal.returns-clause-value
returns-clause-value c =
    let a : FitsSigned w64 c.args.a = c.ranges.a in
    let b : FitsSigned w64 c.args.b = c.ranges.b in
    let size : unsigned_abs (c.args.a *ℤ c.args.b) ≤ 2 ^ 32 = size_mul c.args.a c.args.b (2 ^ 16) (2 ^ 16) c.requires.a c.requires.b in
    let whole : FitsSigned w64 (c.args.a *ℤ c.args.b) = short_fits _ (2 ^ 32) size (lit< tt) in
    simp to_z-of_z

pub returns-clause-size : goal.returns-clause-size
returns-clause-size c =
    let a : FitsSigned w64 c.args.a = c.ranges.a in
    let b : FitsSigned w64 c.args.b = c.ranges.b in
    let size : unsigned_abs (c.args.a *ℤ c.args.b) ≤ 2 ^ 32 = size_mul c.args.a c.args.b (2 ^ 16) (2 ^ 16) c.requires.a c.requires.b in
    let whole : FitsSigned w64 (c.args.a *ℤ c.args.b) = short_fits _ (2 ^ 32) size (lit< tt) in
    simp to_z-of_z size
