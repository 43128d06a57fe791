use Rattle.std.proofs.Common.{◌-ℤ◌, ◌*ℤ◌, ◌^◌, ◌≤◌, FitsSigned, lit<}
use Rattle.std.specs.Prelude.{unsigned_abs}
use Rattle.std.specs.Int.{w64}
use Rattle.std.proofs.lemmas.Int.{to_z-of_z}
use Rattle.fem_fixed.proofs.Sizes.{size_mul}
use Rattle.fixed_q2.proofs.Fits.{cross_size, cross_near}
use Rattle.fixed_q1.proofs.Fits.{short_fits}
use Rattle.fixed_q2.proofs.sample.cross.Goals as goal

pub overflow_sub-result : goal.overflow_sub-result
overflow_sub-result c =
    let short_a : FitsSigned w64 c.args.a = short_fits c.args.a (2 ^ 28) c.requires.a (lit< tt) in
    let short_b : FitsSigned w64 c.args.b = short_fits c.args.b (2 ^ 18) c.requires.b (lit< tt) in
    let short_c : FitsSigned w64 c.args.c = short_fits c.args.c (2 ^ 28) c.requires.c (lit< tt) in
    let short_d : FitsSigned w64 c.args.d = short_fits c.args.d (2 ^ 18) c.requires.d (lit< tt) in
    let size : unsigned_abs (c.args.a *ℤ c.args.b -ℤ c.args.c *ℤ c.args.d) ≤ 2 ^ 47 =
    cross_size c.args.a c.args.b c.args.c c.args.d c.requires.a c.requires.b c.requires.c c.requires.d in
    let first : FitsSigned w64 (c.args.a *ℤ c.args.b) = short_fits _ (2 ^ 46) (size_mul c.args.a c.args.b (2 ^ 28) (2 ^ 18) c.requires.a c.requires.b) (lit< tt) in
    let second : FitsSigned w64 (c.args.c *ℤ c.args.d) = short_fits _ (2 ^ 46) (size_mul c.args.c c.args.d (2 ^ 28) (2 ^ 18) c.requires.c c.requires.d) (lit< tt) in
    let short : FitsSigned w64 (c.args.a *ℤ c.args.b -ℤ c.args.c *ℤ c.args.d) = short_fits _ (2 ^ 47) size (lit< tt) in
    simp to_z-of_z short

pub returns-clause-value : goal.returns-clause-value
returns-clause-value c =
    let short_a : FitsSigned w64 c.args.a = short_fits c.args.a (2 ^ 28) c.requires.a (lit< tt) in
    let short_b : FitsSigned w64 c.args.b = short_fits c.args.b (2 ^ 18) c.requires.b (lit< tt) in
    let short_c : FitsSigned w64 c.args.c = short_fits c.args.c (2 ^ 28) c.requires.c (lit< tt) in
    let short_d : FitsSigned w64 c.args.d = short_fits c.args.d (2 ^ 18) c.requires.d (lit< tt) in
    let size : unsigned_abs (c.args.a *ℤ c.args.b -ℤ c.args.c *ℤ c.args.d) ≤ 2 ^ 47 =
    cross_size c.args.a c.args.b c.args.c c.args.d c.requires.a c.requires.b c.requires.c c.requires.d in
    let first : FitsSigned w64 (c.args.a *ℤ c.args.b) = short_fits _ (2 ^ 46) (size_mul c.args.a c.args.b (2 ^ 28) (2 ^ 18) c.requires.a c.requires.b) (lit< tt) in
    let second : FitsSigned w64 (c.args.c *ℤ c.args.d) = short_fits _ (2 ^ 46) (size_mul c.args.c c.args.d (2 ^ 28) (2 ^ 18) c.requires.c c.requires.d) (lit< tt) in
    let short : FitsSigned w64 (c.args.a *ℤ c.args.b -ℤ c.args.c *ℤ c.args.d) = short_fits _ (2 ^ 47) size (lit< tt) in
    simp to_z-of_z

pub returns-clause-size : goal.returns-clause-size
returns-clause-size c =
    let short_a : FitsSigned w64 c.args.a = short_fits c.args.a (2 ^ 28) c.requires.a (lit< tt) in
    let short_b : FitsSigned w64 c.args.b = short_fits c.args.b (2 ^ 18) c.requires.b (lit< tt) in
    let short_c : FitsSigned w64 c.args.c = short_fits c.args.c (2 ^ 28) c.requires.c (lit< tt) in
    let short_d : FitsSigned w64 c.args.d = short_fits c.args.d (2 ^ 18) c.requires.d (lit< tt) in
    let size : unsigned_abs (c.args.a *ℤ c.args.b -ℤ c.args.c *ℤ c.args.d) ≤ 2 ^ 47 =
    cross_size c.args.a c.args.b c.args.c c.args.d c.requires.a c.requires.b c.requires.c c.requires.d in
    let first : FitsSigned w64 (c.args.a *ℤ c.args.b) = short_fits _ (2 ^ 46) (size_mul c.args.a c.args.b (2 ^ 28) (2 ^ 18) c.requires.a c.requires.b) (lit< tt) in
    let second : FitsSigned w64 (c.args.c *ℤ c.args.d) = short_fits _ (2 ^ 46) (size_mul c.args.c c.args.d (2 ^ 28) (2 ^ 18) c.requires.c c.requires.d) (lit< tt) in
    let short : FitsSigned w64 (c.args.a *ℤ c.args.b -ℤ c.args.c *ℤ c.args.d) = short_fits _ (2 ^ 47) size (lit< tt) in
    simp to_z-of_z (cross_near c.args.a c.args.b c.args.c c.args.d c.requires.b c.requires.d)
