use Rattle.std.proofs.Common.{ℤ, pos, ◌+ℤ◌, ◌^◌, ◌≤◌, FitsSigned, arith, lit<}
use Rattle.std.specs.Prelude.{unsigned_abs}
use Rattle.std.specs.Int.{w64}
use Rattle.std.proofs.lemmas.Int.{ints, to_z-of_z}
use Rattle.fixed_q1.proofs.Fits.{short_fits}
use Rattle.fixed_q2.proofs.sharing.raised_by_half.Goals as goal

pub overflow_cast-result : goal.overflow_cast-result
overflow_cast-result c =
    let n : ℤ = c.args.n in
    let small : unsigned_abs n ≤ 2 ^ 57 = c.requires in
    let f0 : FitsSigned w64 n = c.ranges.n in
    let f1 : FitsSigned w64 (n +ℤ pos 162) = short_fits _ (2 ^ 58) (omega (arith, ints, small)) (lit< tt) in
    let f2 : FitsSigned w64 (n +ℤ pos 162 +ℤ pos 1459166279268040704) = short_fits _ (2 ^ 62) (omega (arith, ints, small)) (lit< tt) in
    simp to_z-of_z (omega (arith, ints, small), omega (arith, ints, small))

pub returns-clause-value : goal.returns-clause-value
returns-clause-value c =
    let n : ℤ = c.args.n in
    let small : unsigned_abs n ≤ 2 ^ 57 = c.requires in
    let f0 : FitsSigned w64 n = c.ranges.n in
    let f1 : FitsSigned w64 (n +ℤ pos 162) = short_fits _ (2 ^ 58) (omega (arith, ints, small)) (lit< tt) in
    let f2 : FitsSigned w64 (n +ℤ pos 162 +ℤ pos 1459166279268040704) = short_fits _ (2 ^ 62) (omega (arith, ints, small)) (lit< tt) in
    simp to_z-of_z (omega (arith, ints, small))

pub returns-clause-size : goal.returns-clause-size
returns-clause-size c =
    let n : ℤ = c.args.n in
    let small : unsigned_abs n ≤ 2 ^ 57 = c.requires in
    let f0 : FitsSigned w64 n = c.ranges.n in
    let f1 : FitsSigned w64 (n +ℤ pos 162) = short_fits _ (2 ^ 58) (omega (arith, ints, small)) (lit< tt) in
    let f2 : FitsSigned w64 (n +ℤ pos 162 +ℤ pos 1459166279268040704) = short_fits _ (2 ^ 62) (omega (arith, ints, small)) (lit< tt) in
    simp to_z-of_z (omega (arith, ints, small))
