use Rattle.std.proofs.Common.{ℕ, pos, ◌-ℤ◌, ◌^◌, ◌-◌, ◌≤◌, ◌<◌, FitsSigned, arith, lit<}
use Rattle.std.specs.Prelude.{unsigned_abs}
use Rattle.std.specs.Int.{w64, w128}
use Rattle.std.proofs.lemmas.Int.{ints, to_z-of_z, to_z_pos}
use Rattle.fem_fixed.proofs.Sizes.{size_fits}
use Rattle.fixed_q1.proofs.Fits.{short_fits}
use Rattle.fixed_q2.proofs.sharing.lowered.Goals as goal

lowered_size : (q : ℕ) → q < 2 ^ 63 → unsigned_abs (pos q -ℤ pos 4503599627370496) ≤ 2 ^ 63 - 1
lowered_size q h = omega (arith, ints, h)

pub returns-clause-value : goal.returns-clause-value
returns-clause-value c =
    let q : ℕ = c.args.quotient in
    let size : unsigned_abs (pos q -ℤ pos 4503599627370496) ≤ 2 ^ 63 - 1 = lowered_size q c.requires in
    let f1 : FitsSigned w64 (pos q -ℤ pos 4503599627370496) = short_fits _ (2 ^ 63 - 1) size (lit< tt) in
    let f2 : FitsSigned w128 (pos q -ℤ pos 4503599627370496) = size_fits _ (2 ^ 63 - 1) size (lit< tt) in
    let read = to_z_pos w64 q c.requires in
    rw read (simp to_z-of_z)

pub returns-clause-size : goal.returns-clause-size
returns-clause-size c =
    let q : ℕ = c.args.quotient in
    let size : unsigned_abs (pos q -ℤ pos 4503599627370496) ≤ 2 ^ 63 - 1 = lowered_size q c.requires in
    let f1 : FitsSigned w64 (pos q -ℤ pos 4503599627370496) = short_fits _ (2 ^ 63 - 1) size (lit< tt) in
    let f2 : FitsSigned w128 (pos q -ℤ pos 4503599627370496) = size_fits _ (2 ^ 63 - 1) size (lit< tt) in
    let read = to_z_pos w64 q c.requires in
    rw read (simp to_z-of_z (omega (arith, size)))
