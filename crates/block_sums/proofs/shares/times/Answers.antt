use Rattle.std.proofs.Common.{◌*ℤ◌, ◌*◌, ◌^◌, ◌≤◌, FitsSigned, w64, lit<, arith}
use Rattle.std.specs.Prelude.{unsigned_abs}
use Rattle.std.specs.Int.{w128}
use Rattle.std.proofs.lemmas.Int.{to_z-of_z}
use Rattle.fem_fixed.proofs.Sizes.{size_mul, size_fits}
use Rattle.block_sums.proofs.shares.times.Goals as goal

pub returns-clause-size : goal.returns-clause-size
returns-clause-size c =
    let narrow : FitsSigned w64 c.args.weight = c.ranges.weight in
    let weight : FitsSigned w128 c.args.weight = size_fits c.args.weight (2 ^ 31) c.requires.weight (lit< tt) in
    let entry : FitsSigned w128 c.args.entry = c.ranges.entry in
    let product : FitsSigned w128 (c.args.weight *ℤ c.args.entry) =
    size_fits (c.args.weight *ℤ c.args.entry) (2 ^ 31 * 2 ^ 72) (size_mul c.args.weight c.args.entry (2 ^ 31) (2 ^ 72) c.requires.weight c.requires.entry) (lit< tt) in
    let size : unsigned_abs (c.args.weight *ℤ c.args.entry) ≤ unsigned_abs c.args.weight * 2 ^ 72 =
    size_mul c.args.weight c.args.entry (unsigned_abs c.args.weight) (2 ^ 72) (omega arith) c.requires.entry in
    simp to_z-of_z size
