use Rattle.std.proofs.Common.{◌*ℤ◌, ◌*◌, ◌^◌, ◌≤◌, ◌≡◌, ℤ, FitsSigned, w64, lit<, arith, ap}
use Rattle.std.specs.Prelude.{unsigned_abs}
use Rattle.std.specs.Int.{w128}
use Rattle.std.proofs.lemmas.Int.{to_z-of_z}
use Rattle.fem_fixed.proofs.Sizes.{size_mul, size_fits}
use Rattle.block_sums.proofs.shares.triple.Goals as goal

pub overflow_mul-result : goal.overflow_mul-result
overflow_mul-result c =
    let weight : FitsSigned w64 c.args.weight = c.ranges.weight in
    let entry : FitsSigned w128 c.args.entry = c.ranges.entry in
    let told : unsigned_abs c.times.result ≤ unsigned_abs c.args.weight * 4722366482869645213696 = simp to_z-of_z at c.times.ensures.size in
    let small : unsigned_abs c.times.result ≤ 2 ^ 92 = omega (arith, told, c.requires.weight) in
    let narrow : FitsSigned w64 c.args.other = c.ranges.other in
    let other : FitsSigned w128 c.args.other = size_fits c.args.other (2 ^ 31) c.requires.other (lit< tt) in
    let first : FitsSigned w128 c.times.result = size_fits c.times.result (2 ^ 92) small (lit< tt) in
    simp to_z-of_z (size_fits (c.times.result *ℤ c.args.other) (2 ^ 92 * 2 ^ 31) (size_mul c.times.result c.args.other (2 ^ 92) (2 ^ 31) small c.requires.other) (lit< tt))

pub returns-clause-value : goal.returns-clause-value
returns-clause-value c =
    let weight : FitsSigned w64 c.args.weight = c.ranges.weight in
    let entry : FitsSigned w128 c.args.entry = c.ranges.entry in
    let told : unsigned_abs c.times.result ≤ unsigned_abs c.args.weight * 4722366482869645213696 = simp to_z-of_z at c.times.ensures.size in
    let small : unsigned_abs c.times.result ≤ 2 ^ 92 = omega (arith, told, c.requires.weight) in
    let narrow : FitsSigned w64 c.args.other = c.ranges.other in
    let other : FitsSigned w128 c.args.other = size_fits c.args.other (2 ^ 31) c.requires.other (lit< tt) in
    let first : FitsSigned w128 c.times.result = size_fits c.times.result (2 ^ 92) small (lit< tt) in
    let whole : FitsSigned w128 (c.times.result *ℤ c.args.other) =
    size_fits (c.times.result *ℤ c.args.other) (2 ^ 92 * 2 ^ 31) (size_mul c.times.result c.args.other (2 ^ 92) (2 ^ 31) small c.requires.other) (lit< tt) in
    let is : c.times.result ≡ c.args.weight *ℤ c.args.entry = simp to_z-of_z at c.times.ensures.value in
    simp to_z-of_z (ap (λ (x : ℤ). x *ℤ c.args.other) is)

pub returns-clause-size : goal.returns-clause-size
returns-clause-size c =
    let weight : FitsSigned w64 c.args.weight = c.ranges.weight in
    let entry : FitsSigned w128 c.args.entry = c.ranges.entry in
    let told : unsigned_abs c.times.result ≤ unsigned_abs c.args.weight * 4722366482869645213696 = simp to_z-of_z at c.times.ensures.size in
    let small : unsigned_abs c.times.result ≤ 2 ^ 92 = omega (arith, told, c.requires.weight) in
    let narrow : FitsSigned w64 c.args.other = c.ranges.other in
    let other : FitsSigned w128 c.args.other = size_fits c.args.other (2 ^ 31) c.requires.other (lit< tt) in
    let first : FitsSigned w128 c.times.result = size_fits c.times.result (2 ^ 92) small (lit< tt) in
    let whole : FitsSigned w128 (c.times.result *ℤ c.args.other) =
    size_fits (c.times.result *ℤ c.args.other) (2 ^ 92 * 2 ^ 31) (size_mul c.times.result c.args.other (2 ^ 92) (2 ^ 31) small c.requires.other) (lit< tt) in
    let size : unsigned_abs (c.times.result *ℤ c.args.other) ≤ 2 ^ 92 * unsigned_abs c.args.other =
    size_mul c.times.result c.args.other (2 ^ 92) (unsigned_abs c.args.other) small (omega arith) in
    simp to_z-of_z size
