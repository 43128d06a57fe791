use Rattle.std.proofs.Common.{◌*ℤ◌, ◌-ℤ◌, ◌+◌, ◌*◌, ◌^◌, ◌≤◌, ◌≡◌, ◌∙◌, ℤ, pos, FitsSigned, w64, lit<, arith, ap}
use Rattle.std.specs.Prelude.{unsigned_abs}
use Rattle.std.specs.Int.{w128}
use Rattle.std.proofs.lemmas.Int.{to_z-of_z}
use Rattle.fem_fixed.specs.Rounding.{nearest}
use Rattle.fem_fixed.proofs.Sizes.{size_sub, size_fits}
use Rattle.block_sums.specs.Shares.{constant_share}
use Rattle.block_sums.proofs.shares.constant_share.Goals as goal

pub returns-clause-value : goal.returns-clause-value
unfolding constant_share
returns-clause-value c =
    let weight : FitsSigned w64 c.args.weight = c.ranges.weight in
    let entry : FitsSigned w128 c.args.entry = c.ranges.entry in
    let constant : FitsSigned w64 c.args.constant = c.ranges.constant in
    let is : c.triple.result ≡ c.args.weight *ℤ c.args.entry *ℤ c.args.constant = simp to_z-of_z at c.triple.ensures.value in
    let told : unsigned_abs c.triple.result ≤ 4951760157141521099596496896 * unsigned_abs c.args.constant = simp to_z-of_z at c.triple.ensures.size in
    let small : unsigned_abs c.triple.result ≤ 2 ^ 123 = omega (arith, told, c.requires.constant) in
    let product : FitsSigned w128 c.triple.result = size_fits c.triple.result (2 ^ 123) small (lit< tt) in
    let turned : FitsSigned w128 (pos 0 -ℤ c.triple.result) = size_fits (pos 0 -ℤ c.triple.result) (0 + 2 ^ 123) (size_sub (pos 0) c.triple.result 0 (2 ^ 123) (omega arith) small) (lit< tt) in
    let near : c.rdiv_by_power.result ≡ nearest (pos 0 -ℤ c.triple.result) (pos 4294967296) = simp to_z-of_z at c.rdiv_by_power.ensures.value in
    let fits : FitsSigned w128 c.rdiv_by_power.result = record { sfits = c.rdiv_by_power.type_inv } in
    simp to_z-of_z (near ∙ ap (λ (x : ℤ). nearest (pos 0 -ℤ x) (pos 4294967296)) is)
