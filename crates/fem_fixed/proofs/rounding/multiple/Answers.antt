use Rattle.std.proofs.Common.{◌≡◌, ◌∙◌, ap, pos, ◌^◌, ◌≤◌, ◌*ℤ◌, ◌*◌, unsigned_abs, FitsSigned, to_z, of_z, lit<}
use Rattle.std.specs.Int.{w128}
use Rattle.std.specs.Prelude.{◌%◌}
use Rattle.std.proofs.lemmas.Int.{to_z-of_z}
use Rattle.fem_fixed.specs.Rounding.{nearest}
use Rattle.fem_fixed.specs.KeptSum.{nearest_multiple}
use Rattle.fem_fixed.proofs.Kept.{unit_is, unit_positive, multiple_small}
use Rattle.fem_fixed.proofs.Sizes.{size_fits}
use Rattle.fem_fixed.proofs.rounding.multiple.Goals as goal

pub rdiv-requires : goal.rdiv-requires
rdiv-requires c = rw (unit_is c.args.power c.requires.power) (unit_positive c.args.power)

pub returns : goal.returns
returns c =
    let fits : FitsSigned w128 c.rdiv.result = record { sfits = c.rdiv.type_inv } in
    let unit = unit_is c.args.power c.requires.power in
    let q : c.rdiv.result ≡ nearest c.args.sum (pos (2 ^ c.args.power)) = c.rdiv.ensures.value ∙ ap (λ x. nearest x (to_z w128 (1 * 2 ^ c.args.power % 340282366920938463463374607431768211456))) (to_z-of_z w128 c.args.sum c.ranges.sum) ∙ ap (λ u. nearest c.args.sum u) unit in
    let small : unsigned_abs (nearest_multiple (pos (2 ^ c.args.power)) c.args.sum) ≤ 2 ^ 80 = multiple_small c.args.power c.args.sum c.requires.power c.requires.sum in
    let product : to_z w128 (1 * 2 ^ c.args.power % 340282366920938463463374607431768211456) *ℤ to_z w128 (of_z w128 c.rdiv.result) ≡ nearest_multiple (pos (2 ^ c.args.power)) c.args.sum =
    ap (λ u. u *ℤ to_z w128 (of_z w128 c.rdiv.result)) unit ∙ ap (λ x. pos (2 ^ c.args.power) *ℤ x) (to_z-of_z w128 c.rdiv.result fits ∙ q) in
    ap (λ x. to_z w128 (of_z w128 x)) product ∙ to_z-of_z w128 (nearest_multiple (pos (2 ^ c.args.power)) c.args.sum) (size_fits _ (2 ^ 80) small (lit< tt))
