use Rattle.std.proofs.Common.{◌*ℤ◌, FitsSigned, w64}
use Rattle.std.proofs.lemmas.Int.{to_z-of_z}
use Rattle.lumped_mass.proofs.Sizes.{product_fits, product_size}
use Rattle.lumped_mass.proofs.shares.product.Goals as goal

pub returns-clause-value : goal.returns-clause-value
returns-clause-value c =
    let fits_a : FitsSigned w64 c.args.a = c.ranges.a in
    let fits_b : FitsSigned w64 c.args.b = c.ranges.b in
    let fits : FitsSigned w64 (c.args.a *ℤ c.args.b) = product_fits c.args.a c.args.b c.requires.a c.requires.b in
    simp to_z-of_z

pub returns-clause-small : goal.returns-clause-small
returns-clause-small c =
    let fits_a : FitsSigned w64 c.args.a = c.ranges.a in
    let fits_b : FitsSigned w64 c.args.b = c.ranges.b in
    let fits : FitsSigned w64 (c.args.a *ℤ c.args.b) = product_fits c.args.a c.args.b c.requires.a c.requires.b in
    simp to_z-of_z (product_size c.args.a c.args.b c.requires.a c.requires.b)
