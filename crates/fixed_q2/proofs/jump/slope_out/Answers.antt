use Rattle.std.proofs.Common.{◌≡◌, ◌∙◌, ap, ℤ, ◌^◌, FitsSigned, lit<}
use Rattle.std.specs.Int.{w128, w64}
use Rattle.std.proofs.lemmas.Int.{to_z-of_z}
use Rattle.fem_fixed.proofs.Sizes.{size_fits}
use Rattle.fem_fixed.specs.Rounding.{IsNearest, nearest}
use Rattle.fixed_q2.specs.declared.jump.Slopes.{Slopes}
use Rattle.fixed_q1.specs.CellForm.{dot}
use Rattle.fixed_q1.specs.Evaluation.{vector_at}
use Rattle.fixed_q2.specs.Samples.{kept_slope}
use Rattle.fixed_q1.proofs.Fits.{quotient_size, short_fits}
use Rattle.fixed_q2.proofs.jump.slope_out.Goals as goal

pub returns-clause-value : goal.returns-clause-value
unfolding kept_slope
returns-clause-value c =
    let e : Slopes = c.args.slopes.now in
    let p : ℤ = c.normal_product-product.result in
    let product : FitsSigned w128 p = record { sfits = c.normal_product-product.type_inv } in
    let determinant : FitsSigned w128 e.determinant = size_fits _ (2 ^ 57) c.requires.slopes.bounded.determinant (lit< tt) in
    let short : FitsSigned w64 e.determinant = short_fits _ (2 ^ 57) c.requires.slopes.bounded.determinant (lit< tt) in
    let fits : FitsSigned w128 c.rdiv.result = record { sfits = c.rdiv.type_inv } in
    let raw = c.rdiv.ensures.value in
    let value : c.rdiv.result ≡ nearest p e.determinant = simp to_z-of_z at raw in
    let parts : p ≡ dot c.args.normal (vector_at e.gradients c.args.i) = c.normal_product-product.ensures.value in
    simp to_z-of_z (value ∙ ap (λ x. nearest x e.determinant) parts)

pub returns-clause-size : goal.returns-clause-size
returns-clause-size c =
    let e : Slopes = c.args.slopes.now in
    let p : ℤ = c.normal_product-product.result in
    let product : FitsSigned w128 p = record { sfits = c.normal_product-product.type_inv } in
    let determinant : FitsSigned w128 e.determinant = size_fits _ (2 ^ 57) c.requires.slopes.bounded.determinant (lit< tt) in
    let short : FitsSigned w64 e.determinant = short_fits _ (2 ^ 57) c.requires.slopes.bounded.determinant (lit< tt) in
    let fits : FitsSigned w128 c.rdiv.result = record { sfits = c.rdiv.type_inv } in
    let raw = c.rdiv.ensures.near in
    let close : IsNearest p e.determinant c.rdiv.result = simp to_z-of_z at raw in
    simp to_z-of_z (quotient_size p e.determinant c.rdiv.result (2 ^ 75) c.requires.slopes.positive close c.normal_product-product.ensures.size)
