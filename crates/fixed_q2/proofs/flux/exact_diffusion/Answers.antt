use Rattle.std.proofs.Common.{◌∙◌, ap, pos, ◌*ℤ◌, ◌^◌, FitsSigned, lit<}
use Rattle.std.specs.Int.{w64, w128}
use Rattle.std.proofs.lemmas.Int.{to_z-of_z}
use Rattle.fem_fixed.specs.Rounding.{nearest}
use Rattle.fem_fixed.proofs.Sizes.{size_fits}
use Rattle.fixed_q2.specs.declared.sample.Sample.{Sample}
use Rattle.fixed_q2.specs.CellForm.{parts}
use Rattle.fixed_q2.specs.Samples.{kept_diffusion}
use Rattle.fixed_q1.proofs.Fits.{short_fits}
use Rattle.fixed_q2.proofs.flux.exact_diffusion.Goals as goal

pub returns-clause-value : goal.returns-clause-value
unfolding kept_diffusion
returns-clause-value c =
    let s : Sample = c.args.sample.now in
    let fw : FitsSigned w64 s.weight = short_fits _ 64 c.requires.sample.bounded.weight (lit< tt) in
    let fw2 : FitsSigned w128 s.weight = size_fits _ 64 c.requires.sample.bounded.weight (lit< tt) in
    let fdet : FitsSigned w64 s.determinant = short_fits _ (2 ^ 57) c.requires.sample.bounded.determinant (lit< tt) in
    let fd : FitsSigned w64 c.args.diffusion = c.ranges.diffusion in
    let fp : FitsSigned w128 c.gradient_product-product.result = record { sfits = c.gradient_product-product.type_inv } in
    let fq : FitsSigned w128 c.diffusion_quotient-quotient.result = record { sfits = c.diffusion_quotient-quotient.type_inv } in
    let fr : FitsSigned w128 c.parts_of_any.result = record { sfits = c.parts_of_any.type_inv } in
    let whole = c.parts_of_any.ensures.value in
    let quotient = c.diffusion_quotient-quotient.ensures.value in
    simp to_z-of_z ((simp to_z-of_z at whole)
    ∙ ap (parts s.weight) ((simp to_z-of_z at quotient)
    ∙ ap (λ x. nearest (c.args.diffusion *ℤ x) (pos 65536 *ℤ s.determinant)) c.gradient_product-product.ensures.value))
