use Rattle.std.proofs.Common.{◌≡◌, ◌∙◌, ap, ℤ, pos, ◌*ℤ◌, ◌^◌, ◌≤◌, FitsSigned, lit<}
use Rattle.std.specs.Prelude.{unsigned_abs, IsTrue}
use Rattle.std.specs.Int.{w64, w128}
use Rattle.std.proofs.lemmas.Int.{to_z-of_z}
use Rattle.fem_fixed.proofs.Sizes.{size_fits}
use Rattle.fem_fixed.specs.Rounding.{IsNearest, nearest}
use Rattle.fixed_q1.specs.declared.evaluation.Evaluation.{Evaluation}
use Rattle.fixed_q1.specs.CellForm.{dot}
use Rattle.fixed_q1.specs.Evaluation.{vector_at, kept_diffusion}
use Rattle.fixed_q1.proofs.Certain.{certain_value}
use Rattle.fixed_q1.proofs.Fits.{scaled_positive, flow_size, short_fits}
use Rattle.fixed_q1.proofs.TenEntries.{scaled_small}
use Rattle.fixed_q1.proofs.quick.is_part.Goals as goal

pub overflow_mul-diffusion : goal.overflow_mul-diffusion
overflow_mul-diffusion c =
    let diffusion : FitsSigned w128 c.args.diffusion = c.ranges.diffusion in
    let product : FitsSigned w128 c.dot_product-product.result = record { sfits = c.dot_product-product.type_inv } in
    simp to_z-of_z (size_fits _ (2 ^ 122) (flow_size c.args.diffusion c.dot_product-product.result c.requires.diffusion c.dot_product-product.ensures.size) (lit< tt))

pub is_close-requires-clause-n : goal.is_close-requires-clause-n
is_close-requires-clause-n c =
    let d : ℤ = c.args.diffusion in
    let p : ℤ = c.dot_product-product.result in
    let diffusion : FitsSigned w128 d = c.ranges.diffusion in
    let product : FitsSigned w128 p = record { sfits = c.dot_product-product.type_inv } in
    let size : unsigned_abs (d *ℤ p) ≤ 2 ^ 122 = flow_size d p c.requires.diffusion c.dot_product-product.ensures.size in
    let flow : FitsSigned w128 (d *ℤ p) = size_fits _ (2 ^ 122) size (lit< tt) in
    simp to_z-of_z size

pub returns : goal.returns
unfolding kept_diffusion
returns c =
    let e : Evaluation = c.args.evaluation.now in
    let d : ℤ = c.args.diffusion in
    let p : ℤ = c.dot_product-product.result in
    let part : ℤ = c.args.part in
    let diffusion : FitsSigned w128 d = c.ranges.diffusion in
    let product : FitsSigned w128 p = record { sfits = c.dot_product-product.type_inv } in
    let part_fits : FitsSigned w64 part = c.ranges.part in
    let determinant : FitsSigned w128 e.determinant = size_fits _ (2 ^ 57) c.requires.evaluation.bounded.determinant (lit< tt) in
    let short : FitsSigned w64 e.determinant = short_fits _ (2 ^ 57) c.requires.evaluation.bounded.determinant (lit< tt) in
    let scaled : FitsSigned w64 (pos 262144 *ℤ e.determinant) = short_fits _ (2 ^ 62) (scaled_small e.determinant c.requires.determinant) (lit< tt) in
    let flow : FitsSigned w128 (d *ℤ p) = size_fits _ (2 ^ 122) (flow_size d p c.requires.diffusion c.dot_product-product.ensures.size) (lit< tt) in
    let raw = c.is_close.ensures in
    let close : IsTrue c.is_close.result → IsNearest (d *ℤ p) (pos 262144 *ℤ e.determinant) part = simp to_z-of_z at raw in
    let parts : p ≡ dot (vector_at e.gradients c.args.i) (vector_at e.gradients c.args.j) = c.dot_product-product.ensures.value in
    λ t. certain_value (d *ℤ p) (pos 262144 *ℤ e.determinant) part (scaled_positive e.determinant c.requires.evaluation.positive) (close t)
    ∙ ap (λ x. nearest (d *ℤ x) (pos 262144 *ℤ e.determinant)) parts
