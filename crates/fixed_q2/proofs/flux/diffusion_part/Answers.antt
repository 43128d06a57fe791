use Rattle.std.proofs.Common.{◌≡◌, ◌∙◌, refl, ℤ, ◌^◌, ◌≤◌, FitsSigned, arith, lit<}
use Rattle.std.specs.Prelude.{unsigned_abs}
use Rattle.std.specs.Int.{w64, w128}
use Rattle.std.proofs.lemmas.Int.{to_z-of_z}
use Rattle.fem_fixed.specs.Rounding.{IsNearest}
use Rattle.fem_fixed.proofs.Sizes.{size_fits}
use Rattle.fixed_q1.specs.CellForm.{dot}
use Rattle.fixed_q1.specs.Evaluation.{vector_at}
use Rattle.fixed_q2.specs.declared.sample.Sample.{Sample}
use Rattle.fixed_q2.specs.declared.flux.Flux.{Flux}
use Rattle.fixed_q2.proofs.Fluxes.{certain_part, above_none}
use Rattle.fixed_q1.proofs.Fits.{short_fits}
use Rattle.fixed_q2.proofs.flux.diffusion_part.Goals as goal

pub returns-then-is_certain-clause-value : goal.returns-then-is_certain-clause-value
returns-then-is_certain-clause-value c =
    let s : Sample = c.args.sample.now in
    let f : Flux = c.args.flux.now in
    let q : ℤ = c.guess_of-guess.result in
    let n : ℤ = c.flux_product-dividend.result in
    let fw : FitsSigned w64 s.weight = short_fits _ 64 c.requires.sample.bounded.weight (lit< tt) in
    let size : unsigned_abs f.divisor ≤ 2 ^ 62 = omega (arith, c.requires.flux.divisor) in
    let fd : FitsSigned w64 f.divisor = short_fits _ (2 ^ 62) size (lit< tt) in
    let fd2 : FitsSigned w128 f.divisor = size_fits _ (2 ^ 62) size (lit< tt) in
    let fq : FitsSigned w64 q = record { sfits = c.guess_of-guess.type_inv } in
    let fn : FitsSigned w128 n = record { sfits = c.flux_product-dividend.type_inv } in
    let fr : FitsSigned w128 c.parts_of.result = record { sfits = c.parts_of.type_inv } in
    let whole = c.parts_of.ensures.value in
    let certain = c.if-is_certain.ensures in
    let close : IsNearest n f.divisor q = (simp to_z-of_z at certain) refl in
    let value : n ≡ dot (vector_at f.fluxes c.args.i) (vector_at s.gradients c.args.j) = c.flux_product-dividend.ensures.value in
    let near : IsNearest (dot (vector_at f.fluxes c.args.i) (vector_at s.gradients c.args.j)) f.divisor q = rw (← value) close in
    let positive = c.if-flux-gt0.true in
    simp to_z-of_z ((simp to_z-of_z at whole)
    ∙ certain_part c.args.diffusion s f c.args.i c.args.j q c.requires.flux c.requires.i (above_none f.divisor (simp to_z-of_z at positive)) near)
