use Rattle.std.proofs.Common.{◌≡◌, refl, ℤ, pos, ◌*ℤ◌, ◌^◌, FitsSigned, lit<}
use Rattle.std.specs.Int.{w128, w64}
use Rattle.std.proofs.lemmas.Int.{to_z-of_z}
use Rattle.fem_fixed.proofs.Sizes.{size_fits}
use Rattle.fixed_q2.specs.declared.sample.Sample.{Sample}
use Rattle.fixed_q2.specs.Samples.{fluxes_along}
use Rattle.fixed_q2.proofs.Fits.{scaled_size}
use Rattle.fixed_q2.proofs.Fluxes.{whole_flux, below_limit}
use Rattle.fixed_q1.proofs.Fits.{short_fits}
use Rattle.fixed_q2.proofs.flux.flux_of.Goals as goal

pub returns : goal.returns
returns c =
    let d : ℤ = c.args.diffusion in
    let s : Sample = c.args.sample.now in
    let fd : FitsSigned w64 d = c.ranges.diffusion in
    let fdet : FitsSigned w64 s.determinant = short_fits _ (2 ^ 57) c.requires.sample.bounded.determinant (lit< tt) in
    let fdet2 : FitsSigned w128 s.determinant = size_fits _ (2 ^ 57) c.requires.sample.bounded.determinant (lit< tt) in
    let fs : FitsSigned w128 (pos 65536 *ℤ s.determinant) = size_fits _ (2 ^ 73) (scaled_size s.determinant c.requires.sample.bounded.determinant) (lit< tt) in
    let short = c.if-sample-ge-DETERMINANT_LIMIT.false in
    let raw = c.fluxes_of.ensures in
    let fluxes : c.fluxes_of.result ≡ fluxes_along d s = simp to_z-of_z at raw in
    let narrow = c.if-not-is_narrow.ensures in
    simp to_z-of_z (whole_flux d s _ c.requires.sample.positive (below_limit s.determinant (simp to_z-of_z at short)) refl fluxes ((simp to_z-of_z at narrow) refl))

pub fluxes_of-requires-clause-fluxes : goal.fluxes_of-requires-clause-fluxes
fluxes_of-requires-clause-fluxes c =
    let fd : FitsSigned w64 c.args.diffusion = c.ranges.diffusion in
    let narrow = c.if-not-is_narrow.ensures in
    simp to_z-of_z ((simp to_z-of_z at narrow) refl)
