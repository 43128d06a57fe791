use Rattle.std.proofs.Common.{refl, ℤ, FitsSigned}
use Rattle.std.specs.Int.{w64}
use Rattle.std.proofs.lemmas.Int.{to_z-of_z}
use Rattle.fixed_q1.specs.declared.geometry.Jacobian.{Jacobian}
use Rattle.fixed_q1.specs.Evaluation.{vector_at}
use Rattle.fixed_q1.proofs.Fits.{slope_fits}
use Rattle.fixed_q2.proofs.Fluxes.{narrow_flux}
use Rattle.fixed_q2.proofs.flux.is_narrow.Goals as goal

pub returns : goal.returns
returns c =
    let d : ℤ = c.args.diffusion in
    let j : Jacobian = c.args.sample.now.jacobian in
    let fd : FitsSigned w64 d = c.ranges.diffusion in
    let fxx : FitsSigned w64 j.xx = slope_fits j.xx c.requires.sample.slopes.xx in
    let fxy : FitsSigned w64 j.xy = slope_fits j.xy c.requires.sample.slopes.xy in
    let fyx : FitsSigned w64 j.yx = slope_fits j.yx c.requires.sample.slopes.yx in
    let fyy : FitsSigned w64 j.yy = slope_fits j.yy c.requires.sample.slopes.yy in
    let xx = c.if-not-is_short.ensures in
    let xy = c.if-not-is_short-2.ensures in
    let yx = c.if-not-is_short-3.ensures in
    let yy = c.is_short-4.ensures in
    λ t i h. narrow_flux d j (vector_at c.args.sample.now.gradients i) (c.requires.sample.on_cell i h)
    ((simp to_z-of_z at xx) refl) ((simp to_z-of_z at xy) refl) ((simp to_z-of_z at yx) refl) ((simp to_z-of_z at yy) t)
