use Rattle.std.proofs.Common.{FitsSigned}
use Rattle.std.specs.Int.{w64}
use Rattle.std.proofs.lemmas.Int.{to_z-of_z}
use Rattle.fixed_q2.specs.Samples.{IsFluxOf}
use Rattle.fixed_q2.proofs.Nine.{pairs_nine}
use Rattle.fixed_q2.proofs.sums.fluxes_of_all.Goals as goal

pub returns : goal.returns
returns c =
    let fd : FitsSigned w64 c.args.diffusion = c.ranges.diffusion in
    let r0 = c.flux_of.ensures in
    let r1 = c.flux_of-2.ensures in
    let r2 = c.flux_of-3.ensures in
    let r3 = c.flux_of-4.ensures in
    let r4 = c.flux_of-5.ensures in
    let r5 = c.flux_of-6.ensures in
    let r6 = c.flux_of-7.ensures in
    let r7 = c.flux_of-8.ensures in
    let r8 = c.flux_of-9.ensures in
    pairs_nine (IsFluxOf c.args.diffusion) c.args.samples.now _ _ _ _ _ _ _ _ _ _ _ _ _ _ _ _ _ _ c.told-samples
    (simp to_z-of_z at r0) (simp to_z-of_z at r1) (simp to_z-of_z at r2) (simp to_z-of_z at r3) (simp to_z-of_z at r4) (simp to_z-of_z at r5) (simp to_z-of_z at r6) (simp to_z-of_z at r7) (simp to_z-of_z at r8)
