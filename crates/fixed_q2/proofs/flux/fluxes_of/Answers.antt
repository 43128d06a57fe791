use Rattle.std.proofs.Common.{FitsSigned, lit<}
use Rattle.std.specs.Int.{w64}
use Rattle.std.proofs.lemmas.Int.{to_z-of_z}
use Rattle.fixed_q2.proofs.flux.fluxes_of.Goals as goal

pub flux_along_gradient-requires-clause-flux : goal.flux_along_gradient-requires-clause-flux
flux_along_gradient-requires-clause-flux c =
    let fd : FitsSigned w64 c.args.diffusion = c.ranges.diffusion in
    simp to_z-of_z (c.requires.fluxes 0 (lit< tt))

pub flux_along_gradient-requires-2-clause-flux : goal.flux_along_gradient-requires-2-clause-flux
flux_along_gradient-requires-2-clause-flux c =
    let fd : FitsSigned w64 c.args.diffusion = c.ranges.diffusion in
    simp to_z-of_z (c.requires.fluxes 1 (lit< tt))

pub flux_along_gradient-requires-3-clause-flux : goal.flux_along_gradient-requires-3-clause-flux
flux_along_gradient-requires-3-clause-flux c =
    let fd : FitsSigned w64 c.args.diffusion = c.ranges.diffusion in
    simp to_z-of_z (c.requires.fluxes 2 (lit< tt))

pub flux_along_gradient-requires-4-clause-flux : goal.flux_along_gradient-requires-4-clause-flux
flux_along_gradient-requires-4-clause-flux c =
    let fd : FitsSigned w64 c.args.diffusion = c.ranges.diffusion in
    simp to_z-of_z (c.requires.fluxes 3 (lit< tt))

pub flux_along_gradient-requires-5-clause-flux : goal.flux_along_gradient-requires-5-clause-flux
flux_along_gradient-requires-5-clause-flux c =
    let fd : FitsSigned w64 c.args.diffusion = c.ranges.diffusion in
    simp to_z-of_z (c.requires.fluxes 4 (lit< tt))

pub flux_along_gradient-requires-6-clause-gradient : goal.flux_along_gradient-requires-6-clause-gradient
flux_along_gradient-requires-6-clause-gradient c = c.requires.sample.gradients 5 (lit< tt)

pub flux_along_gradient-requires-6-clause-flux : goal.flux_along_gradient-requires-6-clause-flux
flux_along_gradient-requires-6-clause-flux c =
    let fd : FitsSigned w64 c.args.diffusion = c.ranges.diffusion in
    simp to_z-of_z (c.requires.fluxes 5 (lit< tt))

pub flux_along_gradient-requires-7-clause-gradient : goal.flux_along_gradient-requires-7-clause-gradient
flux_along_gradient-requires-7-clause-gradient c = c.requires.sample.gradients 6 (lit< tt)

pub flux_along_gradient-requires-7-clause-flux : goal.flux_along_gradient-requires-7-clause-flux
flux_along_gradient-requires-7-clause-flux c =
    let fd : FitsSigned w64 c.args.diffusion = c.ranges.diffusion in
    simp to_z-of_z (c.requires.fluxes 6 (lit< tt))

pub flux_along_gradient-requires-8-clause-gradient : goal.flux_along_gradient-requires-8-clause-gradient
flux_along_gradient-requires-8-clause-gradient c = c.requires.sample.gradients 7 (lit< tt)

pub flux_along_gradient-requires-8-clause-flux : goal.flux_along_gradient-requires-8-clause-flux
flux_along_gradient-requires-8-clause-flux c =
    let fd : FitsSigned w64 c.args.diffusion = c.ranges.diffusion in
    simp to_z-of_z (c.requires.fluxes 7 (lit< tt))

pub flux_along_gradient-requires-9-clause-gradient : goal.flux_along_gradient-requires-9-clause-gradient
flux_along_gradient-requires-9-clause-gradient c = c.requires.sample.gradients 8 (lit< tt)

pub flux_along_gradient-requires-9-clause-flux : goal.flux_along_gradient-requires-9-clause-flux
flux_along_gradient-requires-9-clause-flux c =
    let fd : FitsSigned w64 c.args.diffusion = c.ranges.diffusion in
    simp to_z-of_z (c.requires.fluxes 8 (lit< tt))
