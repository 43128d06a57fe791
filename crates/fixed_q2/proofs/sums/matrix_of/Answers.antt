use Rattle.std.proofs.Common.{[], FitsSigned, arith}
use Rattle.std.specs.Int.{w64}
use Rattle.std.proofs.lemmas.Int.{to_z-of_z}
use Rattle.std.proofs.lemmas.List.FromFn.{fill_by_all}
use Rattle.fixed_q2.specs.Samples.{kept_row}
use Rattle.fixed_q2.proofs.sums.matrix_of.Goals as goal

pub row_of-requires-clause-fluxes : goal.row_of-requires-clause-fluxes
row_of-requires-clause-fluxes c =
    let fd : FitsSigned w64 c.args.diffusion = c.ranges.diffusion in
    simp to_z-of_z c.requires.fluxes

pub returns : goal.returns
returns c =
    let fd : FitsSigned w64 c.args.diffusion = c.ranges.diffusion in
    fill_by_all (kept_row c.args.samples.now c.args.diffusion) c.loop-i.matrix 9 [] c.loop-i.invariant.0
    (λ k h. (let raw = c.loop-i.invariant.1 k (omega (arith, h, c.loop-i-test.false)) in simp to_z-of_z at raw))
