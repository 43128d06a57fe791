use Rattle.std.proofs.Common.{pos, FitsSigned, arith}
use Rattle.std.specs.Int.{w64}
use Rattle.std.proofs.lemmas.Int.{to_z-of_z}
use Rattle.std.proofs.lemmas.List.FromFn.{fill_by_all}
use Rattle.fixed_q2.specs.Samples.{kept_entry}
use Rattle.fixed_q2.proofs.sums.row_of.Goals as goal

pub entry_of-requires-clause-fluxes : goal.entry_of-requires-clause-fluxes
entry_of-requires-clause-fluxes c =
    let fd : FitsSigned w64 c.args.diffusion = c.ranges.diffusion in
    simp to_z-of_z c.requires.fluxes

pub returns : goal.returns
returns c =
    let fd : FitsSigned w64 c.args.diffusion = c.ranges.diffusion in
    fill_by_all (kept_entry c.args.samples.now c.args.diffusion c.args.i) c.loop-j.row 9 (pos 0) c.loop-j.invariant.0
    (λ k h. (let raw = c.loop-j.invariant.1 k (omega (arith, h, c.loop-j-test.false)) in simp to_z-of_z at raw))
