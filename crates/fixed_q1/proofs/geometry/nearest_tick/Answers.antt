use Rattle.std.proofs.Common.{refl, ℤ, pos, FitsSigned}
use Rattle.std.specs.Int.{w64}
use Rattle.std.proofs.lemmas.Int.{to_z-of_z}
use Rattle.fem_fixed.specs.Rounding.{IsNearest}
use Rattle.fixed_q1.proofs.Certain.{certain_value}
use Rattle.fixed_q1.proofs.geometry.nearest_tick.Goals as goal

pub returns-then-is_certain_tick-clause-value : goal.returns-then-is_certain_tick-clause-value
returns-then-is_certain_tick-clause-value c =
    let n : ℤ = c.args.n in
    let q : ℤ = c.tick_guess-guess.result in
    let ns : FitsSigned w64 n = c.ranges.n in
    let qs : FitsSigned w64 q = record { sfits = c.tick_guess-guess.type_inv } in
    let raw = c.if-is_certain_tick.ensures in
    let close : IsNearest n (pos 65536) q = (simp to_z-of_z at raw) refl in
    simp to_z-of_z (certain_value n (pos 65536) q (record { lt = tt }) close)
