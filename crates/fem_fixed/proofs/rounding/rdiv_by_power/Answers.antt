use Rattle.std.proofs.Common.{◌≡◌, refl, pos, ◌^◌, ℤ, FitsSigned}
use Rattle.std.specs.Int.{w64, w128}
use Rattle.std.proofs.lemmas.Int.{to_z-of_z}
use Rattle.fem_fixed.specs.Rounding.{IsNearest}
use Rattle.fem_fixed.proofs.Certain.{wide, certain_value}
use Rattle.fem_fixed.proofs.Kept.{unit_positive}
use Rattle.fem_fixed.proofs.rounding.rdiv_by_power.Goals as goal

pub returns-then-is_certain-clause-value : goal.returns-then-is_certain-clause-value
returns-then-is_certain-clause-value c =
    let n : ℤ = c.args.n in
    let q : ℤ = c.shift_guess-guess.result in
    let nw : FitsSigned w128 n = c.ranges.n in
    let qs : FitsSigned w64 q = record { sfits = c.shift_guess-guess.type_inv } in
    let qw : FitsSigned w128 q = wide q qs in
    let d : ℤ = c.power_of_two-divisor.result in
    let ds : FitsSigned w64 d = record { sfits = c.power_of_two-divisor.type_inv } in
    let value : d ≡ pos (2 ^ c.args.power) = c.power_of_two-divisor.ensures.value in
    let raw = c.if-is_certain.ensures in
    let close : IsNearest n d q = (simp to_z-of_z at raw) refl in
    let near : IsNearest n (pos (2 ^ c.args.power)) q = rw (value) at close in
    simp to_z-of_z (certain_value n (pos (2 ^ c.args.power)) q (unit_positive c.args.power) near)
