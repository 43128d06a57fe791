use Rattle.std.proofs.Common.{refl, ◌<◌, ◌^◌, ℤ, unsigned_abs, FitsSigned, arith}
use Rattle.std.specs.Int.{w64, w128}
use Rattle.std.proofs.lemmas.Int.{ints, to_z-of_z}
use Rattle.fem_fixed.specs.Rounding.{IsNearest}
use Rattle.fixed_q1.proofs.Certain.{wide, small_fits, certain_value}
use Rattle.fixed_q1.proofs.quotient.quotient.Goals as goal

pub returns-then-is_certain-clause-near : goal.returns-then-is_certain-clause-near
returns-then-is_certain-clause-near c =
    let n : ℤ = c.args.n in
    let q : ℤ = c.args.guess in
    let d : ℤ = c.args.d in
    let nw : FitsSigned w128 n = c.ranges.n in
    let qs : FitsSigned w64 q = c.ranges.guess in
    let qw : FitsSigned w128 q = wide q qs in
    let small : unsigned_abs d < 2 ^ 62 = grind (arith, ints) in
    let ds : FitsSigned w64 d = small_fits d small in
    let dw : FitsSigned w128 d = wide d ds in
    let raw = c.if-is_certain.ensures in
    let close : IsNearest n d q = (simp to_z-of_z at raw) refl in
    simp to_z-of_z close

pub returns-then-is_certain-clause-value : goal.returns-then-is_certain-clause-value
returns-then-is_certain-clause-value c =
    let n : ℤ = c.args.n in
    let q : ℤ = c.args.guess in
    let d : ℤ = c.args.d in
    let nw : FitsSigned w128 n = c.ranges.n in
    let qs : FitsSigned w64 q = c.ranges.guess in
    let qw : FitsSigned w128 q = wide q qs in
    let small : unsigned_abs d < 2 ^ 62 = grind (arith, ints) in
    let ds : FitsSigned w64 d = small_fits d small in
    let dw : FitsSigned w128 d = wide d ds in
    let raw = c.if-is_certain.ensures in
    let close : IsNearest n d q = (simp to_z-of_z at raw) refl in
    simp to_z-of_z (certain_value n d q c.requires.d close)
