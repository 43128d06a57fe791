use Rattle.std.proofs.Common.{◌≡◌, ℤ, ◌-ℤ◌, ◌*ℤ◌, FitsSigned}
use Rattle.std.specs.Prelude.{unsigned_abs}
use Rattle.std.specs.Int.{w64, w128}
use Rattle.std.proofs.lemmas.Int.{to_z-of_z}
use Rattle.fixed_q1.proofs.Certain.{wide, small_fits, product_fits, rest_fits, close_near, tested}
use Rattle.fixed_q1.proofs.quotient.is_close.Goals as goal

pub overflow_sub-rest : goal.overflow_sub-rest
overflow_sub-rest c =
    let n : ℤ = c.args.n in
    let q : ℤ = c.args.quotient in
    let d : ℤ = c.args.d in
    let nw : FitsSigned w128 n = c.ranges.n in
    let qs : FitsSigned w64 q = c.ranges.quotient in
    let qw : FitsSigned w128 q = wide q qs in
    let ds : FitsSigned w64 d = small_fits d c.requires.d in
    let dw : FitsSigned w128 d = wide d ds in
    let product : FitsSigned w128 (q *ℤ d) = product_fits q d qs c.requires.d in
    let whole : FitsSigned w128 (n -ℤ q *ℤ d) = rest_fits n q d c.requires.n qs c.requires.d in
    simp to_z-of_z whole

pub returns : goal.returns
returns c =
    let n : ℤ = c.args.n in
    let q : ℤ = c.args.quotient in
    let d : ℤ = c.args.d in
    let nw : FitsSigned w128 n = c.ranges.n in
    let qs : FitsSigned w64 q = c.ranges.quotient in
    let qw : FitsSigned w128 q = wide q qs in
    let ds : FitsSigned w64 d = small_fits d c.requires.d in
    let dw : FitsSigned w128 d = wide d ds in
    let product : FitsSigned w128 (q *ℤ d) = product_fits q d qs c.requires.d in
    let whole : FitsSigned w128 (n -ℤ q *ℤ d) = rest_fits n q d c.requires.n qs c.requires.d in
    let raw = c.unsigned_abs.ensures.value in
    let value : c.unsigned_abs.result ≡ unsigned_abs (n -ℤ q *ℤ d) = simp to_z-of_z at raw in
    simp to_z-of_z (λ t. close_near n d q c.requires.positive (rw (← value) (tested _ _ t)))
