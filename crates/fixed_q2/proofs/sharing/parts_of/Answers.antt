use Rattle.std.proofs.Common.{◌∙◌, refl, ℤ, ◌*ℤ◌, ◌^◌, ◌≤◌, FitsSigned, lit<}
use Rattle.std.specs.Prelude.{unsigned_abs}
use Rattle.std.specs.Int.{w64, w128}
use Rattle.std.proofs.lemmas.Int.{to_z-of_z}
use Rattle.fem_fixed.proofs.Sizes.{size_mul}
use Rattle.fixed_q2.proofs.Shares.{parts_certain}
use Rattle.fixed_q1.proofs.Fits.{short_fits}
use Rattle.fixed_q2.proofs.sharing.parts_of.Goals as goal

pub returns-then-quotient-raised-clause-value : goal.returns-then-quotient-raised-clause-value
returns-then-quotient-raised-clause-value c =
    let w : ℤ = c.args.weight in
    let n : ℤ = c.args.n in
    let fw : FitsSigned w64 w = c.ranges.weight in
    let fn : FitsSigned w64 n = c.ranges.n in
    let size : unsigned_abs (w *ℤ n) ≤ 2 ^ 57 = size_mul w n 64 (2 ^ 51) c.requires.weight c.requires.n in
    let fp : FitsSigned w64 (w *ℤ n) = short_fits _ (2 ^ 57) size (lit< tt) in
    let fr : FitsSigned w128 c.lowered.result = record { sfits = c.lowered.type_inv } in
    let raw = c.raised_by_half-raised.ensures.value in
    let raised = simp to_z-of_z at raw in
    let low = c.lowered.ensures.value in
    simp to_z-of_z (low ∙ parts_certain w n c.raised_by_half-raised.result _ raised refl c.if-quotient-raised.true)
