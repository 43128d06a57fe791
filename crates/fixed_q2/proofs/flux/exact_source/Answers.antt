use Rattle.std.proofs.Common.{◌∙◌, ap, ◌^◌, FitsSigned, lit<}
use Rattle.std.specs.Int.{w64, w128}
use Rattle.std.proofs.lemmas.Int.{to_z-of_z}
use Rattle.fem_fixed.proofs.Sizes.{size_fits}
use Rattle.fixed_q1.specs.Evaluation.{number_at}
use Rattle.fixed_q2.specs.declared.sample.Sample.{Sample}
use Rattle.fixed_q2.specs.CellForm.{parts}
use Rattle.fixed_q2.specs.Samples.{kept_source}
use Rattle.fixed_q1.proofs.Fits.{short_fits}
use Rattle.fixed_q2.proofs.flux.exact_source.Goals as goal

pub returns-clause-value : goal.returns-clause-value
unfolding kept_source
returns-clause-value c =
    let s : Sample = c.args.sample.now in
    let fw : FitsSigned w64 s.weight = short_fits _ 64 c.requires.sample.weight (lit< tt) in
    let fw2 : FitsSigned w128 s.weight = size_fits _ 64 c.requires.sample.weight (lit< tt) in
    let fdet : FitsSigned w64 s.determinant = short_fits _ (2 ^ 57) c.requires.sample.determinant (lit< tt) in
    let fs : FitsSigned w64 c.args.source = c.ranges.source in
    let fv : FitsSigned w64 (number_at s.values c.args.i) = short_fits _ (2 ^ 32) (c.requires.sample.values c.args.i c.requires.i) (lit< tt) in
    let fq : FitsSigned w128 c.source_quotient-quotient.result = record { sfits = c.source_quotient-quotient.type_inv } in
    let fr : FitsSigned w128 c.parts_of_any.result = record { sfits = c.parts_of_any.type_inv } in
    let whole = c.parts_of_any.ensures.value in
    let quotient = c.source_quotient-quotient.ensures.value in
    simp to_z-of_z ((simp to_z-of_z at whole) ∙ ap (parts s.weight) (simp to_z-of_z at quotient))
