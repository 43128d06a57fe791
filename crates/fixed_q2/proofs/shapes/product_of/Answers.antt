use Rattle.std.proofs.Common.{◌^◌, FitsSigned, lit<}
use Rattle.std.specs.Int.{w64}
use Rattle.std.proofs.lemmas.Int.{to_z-of_z}
use Rattle.fixed_q2.specs.declared.shapes.Factor.{Factor}
use Rattle.fixed_q2.specs.Biquadratic.{times}
use Rattle.fixed_q2.proofs.ShapeSizes.{shape_same}
use Rattle.fixed_q1.proofs.Fits.{short_fits}
use Rattle.fixed_q2.proofs.shapes.product_of.Goals as goal

pub returns : goal.returns
unfolding times
returns c =
    let p : Factor = c.args.x in
    let r : Factor = c.args.y in
    let pv : FitsSigned w64 p.value = short_fits _ (2 ^ 32) c.requires.x.value (lit< tt) in
    let ps : FitsSigned w64 p.slope = short_fits _ (2 ^ 18) c.requires.x.slope (lit< tt) in
    let rv : FitsSigned w64 r.value = short_fits _ (2 ^ 32) c.requires.y.value (lit< tt) in
    let rs : FitsSigned w64 r.slope = short_fits _ (2 ^ 18) c.requires.y.slope (lit< tt) in
    let f1 : FitsSigned w64 c.scaled.result = record { sfits = c.scaled.type_inv } in
    let f2 : FitsSigned w64 c.scaled-2.result = record { sfits = c.scaled-2.type_inv } in
    let f3 : FitsSigned w64 c.scaled-3.result = record { sfits = c.scaled-3.type_inv } in
    let r1 = c.scaled.ensures in
    let r2 = c.scaled-2.ensures in
    let r3 = c.scaled-3.ensures in
    simp to_z-of_z (shape_same _ _ _ _ _ _ (simp to_z-of_z at r1) (simp to_z-of_z at r2) (simp to_z-of_z at r3))
