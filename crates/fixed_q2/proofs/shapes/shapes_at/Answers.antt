use Rattle.std.proofs.Common.{FitsSigned}
use Rattle.std.specs.Int.{w64}
use Rattle.std.proofs.lemmas.Int.{to_z-of_z}
use Rattle.fixed_q1.proofs.Fits.{place_fits}
use Rattle.fixed_q2.proofs.ShapeSizes.{shapes_listed}
use Rattle.fixed_q2.proofs.shapes.shapes_at.Goals as goal

pub returns : goal.returns
returns c =
    let fx : FitsSigned w64 c.args.place.x = place_fits _ c.requires.x.0 in
    let fy : FitsSigned w64 c.args.place.y = place_fits _ c.requires.y.0 in
    let r0 = c.first_factor-x0.ensures.value in
    let r1 = c.middle_factor-xm.ensures.value in
    let r2 = c.last_factor-x1.ensures.value in
    let r3 = c.first_factor-y0.ensures.value in
    let r4 = c.middle_factor-ym.ensures.value in
    let r5 = c.last_factor-y1.ensures.value in
    shapes_listed c.args.place c.first_factor-x0.result c.middle_factor-xm.result c.last_factor-x1.result c.first_factor-y0.result c.middle_factor-ym.result c.last_factor-y1.result _ _ _ _ _ _ _ _ _
    (simp to_z-of_z at r0) (simp to_z-of_z at r1) (simp to_z-of_z at r2) (simp to_z-of_z at r3) (simp to_z-of_z at r4) (simp to_z-of_z at r5)
    c.product_of.ensures c.product_of-2.ensures c.product_of-3.ensures c.product_of-4.ensures c.product_of-5.ensures c.product_of-6.ensures c.product_of-7.ensures c.product_of-8.ensures c.product_of-9.ensures
