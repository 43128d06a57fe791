use Rattle.std.proofs.Common.{◌≡◌, ℤ, ◌^◌, FitsSigned, lit<}
use Rattle.std.specs.Int.{w64}
use Rattle.std.proofs.lemmas.Int.{to_z-of_z}
use Rattle.fixed_q1.specs.declared.geometry.Vector.{Vector}
use Rattle.fixed_q1.specs.declared.geometry.Jacobian.{Jacobian}
use Rattle.fixed_q1.specs.Geometry.{vector, transformed}
use Rattle.fixed_q1.proofs.Fits.{slope_fits, short_fits}
use Rattle.fixed_q2.proofs.sample.on_cell.Goals as goal

vector_same : (x y u v : ℤ) → x ≡ u → y ≡ v → vector x y ≡ vector u v
vector_same x y u v hx hy = cc

pub returns-clause-value : goal.returns-clause-value
unfolding transformed
returns-clause-value c =
    let j : Jacobian = c.args.jacobian.now in
    let g : Vector = c.args.shape.now.gradient in
    let xx : FitsSigned w64 j.xx = slope_fits j.xx c.requires.slopes.xx in
    let xy : FitsSigned w64 j.xy = slope_fits j.xy c.requires.slopes.xy in
    let yx : FitsSigned w64 j.yx = slope_fits j.yx c.requires.slopes.yx in
    let yy : FitsSigned w64 j.yy = slope_fits j.yy c.requires.slopes.yy in
    let x : FitsSigned w64 g.x = short_fits g.x (2 ^ 18) c.requires.shape.x (lit< tt) in
    let y : FitsSigned w64 g.y = short_fits g.y (2 ^ 18) c.requires.shape.y (lit< tt) in
    let fits : FitsSigned w64 c.cross.result = record { sfits = c.cross.type_inv } in
    let fits_2 : FitsSigned w64 c.cross-2.result = record { sfits = c.cross-2.type_inv } in
    let first = c.cross.ensures.value in
    let second = c.cross-2.ensures.value in
    simp to_z-of_z (vector_same _ _ _ _ (simp to_z-of_z at first) (simp to_z-of_z at second))
