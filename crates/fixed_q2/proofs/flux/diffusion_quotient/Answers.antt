use Rattle.std.proofs.Common.{ℤ, pos, ◌*ℤ◌, ◌^◌, ◌≤◌, FitsSigned, lit<}
use Rattle.std.specs.Prelude.{unsigned_abs}
use Rattle.std.specs.Int.{w128, w64}
use Rattle.std.proofs.lemmas.Int.{to_z-of_z}
use Rattle.fem_fixed.proofs.Sizes.{size_mul, size_fits}
use Rattle.fem_fixed.specs.Rounding.{IsNearest}
use Rattle.fem_fixed.proofs.Nearest.{nearest_size}
use Rattle.fixed_q2.proofs.Fits.{scaled_positive, scaled_size, over_size}
use Rattle.fixed_q2.proofs.flux.diffusion_quotient.Goals as goal

pub returns-clause-value : goal.returns-clause-value
returns-clause-value c =
    let d : ℤ = c.args.diffusion in
    let p : ℤ = c.args.product in
    let det : ℤ = c.args.determinant in
    let fd : FitsSigned w64 d = c.ranges.diffusion in
    let fd2 : FitsSigned w128 d = size_fits _ (2 ^ 31) c.requires.diffusion (lit< tt) in
    let fp : FitsSigned w128 p = c.ranges.product in
    let fdet : FitsSigned w64 det = c.ranges.determinant in
    let fdet2 : FitsSigned w128 det = size_fits _ (2 ^ 57) c.requires.determinant (lit< tt) in
    let size : unsigned_abs (d *ℤ p) ≤ 2 ^ 126 = size_mul d p (2 ^ 31) (2 ^ 95) c.requires.diffusion c.requires.product in
    let fn : FitsSigned w128 (d *ℤ p) = size_fits _ (2 ^ 126) size (lit< tt) in
    let fs : FitsSigned w128 (pos 65536 *ℤ det) = size_fits _ (2 ^ 73) (scaled_size det c.requires.determinant) (lit< tt) in
    let fr : FitsSigned w128 c.rdiv.result = record { sfits = c.rdiv.type_inv } in
    let raw = c.rdiv.ensures.value in
    simp to_z-of_z (simp to_z-of_z at raw)

pub returns-clause-size : goal.returns-clause-size
returns-clause-size c =
    let d : ℤ = c.args.diffusion in
    let p : ℤ = c.args.product in
    let det : ℤ = c.args.determinant in
    let fd : FitsSigned w64 d = c.ranges.diffusion in
    let fd2 : FitsSigned w128 d = size_fits _ (2 ^ 31) c.requires.diffusion (lit< tt) in
    let fp : FitsSigned w128 p = c.ranges.product in
    let fdet : FitsSigned w64 det = c.ranges.determinant in
    let fdet2 : FitsSigned w128 det = size_fits _ (2 ^ 57) c.requires.determinant (lit< tt) in
    let size : unsigned_abs (d *ℤ p) ≤ 2 ^ 126 = size_mul d p (2 ^ 31) (2 ^ 95) c.requires.diffusion c.requires.product in
    let fn : FitsSigned w128 (d *ℤ p) = size_fits _ (2 ^ 126) size (lit< tt) in
    let fs : FitsSigned w128 (pos 65536 *ℤ det) = size_fits _ (2 ^ 73) (scaled_size det c.requires.determinant) (lit< tt) in
    let fr : FitsSigned w128 c.rdiv.result = record { sfits = c.rdiv.type_inv } in
    let raw = c.rdiv.ensures.near in
    let close : IsNearest (d *ℤ p) (pos 65536 *ℤ det) c.rdiv.result = simp to_z-of_z at raw in
    simp to_z-of_z
    (nearest_size (d *ℤ p) (pos 65536 *ℤ det) c.rdiv.result (2 ^ 110) (scaled_positive det c.requires.positive) close (over_size (d *ℤ p) det c.requires.positive size))
