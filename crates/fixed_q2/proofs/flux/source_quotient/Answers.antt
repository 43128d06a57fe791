use Rattle.std.proofs.Common.{◌*◌, ℤ, pos, ◌*ℤ◌, ◌^◌, ◌≤◌, FitsSigned, arith, lit<}
use Rattle.std.specs.Prelude.{unsigned_abs}
use Rattle.std.specs.Int.{w128, w64}
use Rattle.std.proofs.lemmas.Int.{to_z-of_z}
use Rattle.fem_fixed.proofs.Sizes.{size_mul, size_fits}
use Rattle.fem_fixed.specs.Rounding.{IsNearest}
use Rattle.fem_fixed.proofs.Nearest.{nearest_size}
use Rattle.fixed_q2.proofs.flux.source_quotient.Goals as goal

pub overflow_mul-source-2 : goal.overflow_mul-source-2
overflow_mul-source-2 c =
    let s : ℤ = c.args.source in
    let v : ℤ = c.args.value in
    let det : ℤ = c.args.determinant in
    let fs : FitsSigned w64 s = c.ranges.source in
    let fs2 : FitsSigned w128 s = size_fits _ (2 ^ 31) c.requires.source (lit< tt) in
    let fv : FitsSigned w64 v = c.ranges.value in
    let fv2 : FitsSigned w128 v = size_fits _ (2 ^ 32) c.requires.value (lit< tt) in
    let fdet : FitsSigned w64 det = c.ranges.determinant in
    let fdet2 : FitsSigned w128 det = size_fits _ (2 ^ 57) c.requires.determinant (lit< tt) in
    let once : unsigned_abs (s *ℤ v) ≤ 2 ^ 63 = size_mul s v (2 ^ 31) (2 ^ 32) c.requires.source c.requires.value in
    let f1 : FitsSigned w128 (s *ℤ v) = size_fits _ (2 ^ 63) once (lit< tt) in
    let twice : unsigned_abs (s *ℤ v *ℤ det) ≤ 2 ^ 120 = size_mul (s *ℤ v) det (2 ^ 63) (2 ^ 57) once c.requires.determinant in
    let f2 : FitsSigned w128 (s *ℤ v *ℤ det) = size_fits _ (2 ^ 120) twice (lit< tt) in
    simp to_z-of_z f2

pub returns-clause-value : goal.returns-clause-value
returns-clause-value c =
    let s : ℤ = c.args.source in
    let v : ℤ = c.args.value in
    let det : ℤ = c.args.determinant in
    let fs : FitsSigned w64 s = c.ranges.source in
    let fs2 : FitsSigned w128 s = size_fits _ (2 ^ 31) c.requires.source (lit< tt) in
    let fv : FitsSigned w64 v = c.ranges.value in
    let fv2 : FitsSigned w128 v = size_fits _ (2 ^ 32) c.requires.value (lit< tt) in
    let fdet : FitsSigned w64 det = c.ranges.determinant in
    let fdet2 : FitsSigned w128 det = size_fits _ (2 ^ 57) c.requires.determinant (lit< tt) in
    let once : unsigned_abs (s *ℤ v) ≤ 2 ^ 63 = size_mul s v (2 ^ 31) (2 ^ 32) c.requires.source c.requires.value in
    let f1 : FitsSigned w128 (s *ℤ v) = size_fits _ (2 ^ 63) once (lit< tt) in
    let twice : unsigned_abs (s *ℤ v *ℤ det) ≤ 2 ^ 120 = size_mul (s *ℤ v) det (2 ^ 63) (2 ^ 57) once c.requires.determinant in
    let f2 : FitsSigned w128 (s *ℤ v *ℤ det) = size_fits _ (2 ^ 120) twice (lit< tt) in
    let fr : FitsSigned w128 c.rdiv.result = record { sfits = c.rdiv.type_inv } in
    let raw = c.rdiv.ensures.value in
    simp to_z-of_z (simp to_z-of_z at raw)

pub returns-clause-size : goal.returns-clause-size
returns-clause-size c =
    let s : ℤ = c.args.source in
    let v : ℤ = c.args.value in
    let det : ℤ = c.args.determinant in
    let fs : FitsSigned w64 s = c.ranges.source in
    let fs2 : FitsSigned w128 s = size_fits _ (2 ^ 31) c.requires.source (lit< tt) in
    let fv : FitsSigned w64 v = c.ranges.value in
    let fv2 : FitsSigned w128 v = size_fits _ (2 ^ 32) c.requires.value (lit< tt) in
    let fdet : FitsSigned w64 det = c.ranges.determinant in
    let fdet2 : FitsSigned w128 det = size_fits _ (2 ^ 57) c.requires.determinant (lit< tt) in
    let once : unsigned_abs (s *ℤ v) ≤ 2 ^ 63 = size_mul s v (2 ^ 31) (2 ^ 32) c.requires.source c.requires.value in
    let f1 : FitsSigned w128 (s *ℤ v) = size_fits _ (2 ^ 63) once (lit< tt) in
    let twice : unsigned_abs (s *ℤ v *ℤ det) ≤ 2 ^ 120 = size_mul (s *ℤ v) det (2 ^ 63) (2 ^ 57) once c.requires.determinant in
    let f2 : FitsSigned w128 (s *ℤ v *ℤ det) = size_fits _ (2 ^ 120) twice (lit< tt) in
    let fr : FitsSigned w128 c.rdiv.result = record { sfits = c.rdiv.type_inv } in
    let raw = c.rdiv.ensures.near in
    let close : IsNearest (s *ℤ v *ℤ det) (pos (2 ^ 48)) c.rdiv.result = simp to_z-of_z at raw in
    let bound : unsigned_abs (s *ℤ v *ℤ det) ≤ 2 ^ 110 * unsigned_abs (pos (2 ^ 48)) = omega (arith, twice) in
    simp to_z-of_z (nearest_size (s *ℤ v *ℤ det) (pos (2 ^ 48)) c.rdiv.result (2 ^ 110) (record { lt = tt }) close bound)
