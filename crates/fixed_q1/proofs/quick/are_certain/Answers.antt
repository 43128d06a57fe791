use Rattle.std.proofs.Common.{◌^◌, FitsSigned, lit<}
use Rattle.std.specs.Int.{w64, w128}
use Rattle.std.proofs.lemmas.Int.{to_z-of_z}
use Rattle.fixed_q1.specs.Evaluation.{number_at}
use Rattle.fixed_q1.proofs.Fits.{short_fits}
use Rattle.fixed_q1.proofs.TenEntries.{ten_passed}
use Rattle.fixed_q1.proofs.quick.are_certain.Goals as goal

pub returns : goal.returns
returns c =
    let diffusion : FitsSigned w128 c.args.diffusion = c.ranges.diffusion in
    let f0 : FitsSigned w64 (number_at c.args.parts.now 0) = short_fits _ (2 ^ 51) (c.requires.small 0 (lit< tt)) (lit< tt) in
    let r0 = c.is_part.ensures in
    let f1 : FitsSigned w64 (number_at c.args.parts.now 1) = short_fits _ (2 ^ 51) (c.requires.small 1 (lit< tt)) (lit< tt) in
    let r1 = c.is_part-2.ensures in
    let f2 : FitsSigned w64 (number_at c.args.parts.now 2) = short_fits _ (2 ^ 51) (c.requires.small 2 (lit< tt)) (lit< tt) in
    let r2 = c.is_part-3.ensures in
    let f3 : FitsSigned w64 (number_at c.args.parts.now 3) = short_fits _ (2 ^ 51) (c.requires.small 3 (lit< tt)) (lit< tt) in
    let r3 = c.is_part-4.ensures in
    let f4 : FitsSigned w64 (number_at c.args.parts.now 4) = short_fits _ (2 ^ 51) (c.requires.small 4 (lit< tt)) (lit< tt) in
    let r4 = c.is_part-5.ensures in
    let f5 : FitsSigned w64 (number_at c.args.parts.now 5) = short_fits _ (2 ^ 51) (c.requires.small 5 (lit< tt)) (lit< tt) in
    let r5 = c.is_part-6.ensures in
    let f6 : FitsSigned w64 (number_at c.args.parts.now 6) = short_fits _ (2 ^ 51) (c.requires.small 6 (lit< tt)) (lit< tt) in
    let r6 = c.is_part-7.ensures in
    let f7 : FitsSigned w64 (number_at c.args.parts.now 7) = short_fits _ (2 ^ 51) (c.requires.small 7 (lit< tt)) (lit< tt) in
    let r7 = c.is_part-8.ensures in
    let f8 : FitsSigned w64 (number_at c.args.parts.now 8) = short_fits _ (2 ^ 51) (c.requires.small 8 (lit< tt)) (lit< tt) in
    let r8 = c.is_part-9.ensures in
    let f9 : FitsSigned w64 (number_at c.args.parts.now 9) = short_fits _ (2 ^ 51) (c.requires.small 9 (lit< tt)) (lit< tt) in
    let r9 = c.is_part-10.ensures in
    ten_passed c.args.parts.now c.args.diffusion c.args.evaluation.now c.is_part.result c.is_part-2.result c.is_part-3.result c.is_part-4.result c.is_part-5.result
    c.is_part-6.result c.is_part-7.result c.is_part-8.result c.is_part-9.result c.is_part-10.result c.told-parts
    (simp to_z-of_z at r0) (simp to_z-of_z at r1) (simp to_z-of_z at r2) (simp to_z-of_z at r3) (simp to_z-of_z at r4) (simp to_z-of_z at r5) (simp to_z-of_z at r6) (simp to_z-of_z at r7) (simp to_z-of_z at r8) (simp to_z-of_z at r9)
