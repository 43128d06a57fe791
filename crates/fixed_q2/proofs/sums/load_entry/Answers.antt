use Rattle.std.proofs.Common.{◌∙◌, ap, ℤ, ◌+ℤ◌, ◌^◌, ◌≤◌, FitsSigned, arith}
use Rattle.std.specs.Prelude.{unsigned_abs}
use Rattle.std.specs.Int.{w128, w64}
use Rattle.std.proofs.lemmas.Int.{to_z-of_z}
use Rattle.fixed_q1.specs.CellForm.{total}
use Rattle.fixed_q1.proofs.Fits.{two_fit, three_fit}
use Rattle.fixed_q2.specs.Samples.{kept_source}
use Rattle.fixed_q2.proofs.Nine.{mapped, nine_sum, sums_same}
use Rattle.fixed_q2.proofs.sums.load_entry.Goals as goal

pub overflow_add-result : goal.overflow_add-result
overflow_add-result c =
    let a : ℤ = c.sum_of_three-near.result in
    let b : ℤ = c.sum_of_three-middle.result in
    let d : ℤ = c.sum_of_three-far.result in
    let fa : FitsSigned w128 a = record { sfits = c.sum_of_three-near.type_inv } in
    let fb : FitsSigned w128 b = record { sfits = c.sum_of_three-middle.type_inv } in
    let fd : FitsSigned w128 d = record { sfits = c.sum_of_three-far.type_inv } in
    let sa : unsigned_abs a ≤ 2 ^ 122 = omega (arith, c.sum_of_three-near.ensures.size) in
    let sb : unsigned_abs b ≤ 2 ^ 122 = omega (arith, c.sum_of_three-middle.ensures.size) in
    let sd : unsigned_abs d ≤ 2 ^ 122 = omega (arith, c.sum_of_three-far.ensures.size) in
    let two = two_fit a b sa sb in
    let three = three_fit a b d sa sb sd in
    simp to_z-of_z two

pub overflow_add-result-2 : goal.overflow_add-result-2
overflow_add-result-2 c =
    let a : ℤ = c.sum_of_three-near.result in
    let b : ℤ = c.sum_of_three-middle.result in
    let d : ℤ = c.sum_of_three-far.result in
    let fa : FitsSigned w128 a = record { sfits = c.sum_of_three-near.type_inv } in
    let fb : FitsSigned w128 b = record { sfits = c.sum_of_three-middle.type_inv } in
    let fd : FitsSigned w128 d = record { sfits = c.sum_of_three-far.type_inv } in
    let sa : unsigned_abs a ≤ 2 ^ 122 = omega (arith, c.sum_of_three-near.ensures.size) in
    let sb : unsigned_abs b ≤ 2 ^ 122 = omega (arith, c.sum_of_three-middle.ensures.size) in
    let sd : unsigned_abs d ≤ 2 ^ 122 = omega (arith, c.sum_of_three-far.ensures.size) in
    let two = two_fit a b sa sb in
    let three = three_fit a b d sa sb sd in
    simp to_z-of_z three

pub returns : goal.returns
returns c =
    let a : ℤ = c.sum_of_three-near.result in
    let b : ℤ = c.sum_of_three-middle.result in
    let d : ℤ = c.sum_of_three-far.result in
    let fa : FitsSigned w128 a = record { sfits = c.sum_of_three-near.type_inv } in
    let fb : FitsSigned w128 b = record { sfits = c.sum_of_three-middle.type_inv } in
    let fd : FitsSigned w128 d = record { sfits = c.sum_of_three-far.type_inv } in
    let sa : unsigned_abs a ≤ 2 ^ 122 = omega (arith, c.sum_of_three-near.ensures.size) in
    let sb : unsigned_abs b ≤ 2 ^ 122 = omega (arith, c.sum_of_three-middle.ensures.size) in
    let sd : unsigned_abs d ≤ 2 ^ 122 = omega (arith, c.sum_of_three-far.ensures.size) in
    let two = two_fit a b sa sb in
    let three = three_fit a b d sa sb sd in
    let coefficient : FitsSigned w64 c.args.source = c.ranges.source in
    let f0 : FitsSigned w128 c.source_part-p0.result = record { sfits = c.source_part-p0.type_inv } in
    let f1 : FitsSigned w128 c.source_part-p1.result = record { sfits = c.source_part-p1.type_inv } in
    let f2 : FitsSigned w128 c.source_part-p2.result = record { sfits = c.source_part-p2.type_inv } in
    let f3 : FitsSigned w128 c.source_part-p3.result = record { sfits = c.source_part-p3.type_inv } in
    let f4 : FitsSigned w128 c.source_part-p4.result = record { sfits = c.source_part-p4.type_inv } in
    let f5 : FitsSigned w128 c.source_part-p5.result = record { sfits = c.source_part-p5.type_inv } in
    let f6 : FitsSigned w128 c.source_part-p6.result = record { sfits = c.source_part-p6.type_inv } in
    let f7 : FitsSigned w128 c.source_part-p7.result = record { sfits = c.source_part-p7.type_inv } in
    let f8 : FitsSigned w128 c.source_part-p8.result = record { sfits = c.source_part-p8.type_inv } in
    let r0 = c.source_part-p0.ensures.value in
    let r1 = c.source_part-p1.ensures.value in
    let r2 = c.source_part-p2.ensures.value in
    let r3 = c.source_part-p3.ensures.value in
    let r4 = c.source_part-p4.ensures.value in
    let r5 = c.source_part-p5.ensures.value in
    let r6 = c.source_part-p6.ensures.value in
    let r7 = c.source_part-p7.ensures.value in
    let r8 = c.source_part-p8.ensures.value in
    let va = c.sum_of_three-near.ensures.value in
    let vb = c.sum_of_three-middle.ensures.value in
    let vd = c.sum_of_three-far.ensures.value in
    simp to_z-of_z
    (sums_same a b d (c.source_part-p0.result +ℤ c.source_part-p1.result +ℤ c.source_part-p2.result) (c.source_part-p3.result +ℤ c.source_part-p4.result +ℤ c.source_part-p5.result) (c.source_part-p6.result +ℤ c.source_part-p7.result +ℤ c.source_part-p8.result) (simp to_z-of_z at va) (simp to_z-of_z at vb) (simp to_z-of_z at vd) ∙ nine_sum c.source_part-p0.result c.source_part-p1.result c.source_part-p2.result c.source_part-p3.result c.source_part-p4.result c.source_part-p5.result c.source_part-p6.result c.source_part-p7.result c.source_part-p8.result
    ∙ ap total (mapped (kept_source c.args.source c.args.i) c.args.samples.now _ _ _ _ _ _ _ _ _ c.source_part-p0.result c.source_part-p1.result c.source_part-p2.result c.source_part-p3.result c.source_part-p4.result c.source_part-p5.result c.source_part-p6.result c.source_part-p7.result c.source_part-p8.result c.told-samples
    (simp to_z-of_z at r0) (simp to_z-of_z at r1) (simp to_z-of_z at r2) (simp to_z-of_z at r3) (simp to_z-of_z at r4) (simp to_z-of_z at r5) (simp to_z-of_z at r6) (simp to_z-of_z at r7) (simp to_z-of_z at r8)))
