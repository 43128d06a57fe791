use Rattle.std.proofs.Common.{◌≡◌, ◌∙◌, ℕ, ◌+◌, List, ℤ, FitsSigned}
use Rattle.std.specs.Int.{w128}
use Rattle.std.proofs.lemmas.Int.{to_z-of_z}
use Rattle.fixed_q1.specs.JumpForm.{jump_entry}
use Rattle.fixed_q1.proofs.Parts.{numbers_same}
use Rattle.fixed_q1.proofs.Symmetry.{jump_commutes, rows_same}
use Rattle.fixed_q1.proofs.penalty.own_block.Goals as goal

pub returns : goal.returns
returns c =
    let q : List ℤ = c.args.factors.now in
    let gamma : ℤ = c.args.gamma in
    let first : ℕ = c.args.first in
    let fits : FitsSigned w128 gamma = c.ranges.gamma in
    let f00 : FitsSigned w128 c.entry-e00.result = record { sfits = c.entry-e00.type_inv } in
    let r00 = c.entry-e00.ensures in
    let v00 : c.entry-e00.result ≡ jump_entry gamma q first first = simp to_z-of_z at r00 in
    let f01 : FitsSigned w128 c.entry-e01.result = record { sfits = c.entry-e01.type_inv } in
    let r01 = c.entry-e01.ensures in
    let v01 : c.entry-e01.result ≡ jump_entry gamma q first (first + 1) = simp to_z-of_z at r01 in
    let f02 : FitsSigned w128 c.entry-e02.result = record { sfits = c.entry-e02.type_inv } in
    let r02 = c.entry-e02.ensures in
    let v02 : c.entry-e02.result ≡ jump_entry gamma q first (first + 2) = simp to_z-of_z at r02 in
    let f03 : FitsSigned w128 c.entry-e03.result = record { sfits = c.entry-e03.type_inv } in
    let r03 = c.entry-e03.ensures in
    let v03 : c.entry-e03.result ≡ jump_entry gamma q first (first + 3) = simp to_z-of_z at r03 in
    let f11 : FitsSigned w128 c.entry-e11.result = record { sfits = c.entry-e11.type_inv } in
    let r11 = c.entry-e11.ensures in
    let v11 : c.entry-e11.result ≡ jump_entry gamma q (first + 1) (first + 1) = simp to_z-of_z at r11 in
    let f12 : FitsSigned w128 c.entry-e12.result = record { sfits = c.entry-e12.type_inv } in
    let r12 = c.entry-e12.ensures in
    let v12 : c.entry-e12.result ≡ jump_entry gamma q (first + 1) (first + 2) = simp to_z-of_z at r12 in
    let f13 : FitsSigned w128 c.entry-e13.result = record { sfits = c.entry-e13.type_inv } in
    let r13 = c.entry-e13.ensures in
    let v13 : c.entry-e13.result ≡ jump_entry gamma q (first + 1) (first + 3) = simp to_z-of_z at r13 in
    let f22 : FitsSigned w128 c.entry-e22.result = record { sfits = c.entry-e22.type_inv } in
    let r22 = c.entry-e22.ensures in
    let v22 : c.entry-e22.result ≡ jump_entry gamma q (first + 2) (first + 2) = simp to_z-of_z at r22 in
    let f23 : FitsSigned w128 c.entry-e23.result = record { sfits = c.entry-e23.type_inv } in
    let r23 = c.entry-e23.ensures in
    let v23 : c.entry-e23.result ≡ jump_entry gamma q (first + 2) (first + 3) = simp to_z-of_z at r23 in
    let f33 : FitsSigned w128 c.entry-e33.result = record { sfits = c.entry-e33.type_inv } in
    let r33 = c.entry-e33.ensures in
    let v33 : c.entry-e33.result ≡ jump_entry gamma q (first + 3) (first + 3) = simp to_z-of_z at r33 in
    let v10 : c.entry-e01.result ≡ jump_entry gamma q (first + 1) first = v01 ∙ jump_commutes gamma q first (first + 1) in
    let v20 : c.entry-e02.result ≡ jump_entry gamma q (first + 2) first = v02 ∙ jump_commutes gamma q first (first + 2) in
    let v30 : c.entry-e03.result ≡ jump_entry gamma q (first + 3) first = v03 ∙ jump_commutes gamma q first (first + 3) in
    let v21 : c.entry-e12.result ≡ jump_entry gamma q (first + 2) (first + 1) = v12 ∙ jump_commutes gamma q (first + 1) (first + 2) in
    let v31 : c.entry-e13.result ≡ jump_entry gamma q (first + 3) (first + 1) = v13 ∙ jump_commutes gamma q (first + 1) (first + 3) in
    let v32 : c.entry-e23.result ≡ jump_entry gamma q (first + 3) (first + 2) = v23 ∙ jump_commutes gamma q (first + 2) (first + 3) in
    simp to_z-of_z (rows_same _ _ _ _ _ _ _ _
    (numbers_same _ _ _ _ _ _ _ _ v00 v01 v02 v03)
    (numbers_same _ _ _ _ _ _ _ _ v10 v11 v12 v13)
    (numbers_same _ _ _ _ _ _ _ _ v20 v21 v22 v23)
    (numbers_same _ _ _ _ _ _ _ _ v30 v31 v32 v33))
