use Rattle.std.proofs.Common.{◌≡◌, ◌∙◌, List, ℤ, FitsSigned}
use Rattle.std.specs.Prelude.{map}
use Rattle.std.specs.Int.{w128}
use Rattle.std.proofs.lemmas.Int.{to_z-of_z}
use Rattle.fixed_q1.specs.declared.evaluation.Evaluation.{Evaluation}
use Rattle.fixed_q1.specs.CellForm.{total}
use Rattle.fixed_q1.specs.Evaluation.{kept_diffusion}
use Rattle.fixed_q1.proofs.Parts.{numbers_same}
use Rattle.fixed_q1.proofs.Symmetry.{entry_commutes, rows_same}
use Rattle.fixed_q1.proofs.sums.divided_matrix.Goals as goal

pub returns : goal.returns
returns c =
    let es : List Evaluation = c.args.evaluations.now in
    let d : ℤ = c.args.diffusion in
    let fits : FitsSigned w128 d = c.ranges.diffusion in
    let f00 : FitsSigned w128 c.matrix_entry-e00.result = record { sfits = c.matrix_entry-e00.type_inv } in
    let r00 = c.matrix_entry-e00.ensures in
    let v00 : c.matrix_entry-e00.result ≡ total (map (kept_diffusion d 0 0) es) = simp to_z-of_z at r00 in
    let f01 : FitsSigned w128 c.matrix_entry-e01.result = record { sfits = c.matrix_entry-e01.type_inv } in
    let r01 = c.matrix_entry-e01.ensures in
    let v01 : c.matrix_entry-e01.result ≡ total (map (kept_diffusion d 0 1) es) = simp to_z-of_z at r01 in
    let f02 : FitsSigned w128 c.matrix_entry-e02.result = record { sfits = c.matrix_entry-e02.type_inv } in
    let r02 = c.matrix_entry-e02.ensures in
    let v02 : c.matrix_entry-e02.result ≡ total (map (kept_diffusion d 0 2) es) = simp to_z-of_z at r02 in
    let f03 : FitsSigned w128 c.matrix_entry-e03.result = record { sfits = c.matrix_entry-e03.type_inv } in
    let r03 = c.matrix_entry-e03.ensures in
    let v03 : c.matrix_entry-e03.result ≡ total (map (kept_diffusion d 0 3) es) = simp to_z-of_z at r03 in
    let f11 : FitsSigned w128 c.matrix_entry-e11.result = record { sfits = c.matrix_entry-e11.type_inv } in
    let r11 = c.matrix_entry-e11.ensures in
    let v11 : c.matrix_entry-e11.result ≡ total (map (kept_diffusion d 1 1) es) = simp to_z-of_z at r11 in
    let f12 : FitsSigned w128 c.matrix_entry-e12.result = record { sfits = c.matrix_entry-e12.type_inv } in
    let r12 = c.matrix_entry-e12.ensures in
    let v12 : c.matrix_entry-e12.result ≡ total (map (kept_diffusion d 1 2) es) = simp to_z-of_z at r12 in
    let f13 : FitsSigned w128 c.matrix_entry-e13.result = record { sfits = c.matrix_entry-e13.type_inv } in
    let r13 = c.matrix_entry-e13.ensures in
    let v13 : c.matrix_entry-e13.result ≡ total (map (kept_diffusion d 1 3) es) = simp to_z-of_z at r13 in
    let f22 : FitsSigned w128 c.matrix_entry-e22.result = record { sfits = c.matrix_entry-e22.type_inv } in
    let r22 = c.matrix_entry-e22.ensures in
    let v22 : c.matrix_entry-e22.result ≡ total (map (kept_diffusion d 2 2) es) = simp to_z-of_z at r22 in
    let f23 : FitsSigned w128 c.matrix_entry-e23.result = record { sfits = c.matrix_entry-e23.type_inv } in
    let r23 = c.matrix_entry-e23.ensures in
    let v23 : c.matrix_entry-e23.result ≡ total (map (kept_diffusion d 2 3) es) = simp to_z-of_z at r23 in
    let f33 : FitsSigned w128 c.matrix_entry-e33.result = record { sfits = c.matrix_entry-e33.type_inv } in
    let r33 = c.matrix_entry-e33.ensures in
    let v33 : c.matrix_entry-e33.result ≡ total (map (kept_diffusion d 3 3) es) = simp to_z-of_z at r33 in
    let v10 : c.matrix_entry-e01.result ≡ total (map (kept_diffusion d 1 0) es) = v01 ∙ entry_commutes es d 0 1 in
    let v20 : c.matrix_entry-e02.result ≡ total (map (kept_diffusion d 2 0) es) = v02 ∙ entry_commutes es d 0 2 in
    let v30 : c.matrix_entry-e03.result ≡ total (map (kept_diffusion d 3 0) es) = v03 ∙ entry_commutes es d 0 3 in
    let v21 : c.matrix_entry-e12.result ≡ total (map (kept_diffusion d 2 1) es) = v12 ∙ entry_commutes es d 1 2 in
    let v31 : c.matrix_entry-e13.result ≡ total (map (kept_diffusion d 3 1) es) = v13 ∙ entry_commutes es d 1 3 in
    let v32 : c.matrix_entry-e23.result ≡ total (map (kept_diffusion d 3 2) es) = v23 ∙ entry_commutes es d 2 3 in
    simp to_z-of_z (rows_same _ _ _ _ _ _ _ _
    (numbers_same _ _ _ _ _ _ _ _ v00 v01 v02 v03)
    (numbers_same _ _ _ _ _ _ _ _ v10 v11 v12 v13)
    (numbers_same _ _ _ _ _ _ _ _ v20 v21 v22 v23)
    (numbers_same _ _ _ _ _ _ _ _ v30 v31 v32 v33))
