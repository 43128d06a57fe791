use Rattle.std.proofs.Common.{zero, suc, FitsSigned, arith}
use Rattle.std.specs.Int.{w64, w128}
use Rattle.std.proofs.lemmas.Int.{to_z-of_z}
use Rattle.fixed_q1.proofs.TenEntries.{sums_are}
use Rattle.fixed_q1.proofs.quick.quick_entries.Goals as goal

pub quick_parts-requires-3-clause-evaluation : goal.quick_parts-requires-3-clause-evaluation
quick_parts-requires-3-clause-evaluation c = c.requires.evaluations 2 _ (omega (arith, c.told-evaluations))

pub quick_parts-requires-4-clause-evaluation : goal.quick_parts-requires-4-clause-evaluation
quick_parts-requires-4-clause-evaluation c = c.requires.evaluations 3 _ (omega (arith, c.told-evaluations))

pub returns-clause-value : goal.returns-clause-value
returns-clause-value c =
    let diffusion : FitsSigned w128 c.args.diffusion = c.ranges.diffusion in
    let v0 = c.in_ok-p0.ensures.value in
    let v1 = c.in_ok-p1.ensures.value in
    let v2 = c.in_ok-p2.ensures.value in
    let v3 = c.in_ok-p3.ensures.value in
    let f0 : FitsSigned w64 c.sum_at.result = record { sfits = c.sum_at.type_inv } in
    let f1 : FitsSigned w64 c.sum_at-2.result = record { sfits = c.sum_at-2.type_inv } in
    let f2 : FitsSigned w64 c.sum_at-3.result = record { sfits = c.sum_at-3.type_inv } in
    let f3 : FitsSigned w64 c.sum_at-4.result = record { sfits = c.sum_at-4.type_inv } in
    let f4 : FitsSigned w64 c.sum_at-5.result = record { sfits = c.sum_at-5.type_inv } in
    let f5 : FitsSigned w64 c.sum_at-6.result = record { sfits = c.sum_at-6.type_inv } in
    let f6 : FitsSigned w64 c.sum_at-7.result = record { sfits = c.sum_at-7.type_inv } in
    let f7 : FitsSigned w64 c.sum_at-8.result = record { sfits = c.sum_at-8.type_inv } in
    let f8 : FitsSigned w64 c.sum_at-9.result = record { sfits = c.sum_at-9.type_inv } in
    let f9 : FitsSigned w64 c.sum_at-10.result = record { sfits = c.sum_at-10.type_inv } in
    simp to_z-of_z (sums_are c.args.evaluations.now c.args.diffusion _ _ _ _ c.in_ok-p0.p0 c.in_ok-p1.p1 c.in_ok-p2.p2 c.in_ok-p3.p3 _ _ _ _ _ _ _ _ _ _ c.told-evaluations
    (simp to_z-of_z at v0) (simp to_z-of_z at v1) (simp to_z-of_z at v2) (simp to_z-of_z at v3)
    c.sum_at.ensures.value c.sum_at-2.ensures.value c.sum_at-3.ensures.value c.sum_at-4.ensures.value c.sum_at-5.ensures.value c.sum_at-6.ensures.value c.sum_at-7.ensures.value c.sum_at-8.ensures.value c.sum_at-9.ensures.value c.sum_at-10.ensures.value)

pub returns-clause-small : goal.returns-clause-small
returns-clause-small c = elim [
  | zero ↦ λ h. (let f : FitsSigned w64 c.sum_at.result = record { sfits = c.sum_at.type_inv } in simp to_z-of_z c.sum_at.ensures.small)
  | suc zero ↦ λ h. (let f : FitsSigned w64 c.sum_at-2.result = record { sfits = c.sum_at-2.type_inv } in simp to_z-of_z c.sum_at-2.ensures.small)
  | suc (suc zero) ↦ λ h. (let f : FitsSigned w64 c.sum_at-3.result = record { sfits = c.sum_at-3.type_inv } in simp to_z-of_z c.sum_at-3.ensures.small)
  | suc (suc (suc zero)) ↦ λ h. (let f : FitsSigned w64 c.sum_at-4.result = record { sfits = c.sum_at-4.type_inv } in simp to_z-of_z c.sum_at-4.ensures.small)
  | suc (suc (suc (suc zero))) ↦ λ h. (let f : FitsSigned w64 c.sum_at-5.result = record { sfits = c.sum_at-5.type_inv } in simp to_z-of_z c.sum_at-5.ensures.small)
  | suc (suc (suc (suc (suc zero)))) ↦ λ h. (let f : FitsSigned w64 c.sum_at-6.result = record { sfits = c.sum_at-6.type_inv } in simp to_z-of_z c.sum_at-6.ensures.small)
  | suc (suc (suc (suc (suc (suc zero))))) ↦ λ h. (let f : FitsSigned w64 c.sum_at-7.result = record { sfits = c.sum_at-7.type_inv } in simp to_z-of_z c.sum_at-7.ensures.small)
  | suc (suc (suc (suc (suc (suc (suc zero)))))) ↦ λ h. (let f : FitsSigned w64 c.sum_at-8.result = record { sfits = c.sum_at-8.type_inv } in simp to_z-of_z c.sum_at-8.ensures.small)
  | suc (suc (suc (suc (suc (suc (suc (suc zero))))))) ↦ λ h. (let f : FitsSigned w64 c.sum_at-9.result = record { sfits = c.sum_at-9.type_inv } in simp to_z-of_z c.sum_at-9.ensures.small)
  | suc (suc (suc (suc (suc (suc (suc (suc (suc zero)))))))) ↦ λ h. (let f : FitsSigned w64 c.sum_at-10.result = record { sfits = c.sum_at-10.type_inv } in simp to_z-of_z c.sum_at-10.ensures.small)
  | suc (suc (suc (suc (suc (suc (suc (suc (suc (suc i))))))))) ↦ λ h. (let no : ⊥ = omega arith in absurd no)
]
