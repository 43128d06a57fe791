use Rattle.std.proofs.Common.{zero, suc, FitsSigned, arith}
use Rattle.std.specs.Int.{w64}
use Rattle.std.proofs.lemmas.Int.{to_z-of_z}
use Rattle.fixed_q1.proofs.quick.guesses.Goals as goal

pub returns : goal.returns
returns c = elim [
  | zero ↦ λ h. (let f : FitsSigned w64 c.guess.result = record { sfits = c.guess.type_inv } in simp to_z-of_z c.guess.ensures)
  | suc zero ↦ λ h. (let f : FitsSigned w64 c.guess-2.result = record { sfits = c.guess-2.type_inv } in simp to_z-of_z c.guess-2.ensures)
  | suc (suc zero) ↦ λ h. (let f : FitsSigned w64 c.guess-3.result = record { sfits = c.guess-3.type_inv } in simp to_z-of_z c.guess-3.ensures)
  | suc (suc (suc zero)) ↦ λ h. (let f : FitsSigned w64 c.guess-4.result = record { sfits = c.guess-4.type_inv } in simp to_z-of_z c.guess-4.ensures)
  | suc (suc (suc (suc zero))) ↦ λ h. (let f : FitsSigned w64 c.guess-5.result = record { sfits = c.guess-5.type_inv } in simp to_z-of_z c.guess-5.ensures)
  | suc (suc (suc (suc (suc zero)))) ↦ λ h. (let f : FitsSigned w64 c.guess-6.result = record { sfits = c.guess-6.type_inv } in simp to_z-of_z c.guess-6.ensures)
  | suc (suc (suc (suc (suc (suc zero))))) ↦ λ h. (let f : FitsSigned w64 c.guess-7.result = record { sfits = c.guess-7.type_inv } in simp to_z-of_z c.guess-7.ensures)
  | suc (suc (suc (suc (suc (suc (suc zero)))))) ↦ λ h. (let f : FitsSigned w64 c.guess-8.result = record { sfits = c.guess-8.type_inv } in simp to_z-of_z c.guess-8.ensures)
  | suc (suc (suc (suc (suc (suc (suc (suc zero))))))) ↦ λ h. (let f : FitsSigned w64 c.guess-9.result = record { sfits = c.guess-9.type_inv } in simp to_z-of_z c.guess-9.ensures)
  | suc (suc (suc (suc (suc (suc (suc (suc (suc zero)))))))) ↦ λ h. (let f : FitsSigned w64 c.guess-10.result = record { sfits = c.guess-10.type_inv } in simp to_z-of_z c.guess-10.ensures)
  | suc (suc (suc (suc (suc (suc (suc (suc (suc (suc i))))))))) ↦ λ h. (let no : ⊥ = omega arith in absurd no)
]
