-- The form of a part of an interior face, by the degree: seen from the other side, and with the ends of the face
-- exchanged.
use Rattle.std.proofs.Common.{◌≡◌, ◌∙◌, sym, ap, refl, subst, ℕ, ◌+◌, ℤ, inl, inr, List, [], ◌∷◌, length, lit≤}
use Rattle.std.specs.Prelude.{Ok, Err}
use Rattle.std.specs.declared.result.Result.{Result}
use Rattle.fem_fixed.specs.declared.mesh.Point.{Point}
use Rattle.fixed_q1.specs.declared.fault.LocalFault.{LocalFault}
use Rattle.fixed_q1.specs.declared.geometry.Vector.{Vector}
use Rattle.fixed_q1.specs.LocalForm.{LocalForm}
use Rattle.fixed_q1.specs.JumpForm.{jump_form as bilinear_jump, other_way as bilinear_way}
use Rattle.fixed_q1.proofs.Exchanged.{form_exchanged as bilinear_exchanged}
use Rattle.fixed_q1.proofs.Turned.{form_turned as bilinear_turned}
use Rattle.fixed_q2.specs.JumpForm.{jump_form as biquadratic_jump, other_way as biquadratic_way}
use Rattle.fixed_q2.proofs.Exchanged.{form_exchanged as biquadratic_exchanged}
use Rattle.fixed_q2.proofs.Turned.{form_turned as biquadratic_turned}
use Rattle.dof_numbers.specs.Dofs.{IsDegree, names_each}
use Rattle.cell_blocks.specs.LocalBlocks.{IsBlock}
use Rattle.cell_blocks.specs.Forms.{jump_form}
use Rattle.cell_blocks.proofs.Made.{square_block, part_square}
use Rattle.cell_blocks.proofs.Squares.{part_block}
use Rattle.run_contributions.proofs.Exchange.{exchanged}

by_fours : (r : Result LocalForm LocalFault) → bilinear_way r ≡ exchanged 4 r
by_fours (Ok form) = refl
by_fours (Err fault) = refl

by_nines : (r : Result LocalForm LocalFault) → biquadratic_way r ≡ exchanged 9 r
by_nines (Ok form) = refl
by_nines (Err fault) = refl

pub form_exchanged : (degree : ℕ) (here there : List Point) (p q : Vector) (ends : List Point) (gamma : ℤ) → IsDegree degree →
    jump_form degree there q here p ends gamma ≡ exchanged (names_each degree) (jump_form degree here p there q ends gamma)
form_exchanged degree here there p q ends gamma (inl one) =
    let P : ℕ → Type 0 = λ n. jump_form n there q here p ends gamma ≡ exchanged (names_each n) (jump_form n here p there q ends gamma) in
    subst P (sym one) (bilinear_exchanged here there p q ends gamma ∙ by_fours (bilinear_jump here p there q ends gamma))
form_exchanged degree here there p q ends gamma (inr two) =
    let P : ℕ → Type 0 = λ n. jump_form n there q here p ends gamma ≡ exchanged (names_each n) (jump_form n here p there q ends gamma) in
    subst P (sym two) (biquadratic_exchanged here there p q ends gamma ∙ by_nines (biquadratic_jump here p there q ends gamma))

pub form_turned : (degree : ℕ) (here there : List Point) (p q : Vector) (a b : Point) (gamma : ℤ) → IsDegree degree →
    jump_form degree here p there q (b ∷ a ∷ []) gamma ≡ jump_form degree here p there q (a ∷ b ∷ []) gamma
form_turned degree here there p q a b gamma (inl one) =
    let P : ℕ → Type 0 = λ n. jump_form n here p there q (b ∷ a ∷ []) gamma ≡ jump_form n here p there q (a ∷ b ∷ []) gamma in
    subst P (sym one) (bilinear_turned here there p q a b gamma)
form_turned degree here there p q a b gamma (inr two) =
    let P : ℕ → Type 0 = λ n. jump_form n here p there q (b ∷ a ∷ []) gamma ≡ jump_form n here p there q (a ∷ b ∷ []) gamma in
    subst P (sym two) (biquadratic_turned here there p q a b gamma)

-- over as many dofs it is a block
pub form_whole : (degree : ℕ) (here there : List Point) (p q : Vector) (ends : List Point) (gamma : ℤ) (dofs : List ℕ) (form : LocalForm) → IsDegree degree → length dofs ≡ names_each degree + names_each degree →
    jump_form degree here p there q ends gamma ≡ Ok form → IsBlock (record { dofs = dofs; form = form })
form_whole degree here there p q ends gamma dofs form (inl one) count h =
    square_block 8 dofs form (lit≤ tt) (count ∙ ap (λ n. names_each n + names_each n) one) (part_square here there p q ends gamma form (ap (λ n. jump_form n here p there q ends gamma) (sym one) ∙ h))
form_whole degree here there p q ends gamma dofs form (inr two) count h =
    part_block here there p q ends gamma dofs form (count ∙ ap (λ n. names_each n + names_each n) two) (ap (λ n. jump_form n here p there q ends gamma) (sym two) ∙ h)
