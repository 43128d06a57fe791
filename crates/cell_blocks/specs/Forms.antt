-- The local forms, by the degree of the shape functions.
use Rattle.std.specs.Prelude.{ℕ, ◌==◌, cond, List, [], ◌∷◌, ℤ}
use Rattle.std.specs.declared.option.Option.{Option}
use Rattle.std.specs.declared.option.Option.TheVariants.{Some, None}
use Rattle.std.specs.declared.result.Result.{Result}
use Rattle.fem_fixed.specs.declared.mesh.Point.{Point}
use Rattle.fixed_q1.specs.declared.fault.LocalFault.{LocalFault}
use Rattle.fixed_q1.specs.declared.geometry.Vector.{Vector}
use Rattle.fixed_q1.specs.LocalForm.{LocalForm, zero_matrix, zero_load}
use Rattle.fixed_q1.specs.CellForm.{cell_form as bilinear_form}
use Rattle.fixed_q1.specs.BoundaryForm.{boundary_form as linear_edge}
use Rattle.fixed_q1.specs.JumpForm.{jump_form as bilinear_jump}
use Rattle.fixed_q2.specs.CellForm.{cell_form as biquadratic_form}
use Rattle.fixed_q2.specs.BoundaryForm.{boundary_form as quadratic_edge}
use Rattle.fixed_q2.specs.JumpForm.{jump_form as biquadratic_jump}

-- of a cell
abbrev pub cell_form : ℕ → List Point → ℤ → ℤ → Result LocalForm LocalFault
cell_form degree points diffusion source = cond (degree == 2) (biquadratic_form points diffusion source) (bilinear_form points diffusion source)

-- of a face at the boundary
abbrev pub boundary_form : ℕ → List Point → ℤ → ℤ → LocalForm
boundary_form degree ends alpha g = cond (degree == 2) (quadratic_edge ends alpha g) (linear_edge ends alpha g)

-- of a part of an interior face
abbrev pub jump_form : ℕ → List Point → Vector → List Point → Vector → List Point → ℤ → Result LocalForm LocalFault
jump_form degree here p there q ends gamma = cond (degree == 2) (biquadratic_jump here p there q ends gamma) (bilinear_jump here p there q ends gamma)

-- the numbers of the functions of a face: of its two ends, and with degree 2 of its middle
abbrev pub face_numbers : ℕ → List ℕ
face_numbers degree = cond (degree == 2) (0 ∷ 1 ∷ 2 ∷ []) (0 ∷ 1 ∷ [])

-- the form of a boundary face: zeros where nothing is set on its id
abbrev pub face_form : ℕ → Option (ℤ × ℤ) → List Point → LocalForm
face_form degree None ends = record { matrix = zero_matrix (face_numbers degree); load = zero_load (face_numbers degree) }
face_form degree (Some robin) ends = boundary_form degree ends robin.0 robin.1
