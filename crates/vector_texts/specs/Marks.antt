-- The cells that are marked for refinement, and their text.
use Rattle.std.specs.Prelude.{◌≡◌, ◌^◌, ℕ, ℤ, List, [], ◌∷◌, Ok, Err}
use Rattle.std.specs.declared.result.Result.{Result}
use Rattle.hanging_refine.specs.Refined.{RefinedMesh}
use Rattle.dof_numbers.specs.Dofs.{Numbering}
use Rattle.constrained_mesh.specs.MeshLines.{dof_count}
use Rattle.jump_refine.specs.Jumps.{IsFunctionOn}
use Rattle.jump_refine.specs.Indicator.{indicators_of, IsFaultOf}
use Rattle.jump_refine.specs.Marks.{AreMarked}
use Rattle.run_words.specs.Choice.{Output}
use Rattle.run_outputs.specs.Targets.{Target, first_target}
use Rattle.diagnostics.specs.declared.refusal.Refusal.{Refusal}
use Rattle.diagnostics.specs.Stages.{Then, Says}
use Rattle.vector_texts.specs.Endings.{of_indicators}
use Rattle.vector_texts.specs.Fitting.{FittedTo}
use Rattle.vector_texts.specs.Text.{marks_text}

-- the indicators of all cells for a function, given by its values at the dofs of degree 1, or the first fault
abbrev pub Indicated : RefinedMesh → List ℤ → Result (List ℕ) Refusal → Type 0
Indicated forest x (Ok etas) = (dofs : Numbering) × IsFunctionOn forest dofs x × (indicators_of forest dofs x ≡ Ok etas)
Indicated forest x (Err refusal) = (dofs : Numbering) × IsFunctionOn forest dofs x × Says of_indicators (IsFaultOf (indicators_of forest dofs x)) refusal

-- indicators, and the first cells by them
abbrev pub Marks : Type 0
Marks = List ℕ × List ℕ

abbrev pub MarkedBy : ℕ → List ℕ → Result Marks Refusal → Type 0
MarkedBy count etas (Ok marks) = (marks.0 ≡ etas) × AreMarked etas count marks.1
MarkedBy count etas (Err refusal) = ⊥

-- the vector is looked at, and then the cells with the greatest indicators are marked, at most so many
abbrev pub MarkedOn : ℕ → List ℤ → RefinedMesh → Result Marks Refusal → Type 0
MarkedOn count values forest = Then (FittedTo (dof_count 1 forest) (2 ^ 31) values) (λ x. Then (Indicated forest x) (MarkedBy count))

abbrev pub MarksText : Output → Marks → Result (List Target) Refusal → Type 0
MarksText output marks outcome = outcome ≡ Ok (first_target output (marks_text marks.0 marks.1) ∷ [])

-- the marked cells are written
abbrev pub MarksTexts : Output → ℕ → List ℤ → RefinedMesh → Result (List Target) Refusal → Type 0
MarksTexts output count values forest = Then (MarkedOn count values forest) (MarksText output)
