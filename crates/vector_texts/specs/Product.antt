-- The product of the operator of a system with a vector, and its text.
use Rattle.std.specs.Prelude.{◌≡◌, ◌^◌, ℤ, List, [], ◌∷◌, Ok, Err}
use Rattle.std.specs.declared.result.Result.{Result}
use Rattle.conflict_coloring.specs.Coloring.{Coloring}
use Rattle.matrix_market.specs.Texts.{vector_text}
use Rattle.matrix_free.specs.Faults.{HaveNoFault, FaultIs}
use Rattle.matrix_free.specs.Product.{product}
use Rattle.mesh_loop.specs.Setup.{MeshProblem}
use Rattle.run_words.specs.Choice.{Output}
use Rattle.run_outputs.specs.Targets.{Target, first_target}
use Rattle.diagnostics.specs.declared.refusal.Refusal.{Refusal}
use Rattle.diagnostics.specs.Stages.{Then, Says}
use Rattle.system_texts.specs.Sums.{IsColoringOf}
use Rattle.vector_texts.specs.Endings.{of_product}
use Rattle.vector_texts.specs.Fitting.{FittedTo}

-- the product, where no cell has a fault, or how it fails at the first cell in the order of the colours that has one
abbrev pub ProductOf : MeshProblem → List ℤ → Result (List ℤ) Refusal → Type 0
ProductOf s x (Ok list) = (c : Coloring) × IsColoringOf s c × HaveNoFault s x c.order × (list ≡ product s x)
ProductOf s x (Err refusal) = (c : Coloring) × IsColoringOf s c × Says of_product (FaultIs s x c.order) refusal

abbrev pub ProductText : Output → List ℤ → Result (List Target) Refusal → Type 0
ProductText output list outcome = outcome ≡ Ok (first_target output (vector_text list) ∷ [])

-- the vector is looked at, and then its product is made and written in the form of a right side
abbrev pub ProductTexts : Output → List ℤ → MeshProblem → Result (List Target) Refusal → Type 0
ProductTexts output values s = Then (FittedTo s.given.dofs.size (2 ^ 20) values) (λ x. Then (ProductOf s x) (ProductText output))
