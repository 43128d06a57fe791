-- Laws of vectors on systems and refined meshes.
use Rattle.std.specs.Prelude.{◌≡◌, ℕ, ◌<◌, ℤ, List, [], ◌∷◌, length, Ok}
use Rattle.std.specs.declared.result.Result.{Result}
use Rattle.hanging_refine.specs.Refined.{RefinedMesh}
use Rattle.sparsity.specs.declared.rows.Row.{Row}
use Rattle.matrix_market.specs.Texts.{vector_text}
use Rattle.matrix_free.specs.Matrix.{AreUnrounded, matrix_product}
use Rattle.mesh_loop.specs.Setup.{MeshProblem, pattern_of}
use Rattle.mesh_loop.specs.Sum.{IsWritten}
use Rattle.run_words.specs.declared.options.SystemMode.{SystemMode}
use Rattle.run_words.specs.Choice.{Output}
use Rattle.run_outputs.specs.Targets.{Target, first_target}
use Rattle.diagnostics.specs.declared.refusal.Refusal.{Refusal}
use Rattle.system_laws.specs.Same.{IsSameForest, IsSameSystem}
use Rattle.system_texts.specs.Sums.{SummedBy}
use Rattle.vector_texts.specs.Product.{ProductTexts}
use Rattle.vector_texts.specs.Marks.{Marks, MarkedOn}

-- set-ups of one system have the same text of a product, or the same refusal
abbrev pub HaveOneProduct : Type 0
HaveOneProduct =
    (output : Output) (values : List ℤ) (s t : MeshProblem) → IsSameSystem s t → (a b : Result (List Target) Refusal) →
    ProductTexts output values s a → ProductTexts output values t b → a ≡ b

-- a system has a text of a product, or a refusal
abbrev pub HaveAProduct : Type 0
HaveAProduct = (output : Output) (values : List ℤ) (s : MeshProblem) → (outcome : Result (List Target) Refusal) × ProductTexts output values s outcome

-- the pattern holds the blocks of each cell, and the cell writes all rows to which its part contributes
abbrev pub AreWritten : MeshProblem → Type 0
AreWritten s = (cell : ℕ) → cell < length s.given.forest.cells → IsWritten s cell

-- where no share of an entry is rounded, the text of a product has the product of the matrix with the vector: of the rows that a
-- mode sums with all digits
abbrev pub ProductsAreExact : Type 0
ProductsAreExact =
    (mode : SystemMode) (output : Output) (values : List ℤ) (s : MeshProblem) (rows : List Row) (targets : List Target) → AreWritten s → AreUnrounded s → SummedBy mode 0 s (Ok rows) →
    ProductTexts output values s (Ok targets) → targets ≡ first_target output (vector_text (matrix_product (pattern_of s) rows values)) ∷ []

-- refined meshes that are the same have the same marks, or the same refusal
abbrev pub HaveOneMarking : Type 0
HaveOneMarking =
    (count : ℕ) (values : List ℤ) (a b : RefinedMesh) → IsSameForest a b → (x y : Result Marks Refusal) → MarkedOn count values a x → MarkedOn count values b y → x ≡ y

-- a refined mesh has marks, or a refusal
abbrev pub HaveAMarking : Type 0
HaveAMarking = (count : ℕ) (values : List ℤ) (forest : RefinedMesh) → (outcome : Result Marks Refusal) × MarkedOn count values forest outcome
