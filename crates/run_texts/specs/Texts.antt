-- The texts of a run, and the mesh and the problem that they are of.
use Rattle.std.specs.Prelude.{◌≡◌, ℕ, ℤ, ◌<◌, ◌≤◌, List, [], length, Some, None, IsSome, Ok, Err}
use Rattle.std.specs.declared.option.Option.{Option}
use Rattle.std.specs.declared.result.Result.{Result}
use Rattle.fem_fixed.specs.Mesh.{Mesh}
use Rattle.fem_text.specs.Outside.{Held}
use Rattle.ucd_read.specs.Faults.{UcdFault}
use Rattle.ucd_read.specs.Ucd.{Ucd, UcdFaultAt}
use Rattle.msh_read.specs.Faults.{MshFault}
use Rattle.msh_read.specs.Msh.{Msh, MshFaultAt}
use Rattle.problem_read.specs.declared.fault.ProblemKind.{ProblemKind}
use Rattle.problem_read.specs.Entries.{ProblemParts}
use Rattle.problem_read.specs.Problem.{ProblemText, ProblemFaultAt}
use Rattle.fem_text.specs.declared.fault.TextFault.{TextFault}
use Rattle.matrix_market.specs.declared.fault.MarketKind.{MarketKind}
use Rattle.matrix_market.specs.Market.{VectorText, VectorFaultAt}
use Rattle.grid_texts.specs.Grid as grid
use Rattle.run_words.specs.declared.options.Format.{Format}
use Rattle.run_words.specs.declared.options.Format.TheVariants as formats
use Rattle.run_words.specs.Choice.{Source, texts, generated}
use Rattle.diagnostics.specs.declared.ending.Role.{Role}
use Rattle.diagnostics.specs.declared.ending.Role.TheVariants as roles
use Rattle.diagnostics.specs.declared.kinds.LimitKind.{LimitKind}
use Rattle.diagnostics.specs.declared.kinds.LimitKind.TheVariants.{MeshSize, ProblemSize, VectorSize}
use Rattle.diagnostics.specs.declared.refusal.Refusal.{Refusal}
use Rattle.diagnostics.specs.declared.refusal.Refusal.TheVariants.{Absent, Limit}
use Rattle.run_texts.specs.Endings.{of_ucd, of_msh, of_problem_text, of_vector_text}
use Rattle.diagnostics.specs.Stages.{Then, Says}

-- the greatest length of a text
unfoldable pub text_limit : ℕ
text_limit = 268435456

-- the two texts of a run, where they are there
pub record Texts : Type 0 where
  pub mesh : Option (List ℕ)
  pub problem : Option (List ℕ)

-- what stands under a name: what the store tells, or some text where it tells nothing
abbrev pub StandsUnder : Option Held → List ℕ → Option (List ℕ) → Type 0
StandsUnder (Some held) name known = known ≡ held name
StandsUnder None name known = IsSome known

-- the same of a problem, whose text is empty where it has no name
abbrev pub ProblemStands : Option Held → Option (List ℕ) → Option (List ℕ) → Type 0
ProblemStands holds (Some name) known = StandsUnder holds name known
ProblemStands holds None known = known ≡ Some []

-- these are the texts of a source
abbrev pub AreTextsOf : Option Held → Source → Texts → Type 0
AreTextsOf holds (texts mesh format problem) known = StandsUnder holds mesh known.mesh × ProblemStands holds problem known.problem
AreTextsOf holds (generated n seed) known = (known.mesh ≡ Some (grid.mesh_text n seed)) × (known.problem ≡ Some (grid.problem_text n))

abbrev pub size_limit : Role → LimitKind
size_limit roles.Mesh = MeshSize
size_limit roles.Problem = ProblemSize
size_limit roles.Vector = VectorSize

-- the text, or that it is absent or too long
abbrev pub TextFor : Role → Option (List ℕ) → Result (List ℕ) Refusal → Type 0
TextFor role known (Ok text) = (known ≡ Some text) × (length text ≤ text_limit)
TextFor role None (Err refusal) = refusal ≡ Absent role
TextFor role (Some text) (Err refusal) = (text_limit < length text) × (refusal ≡ Limit (size_limit role))

-- the mesh of a text in UCD, or its first fault
abbrev pub UcdMesh : List ℕ → Result Mesh Refusal → Type 0
UcdMesh text (Ok mesh) = Ucd text mesh
UcdMesh text (Err refusal) = Says (λ (fault : UcdFault). of_ucd fault.kind fault.line) (λ (fault : UcdFault). UcdFaultAt text fault.kind fault.line) refusal

-- the same of a text in MSH
abbrev pub MshMesh : List ℕ → Result Mesh Refusal → Type 0
MshMesh text (Ok mesh) = Msh text mesh
MshMesh text (Err refusal) = Says (λ (fault : MshFault). of_msh fault.kind fault.line) (λ (fault : MshFault). MshFaultAt text fault.kind fault.line) refusal

-- the mesh of a text in a format, or its first fault
abbrev pub MeshIn : Format → List ℕ → Result Mesh Refusal → Type 0
MeshIn formats.Ucd text outcome = UcdMesh text outcome
MeshIn formats.Msh text outcome = MshMesh text outcome

-- the problem of a text, or its first fault
abbrev pub ProblemIn : List ℕ → Result ProblemParts Refusal → Type 0
ProblemIn text (Ok problem) = ProblemText text problem
ProblemIn text (Err refusal) =
    Says (λ (fault : TextFault ProblemKind). of_problem_text fault.kind fault.line) (λ (fault : TextFault ProblemKind). ProblemFaultAt text fault.kind fault.line) refusal

-- the values of the text of a vector, or its first fault
abbrev pub VectorIn : List ℕ → Result (List ℤ) Refusal → Type 0
VectorIn text (Ok values) = VectorText text values
VectorIn text (Err refusal) =
    Says (λ (fault : TextFault MarketKind). of_vector_text fault.kind fault.line) (λ (fault : TextFault MarketKind). VectorFaultAt text fault.kind fault.line) refusal

abbrev pub MeshOf : Format → Option (List ℕ) → Result Mesh Refusal → Type 0
MeshOf format known = Then (TextFor roles.Mesh known) (MeshIn format)

abbrev pub ProblemOf : Option (List ℕ) → Result ProblemParts Refusal → Type 0
ProblemOf known = Then (TextFor roles.Problem known) ProblemIn

abbrev pub VectorOf : Option (List ℕ) → Result (List ℤ) Refusal → Type 0
VectorOf known = Then (TextFor roles.Vector known) VectorIn

-- the mesh and then the problem
abbrev pub ReadTexts : Format → Texts → Result (Mesh × ProblemParts) Refusal → Type 0
ReadTexts format known = Then (MeshOf format known.mesh) (λ mesh. Then (ProblemOf known.problem) (λ problem outcome. outcome ≡ Ok (mesh, problem)))
