-- What a choice defines over what a store holds: the texts that are written, or a refusal. The steps of the work follow one
-- another up to the first that is refused.
use Rattle.std.specs.Prelude.{◌≡◌, ◌==◌, cond, ℕ, ℤ, Bool, List, [], ◌∷◌, true, false, Some, None, Ok}
use Rattle.std.specs.declared.option.Option.{Option}
use Rattle.std.specs.declared.result.Result.{Result}
use Rattle.fem_fixed.specs.Mesh.{Mesh}
use Rattle.fem_text.specs.Outside.{Held}
use Rattle.mesh_visits.specs.declared.flags.Flags.{Flags}
use Rattle.mesh_visits.specs.declared.flags.Interior.{Interior}
use Rattle.mesh_visits.specs.declared.flags.Interior.TheVariants as interiors
use Rattle.problem_read.specs.Entries.{ProblemParts}
use Rattle.ucd_write.specs.Text.{mesh_text}
use Rattle.hanging_refine.specs.Refined.{RefinedMesh}
use Rattle.run_words.specs.declared.options.SystemMode.{SystemMode}
use Rattle.run_words.specs.declared.options.SystemMode.TheVariants as systems
use Rattle.run_words.specs.declared.options.VectorTask.{VectorTask}
use Rattle.run_words.specs.declared.options.VectorTask.TheVariants as tasks
use Rattle.run_words.specs.declared.options.Faces.{Faces}
use Rattle.run_words.specs.declared.options.Faces.TheVariants as faces
use Rattle.run_words.specs.declared.options.Subdomain.{Subdomain}
use Rattle.run_words.specs.Choice.{Mode, of_system, of_mesh, of_vector, Choice, Output}
use Rattle.run_texts.specs.Read.{SourceRead, VectorUnder}
use Rattle.run_outputs.specs.Targets.{Target, first_target}
use Rattle.system_setup.specs.declared.scheme.Scheme.{Scheme}
use Rattle.system_setup.specs.declared.scheme.Degree.{Degree}
use Rattle.system_setup.specs.declared.scheme.Degree.TheVariants.{One, Two}
use Rattle.system_setup.specs.SetUp.{ForestOf, RefinedFurther, SetUpOn, IsSetUp}
use Rattle.system_texts.specs.Texts.{SystemTexts}
use Rattle.vector_texts.specs.Product.{ProductTexts}
use Rattle.vector_texts.specs.Marks.{Marks, MarkedOn, MarksTexts}
use Rattle.diagnostics.specs.declared.refusal.Refusal.{Refusal}
use Rattle.diagnostics.specs.Stages.{Then}

-- from which sides parts of interior faces are visited
abbrev pub interior_of : Faces → Interior
interior_of faces.None = interiors.None
interior_of faces.Once = interiors.Once
interior_of faces.Both = interiors.Both

-- each own cell and each of its faces at the boundary is visited, and cells first
abbrev pub run_flags : Interior → Option ℕ → Interior → Bool → Flags
run_flags interior own ghost_parts ghost_cells =
    record { cells = true; boundary = true; interior = interior; cells_after_faces = false; own = own; ghost_parts = ghost_parts; ghost_cells = ghost_cells }

-- the flags of a run over all cells, or of one subdomain
abbrev pub flags_by : Interior → Option Subdomain → Flags
flags_by interior None = run_flags interior None interiors.None false
flags_by interior (Some subdomain) = run_flags interior (Some subdomain.id) (interior_of subdomain.ghost_parts) subdomain.ghost_cells

abbrev pub flags_of : Choice → Flags
flags_of choice = flags_by (interior_of choice.faces) choice.subdomain

-- the degree of a number: 2, or else 1
abbrev pub degree_of : ℕ → Degree
degree_of number = cond (number == 2) Two One

-- what a run assembles: the degree of its shape functions, and what it visits
abbrev pub scheme_of : Choice → Scheme
scheme_of choice = record { degree = degree_of choice.degree; flags = flags_of choice }

-- the text of a mesh, which nothing refuses
abbrev pub MeshTexts : Output → Mesh → Result (List Target) Refusal → Type 0
MeshTexts output mesh outcome = outcome ≡ Ok (first_target output (mesh_text mesh) ∷ [])

-- the set-up of a mesh and a problem, and then the texts of its system
abbrev pub Assembled : SystemMode → Choice → (Mesh × ProblemParts) → Result (List Target) Refusal → Type 0
Assembled mode choice read = Then (IsSetUp (scheme_of choice) read.0 read.1) (SystemTexts mode choice)

-- the mesh after one more step of refinement, of the cells that a vector marks
abbrev pub FinerMesh : ℕ → List ℤ → RefinedMesh → Result RefinedMesh Refusal → Type 0
FinerMesh count values forest = Then (MarkedOn count values forest) (λ (marks : Marks). RefinedFurther forest marks.1)

-- the texts of the system on a refined mesh, with the node ids of the mesh text, in the order of its cells
abbrev pub AssembledOn : Choice → List ℕ → ProblemParts → RefinedMesh → Result (List Target) Refusal → Type 0
AssembledOn choice ids problem forest = Then (SetUpOn (scheme_of choice) ids problem forest) (SystemTexts systems.Serial choice)

-- what is made of a vector, with a mesh and a problem: its product with the operator of the system; the marked cells; or the
-- system on the mesh that is refined once more
abbrev pub VectorMade : VectorTask → Choice → (Mesh × ProblemParts) → List ℤ → Result (List Target) Refusal → Type 0
VectorMade tasks.Product choice read values outcome = Then (IsSetUp (scheme_of choice) read.0 read.1) (ProductTexts choice.output values) outcome
VectorMade (tasks.Marks count) choice read values outcome = Then (ForestOf read.0 read.1) (MarksTexts choice.output count values) outcome
VectorMade (tasks.Adapt count) choice read values outcome =
    Then (ForestOf read.0 read.1) (λ forest. Then (FinerMesh count values forest) (AssembledOn choice read.0.ids read.1)) outcome

-- the vector under a name is read, and then this is made of it
abbrev pub VectorTexts : Option Held → List ℕ → VectorTask → Choice → (Mesh × ProblemParts) → Result (List Target) Refusal → Type 0
VectorTexts holds name task choice read = Then (VectorUnder holds name) (VectorMade task choice read)

-- what a mode makes of a mesh and a problem
abbrev pub Made : Option Held → Mode → Choice → (Mesh × ProblemParts) → Result (List Target) Refusal → Type 0
Made holds (of_system mode) choice read outcome = Assembled mode choice read outcome
Made holds of_mesh choice read outcome = MeshTexts choice.output read.0 outcome
Made holds (of_vector name task) choice read outcome = VectorTexts holds name task choice read outcome

-- the mesh and the problem of the source, and then what is made of them
abbrev pub Defines : Option Held → Choice → Result (List Target) Refusal → Type 0
Defines holds choice = Then (SourceRead holds choice.source) (Made holds choice.mode choice)
