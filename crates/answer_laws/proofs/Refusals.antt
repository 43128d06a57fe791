-- Status 2 is that of words that are refused: no other step of the work refuses words.
use Rattle.std.proofs.Common.{◌≡◌, ◌≢◌, ◌∙◌, inl, inr, sym, ap, refl, ℕ, ℤ, ◌^◌, List, Bool}
use Rattle.std.specs.Prelude.{Some, None, Ok, Err}
use Rattle.std.specs.declared.option.Option.{Option}
use Rattle.std.specs.declared.result.Result.{Result}
use Rattle.fem_fixed.specs.Mesh.{Mesh as MeshParts}
use Rattle.fem_fixed.specs.declared.mesh.Point.{Point}
use Rattle.fem_fixed.specs.declared.mesh.QuadSpec.{QuadSpec}
use Rattle.fem_fixed.specs.declared.mesh.LineSpec.{LineSpec}
use Rattle.fem_text.specs.Outside.{Held}
use Rattle.fem_text.specs.declared.fault.TextFault.{TextFault}
use Rattle.fem_text.proofs.OneReading.{err_same}
use Rattle.ucd_read.specs.Faults.{UcdFault}
use Rattle.ucd_read.specs.declared.fault.UcdKind.{UcdKind}
use Rattle.ucd_read.specs.declared.fault.UcdKind.TheVariants as ucd
use Rattle.msh_read.specs.Faults.{MshFault}
use Rattle.msh_read.specs.declared.fault.MshKind.{MshKind}
use Rattle.msh_read.specs.declared.fault.MshKind.TheVariants as msh
use Rattle.problem_read.specs.declared.fault.ProblemKind.{ProblemKind}
use Rattle.problem_read.specs.declared.fault.ProblemKind.TheVariants as problems
use Rattle.problem_read.specs.Entries.{ProblemParts}
use Rattle.quad_mesh.specs.declared.fault.MeshFault.{MeshFault}
use Rattle.quad_mesh.specs.declared.fault.MeshFault.TheVariants as coarse
use Rattle.quad_mesh.specs.Mesh.{CoarseMesh}
use Rattle.hanging_refine.specs.declared.fault.RefineFault.{RefineFault}
use Rattle.hanging_refine.specs.declared.fault.RefineFault.TheVariants as refining
use Rattle.hanging_refine.specs.Refined.{RefinedMesh}
use Rattle.constrained_mesh.specs.declared.fault.ConstraintFault.{ConstraintFault}
use Rattle.constrained_mesh.specs.declared.fault.ConstraintFault.TheVariants as constraints
use Rattle.serial_sum.specs.declared.sum.AssembleFault.{AssembleFault}
use Rattle.serial_sum.specs.declared.sum.AssembleFault.TheVariants as sums
use Rattle.affine_constraints.specs.Lines.{AffineLine}
use Rattle.sparsity.specs.declared.rows.Row.{Row}
use Rattle.mesh_loop.specs.Setup.{MeshProblem}
use Rattle.run_words.specs.declared.options.SystemMode.{SystemMode}
use Rattle.run_words.specs.declared.options.SystemMode.TheVariants as systems
use Rattle.run_words.specs.declared.options.VectorTask.{VectorTask}
use Rattle.run_words.specs.declared.options.VectorTask.TheVariants as tasks
use Rattle.constrained_mesh.specs.MeshLines.{dof_count}
use Rattle.matrix_market.specs.declared.fault.MarketKind.{MarketKind}
use Rattle.matrix_market.specs.declared.fault.MarketKind.TheVariants as market
use Rattle.matrix_free.specs.declared.fault.ApplyFault.{ApplyFault}
use Rattle.matrix_free.specs.declared.fault.ApplyFault.TheVariants as products
use Rattle.jump_refine.specs.declared.fault.IndicatorFault.{IndicatorFault}
use Rattle.jump_refine.specs.declared.fault.IndicatorFault.TheVariants as indicators
use Rattle.vector_texts.specs.Endings.{of_product, of_indicators}
use Rattle.vector_texts.specs.Fitting.{by_length, by_value, FittedTo}
use Rattle.vector_texts.specs.Product.{ProductOf, ProductText, ProductTexts}
use Rattle.vector_texts.specs.Marks.{Marks, Indicated, MarkedOn, MarksText}
use Rattle.run_words.specs.declared.options.Format.{Format}
use Rattle.run_words.specs.declared.options.Format.TheVariants as formats
use Rattle.run_words.specs.Choice.{Mode, of_system, of_mesh as of_mesh_alone, of_vector, Choice, Output, Source, source_format}
use Rattle.run_outputs.specs.Targets.{Target}
use Rattle.diagnostics.specs.declared.ending.Role.{Role}
use Rattle.diagnostics.specs.declared.ending.Role.TheVariants as roles
use Rattle.diagnostics.specs.declared.refusal.Refusal.{Refusal}
use Rattle.diagnostics.specs.declared.refusal.Refusal.TheVariants.{Words, MeshText, ProblemText, Mesh, Constraint, Local, Sum, Limit, Vector, Product, Absent}
use Rattle.diagnostics.specs.declared.ending.Ending.{Ending}
use Rattle.diagnostics.specs.declared.ending.Ending.TheVariants as endings
use Rattle.run_texts.specs.Endings.{of_ucd, of_msh, of_problem_text, of_vector_text}
use Rattle.system_setup.specs.Endings.{of_mesh, of_refining, of_constraints}
use Rattle.system_texts.specs.Endings.{of_sum}
use Rattle.diagnostics.specs.Lines.{status_of}
use Rattle.diagnostics.specs.Stages.{Then, stops, goes, Says}
use Rattle.run_texts.specs.Texts.{Texts, TextFor, UcdMesh, MshMesh, MeshIn, ProblemIn, VectorIn, ReadTexts}
use Rattle.run_texts.specs.Read.{SourceRead, VectorUnder}
use Rattle.system_setup.specs.declared.scheme.Scheme.{Scheme}
use Rattle.system_setup.specs.Scheme.{number_of}
use Rattle.system_setup.specs.SetUp.{CoarseOf, RefinedFrom, ForestOf, RefinedFurther, LinesFor, PatternedFor, SetUpOn, IsSetUp}
use Rattle.system_texts.specs.Sums.{SummedBy, Summed}
use Rattle.system_texts.specs.Texts.{TextsOf}
use Rattle.assemble_core.specs.Answer.{AreRefused, Asked, Answers}
use Rattle.run_targets.specs.Defines.{scheme_of, MeshTexts, Assembled, AssembledOn, VectorMade, Made, Defines}
use Rattle.assemble_core.specs.Run as run
use Rattle.assemble_core.specs.Run.{Outside, Leaves}
use Rattle.answer_laws.specs.Runs.{RefusedWordsHaveStatus2}
use Rattle.answer_laws.proofs.One.{taken_or_not}

-- a step that never refuses words
abbrev KeepsWords : {X : Type 0} → (Result X Refusal → Type 0) → Type 0
KeepsWords step = (refusal : Refusal) → step (Err refusal) → refusal ≢ Words

then_keeps : {X Y : Type 0} (first : Result X Refusal → Type 0) (next : X → Result Y Refusal → Type 0) → KeepsWords first → ((value : X) → KeepsWords (next value)) → KeepsWords (Then first next)
then_keeps {Y = Y} first next one more refusal (stops r w e) same = one r w (sym (err_same {A = Y} refusal r e) ∙ same)
then_keeps first next one more refusal (goes value w k) same = more value refusal k same

says_keeps : {F : Type 0} (ending_of : F → Ending) (has : F → Type 0) → ((fault : F) → ending_of fault ≢ endings.Refused Words) → (refusal : Refusal) → Says ending_of has refusal → refusal ≢ Words
says_keeps ending_of has apart refusal (fault, is, e) same = apart fault (e ∙ ap endings.Refused same)

-- the faults of each layer
ucd_text_keeps : (kind : UcdKind) (line : ℕ) → of_ucd kind line ≢ endings.Refused Words
ucd_text_keeps ucd.Header line = (λ e. cc)
ucd_text_keeps ucd.NodeLine line = (λ e. cc)
ucd_text_keeps ucd.CellLine line = (λ e. cc)
ucd_text_keeps ucd.Number line = (λ e. cc)
ucd_text_keeps ucd.DuplicateId line = (λ e. cc)
ucd_text_keeps ucd.UnknownNode line = (λ e. cc)
ucd_text_keeps ucd.UnsupportedType line = (λ e. cc)
ucd_text_keeps ucd.TooFew line = (λ e. cc)
ucd_text_keeps ucd.Limit line = (λ e. cc)
ucd_text_keeps ucd.NoMemory line = (λ e. cc)

msh_text_keeps : (kind : MshKind) (line : ℕ) → of_msh kind line ≢ endings.Refused Words
msh_text_keeps msh.Format line = (λ e. cc)
msh_text_keeps msh.NodeLine line = (λ e. cc)
msh_text_keeps msh.ElementLine line = (λ e. cc)
msh_text_keeps msh.Number line = (λ e. cc)
msh_text_keeps msh.DuplicateId line = (λ e. cc)
msh_text_keeps msh.UnknownNode line = (λ e. cc)
msh_text_keeps msh.UnsupportedType line = (λ e. cc)
msh_text_keeps msh.TooFew line = (λ e. cc)
msh_text_keeps msh.Limit line = (λ e. cc)
msh_text_keeps msh.Section line = (λ e. cc)
msh_text_keeps msh.NoMemory line = (λ e. cc)

problem_text_keeps : (kind : ProblemKind) (line : ℕ) → of_problem_text kind line ≢ endings.Refused Words
problem_text_keeps problems.Word line = (λ e. cc)
problem_text_keeps problems.Number line = (λ e. cc)
problem_text_keeps problems.Repeated line = (λ e. cc)
problem_text_keeps problems.Limit line = (λ e. cc)
problem_text_keeps problems.NoMemory line = (λ e. cc)

coarse_keeps : (fault : MeshFault) → of_mesh fault ≢ endings.Refused Words
coarse_keeps (coarse.RepeatedCorner cell) = (λ e. cc)
coarse_keeps (coarse.ZeroArea cell) = (λ e. cc)
coarse_keeps (coarse.NotConvex cell) = (λ e. cc)
coarse_keeps (coarse.EdgeShared cell) = (λ e. cc)
coarse_keeps (coarse.LineOffEdge line) = (λ e. cc)
coarse_keeps (coarse.BoundaryTwice line) = (λ e. cc)
coarse_keeps coarse.NoMemory = (λ e. cc)

refining_keeps : (fault : RefineFault) → of_refining fault ≢ endings.Refused Words
refining_keeps (refining.NoSuchCell cell) = (λ e. cc)
refining_keeps (refining.Level cell) = (λ e. cc)
refining_keeps refining.Limit = (λ e. cc)
refining_keeps (refining.Flat cell) = (λ e. cc)
refining_keeps refining.NoMemory = (λ e. cc)

constraints_keep : (fault : ConstraintFault) → of_constraints fault ≢ endings.Refused Words
constraints_keep (constraints.UnknownNode id) = (λ e. cc)
constraints_keep (constraints.Twice dof) = (λ e. cc)
constraints_keep (constraints.Cycle dof) = (λ e. cc)
constraints_keep (constraints.Weight dof) = (λ e. cc)
constraints_keep (constraints.Terms dof) = (λ e. cc)
constraints_keep constraints.NoMemory = (λ e. cc)

sums_keep : (fault : AssembleFault) → of_sum fault ≢ endings.Refused Words
sums_keep (sums.Local cell fault) = (λ e. cc)
sums_keep (sums.Sum cell row) = (λ e. cc)
sums_keep sums.NoMemory = (λ e. cc)

vector_text_keeps : (kind : MarketKind) (line : ℕ) → of_vector_text kind line ≢ endings.Refused Words
vector_text_keeps market.Banner line = (λ e. cc)
vector_text_keeps market.Size line = (λ e. cc)
vector_text_keeps market.Entry line = (λ e. cc)
vector_text_keeps market.TooFew line = (λ e. cc)
vector_text_keeps market.NoMemory line = (λ e. cc)

products_keep : (fault : ApplyFault) → of_product fault ≢ endings.Refused Words
products_keep (products.Local cell fault) = (λ e. cc)
products_keep (products.Size cell) = (λ e. cc)
products_keep products.NoMemory = (λ e. cc)

indicators_keep : (fault : IndicatorFault) → of_indicators fault ≢ endings.Refused Words
indicators_keep (indicators.Local cell fault) = (λ e. cc)
indicators_keep indicators.NoMemory = (λ e. cc)

-- the texts
text_keeps : (role : Role) (known : Option (List ℕ)) → KeepsWords (TextFor role known)
text_keeps role None refusal is same = (let e : Absent role ≡ Words = sym is ∙ same in cc)
text_keeps role (Some text) refusal is same = (let e : Limit _ ≡ Words = sym is.1 ∙ same in cc)

ucd_keeps : (text : List ℕ) → KeepsWords (UcdMesh text)
ucd_keeps text refusal is = says_keeps _ _ (λ (fault : UcdFault). ucd_text_keeps fault.kind fault.line) refusal is

msh_keeps : (text : List ℕ) → KeepsWords (MshMesh text)
msh_keeps text refusal is = says_keeps _ _ (λ (fault : MshFault). msh_text_keeps fault.kind fault.line) refusal is

mesh_keeps : (format : Format) (text : List ℕ) → KeepsWords (MeshIn format text)
mesh_keeps formats.Ucd text = ucd_keeps text
mesh_keeps formats.Msh text = msh_keeps text

problem_keeps : (text : List ℕ) → KeepsWords (ProblemIn text)
problem_keeps text refusal is = says_keeps _ _ (λ (fault : TextFault ProblemKind). problem_text_keeps fault.kind fault.line) refusal is

pair_keeps : (mesh : MeshParts) (problem : ProblemParts) → KeepsWords (λ (outcome : Result (MeshParts × ProblemParts) Refusal). outcome ≡ Ok (mesh, problem))
pair_keeps mesh problem refusal e same = cc

reading_keeps : (format : Format) (known : Texts) → KeepsWords (ReadTexts format known)
reading_keeps format known =
    then_keeps _ _ (then_keeps (TextFor roles.Mesh known.mesh) (MeshIn format) (text_keeps roles.Mesh known.mesh) (mesh_keeps format))
    (λ mesh. then_keeps _ _ (then_keeps (TextFor roles.Problem known.problem) ProblemIn (text_keeps roles.Problem known.problem) problem_keeps) (pair_keeps mesh))

source_keeps : (holds : Option Held) (source : Source) → KeepsWords (SourceRead holds source)
source_keeps holds source refusal (known, are, is) = reading_keeps (source_format source) known refusal is

-- the set-up
coarse_mesh_keeps : (points : List Point) (quads : List QuadSpec) (lines : List LineSpec) → KeepsWords (CoarseOf points quads lines)
coarse_mesh_keeps points quads lines refusal is = says_keeps _ _ coarse_keeps refusal is

refined_keeps : (mesh : CoarseMesh) (problem : ProblemParts) → KeepsWords (RefinedFrom mesh problem)
refined_keeps mesh problem refusal is = says_keeps _ _ refining_keeps refusal is

lines_keep : (degree : ℕ) (ids : List ℕ) (problem : ProblemParts) (forest : RefinedMesh) → KeepsWords (LinesFor degree ids problem forest)
lines_keep degree ids problem forest refusal is = says_keeps _ _ constraints_keep refusal is

pattern_keeps : (scheme : Scheme) (problem : ProblemParts) (forest : RefinedMesh) (table : List (Option AffineLine)) → KeepsWords (PatternedFor scheme problem forest table)
pattern_keeps scheme problem forest table refusal is same = (let e : Limit _ ≡ Words = sym is.3 ∙ same in cc)

set_up_keeps : (scheme : Scheme) (parts : MeshParts) (problem : ProblemParts) → KeepsWords (IsSetUp scheme parts problem)
set_up_keeps scheme parts problem =
    then_keeps _ _ (coarse_mesh_keeps parts.points parts.quads parts.lines)
    (λ mesh. then_keeps _ _ (refined_keeps mesh problem)
    (λ forest. then_keeps _ _ (lines_keep (number_of scheme.degree) parts.ids problem forest) (pattern_keeps scheme problem forest)))

-- the sums and their texts
sum_keeps : (mode : SystemMode) (digits : ℕ) (s : MeshProblem) → KeepsWords (SummedBy mode digits s)
sum_keeps mode digits s refusal (order, of, is) = says_keeps _ _ sums_keep refusal is

all_sums_keep : (mode : SystemMode) (digits : ℕ) (s : MeshProblem) → KeepsWords (Summed mode digits s)
all_sums_keep mode digits s refusal is = sum_keeps mode digits s refusal is

targets_keep : (mode : SystemMode) (output : Output) (s : MeshProblem) (rows : Option (List Row)) → KeepsWords (TextsOf mode output s rows)
targets_keep mode output s rows refusal is same = is

assembled_keeps : (mode : SystemMode) (choice : Choice) (read : MeshParts × ProblemParts) → KeepsWords (Assembled mode choice read)
assembled_keeps mode choice read =
    then_keeps _ _ (set_up_keeps (scheme_of choice) read.0 read.1) (λ s. then_keeps _ _ (all_sums_keep mode choice.digits s) (targets_keep mode choice.output s))

mesh_texts_keep : (output : Output) (mesh : MeshParts) → KeepsWords (MeshTexts output mesh)
mesh_texts_keep output mesh refusal is same = cc

-- the vector
vector_keeps : (text : List ℕ) → KeepsWords (VectorIn text)
vector_keeps text refusal is = says_keeps _ _ (λ (fault : TextFault MarketKind). vector_text_keeps fault.kind fault.line) refusal is

under_keeps : (holds : Option Held) (name : List ℕ) → KeepsWords (VectorUnder holds name)
under_keeps holds name refusal (known, stands, is) = then_keeps (TextFor roles.Vector known) VectorIn (text_keeps roles.Vector known) vector_keeps refusal is

fitted_keeps : (size limit : ℕ) (values : List ℤ) → KeepsWords (FittedTo size limit values)
fitted_keeps size limit values refusal (by_length other is) same = (let e : Vector _ ≡ Words = sym is ∙ same in cc)
fitted_keeps size limit values refusal (by_value many place large is) same = (let e : Vector _ ≡ Words = sym is ∙ same in cc)

product_keeps : (s : MeshProblem) (x : List ℤ) → KeepsWords (ProductOf s x)
product_keeps s x refusal (c, of, is) = says_keeps _ _ products_keep refusal is

product_text_keeps : (output : Output) (list : List ℤ) → KeepsWords (ProductText output list)
product_text_keeps output list refusal is same = cc

product_texts_keep : (output : Output) (values : List ℤ) (s : MeshProblem) → KeepsWords (ProductTexts output values s)
product_texts_keep output values s = then_keeps _ _ (fitted_keeps s.given.dofs.size (2 ^ 20) values) (λ x. then_keeps _ _ (product_keeps s x) (product_text_keeps output))

indicated_keeps : (forest : RefinedMesh) (x : List ℤ) → KeepsWords (Indicated forest x)
indicated_keeps forest x refusal (dofs, function, is) = says_keeps _ _ indicators_keep refusal is

marked_keeps : (count : ℕ) (values : List ℤ) (forest : RefinedMesh) → KeepsWords (MarkedOn count values forest)
marked_keeps count values forest = then_keeps _ _ (fitted_keeps (dof_count 1 forest) (2 ^ 31) values) (λ x. then_keeps _ _ (indicated_keeps forest x) (λ etas refusal none same. none))

marks_text_keeps : (output : Output) (marks : Marks) → KeepsWords (MarksText output marks)
marks_text_keeps output marks refusal is same = cc

further_keeps : (forest : RefinedMesh) (cells : List ℕ) → KeepsWords (RefinedFurther forest cells)
further_keeps forest cells refusal is = says_keeps _ _ refining_keeps refusal is

forest_keeps : (parts : MeshParts) (problem : ProblemParts) → KeepsWords (ForestOf parts problem)
forest_keeps parts problem = then_keeps _ _ (coarse_mesh_keeps parts.points parts.quads parts.lines) (λ mesh. refined_keeps mesh problem)

set_up_on_keeps : (scheme : Scheme) (ids : List ℕ) (problem : ProblemParts) (forest : RefinedMesh) → KeepsWords (SetUpOn scheme ids problem forest)
set_up_on_keeps scheme ids problem forest = then_keeps _ _ (lines_keep (number_of scheme.degree) ids problem forest) (pattern_keeps scheme problem forest)

assembled_on_keeps : (choice : Choice) (read : MeshParts × ProblemParts) (forest : RefinedMesh) → KeepsWords (AssembledOn choice read.0.ids read.1 forest)
assembled_on_keeps choice read forest =
    then_keeps _ _ (set_up_on_keeps (scheme_of choice) read.0.ids read.1 forest) (λ s. then_keeps _ _ (all_sums_keep systems.Serial choice.digits s) (targets_keep systems.Serial choice.output s))

vector_made_keeps : (task : VectorTask) (choice : Choice) (read : MeshParts × ProblemParts) (values : List ℤ) → KeepsWords (VectorMade task choice read values)
vector_made_keeps tasks.Product choice read values = then_keeps _ _ (set_up_keeps (scheme_of choice) read.0 read.1) (product_texts_keep choice.output values)
vector_made_keeps (tasks.Marks count) choice read values =
    then_keeps _ _ (forest_keeps read.0 read.1) (λ forest. then_keeps _ _ (marked_keeps count values forest) (marks_text_keeps choice.output))
vector_made_keeps (tasks.Adapt count) choice read values =
    then_keeps _ _ (forest_keeps read.0 read.1)
    (λ forest. then_keeps _ _ (then_keeps _ _ (marked_keeps count values forest) (λ (marks : Marks). further_keeps forest marks.1)) (assembled_on_keeps choice read))

made_keeps : (holds : Option Held) (mode : Mode) (choice : Choice) (read : MeshParts × ProblemParts) → KeepsWords (Made holds mode choice read)
made_keeps holds (of_system mode) choice read = assembled_keeps mode choice read
made_keeps holds of_mesh_alone choice read = mesh_texts_keep choice.output read.0
made_keeps holds (of_vector name task) choice read = then_keeps _ _ (under_keeps holds name) (vector_made_keeps task choice read)

defines_keeps : (holds : Option Held) (choice : Choice) → KeepsWords (Defines holds choice)
defines_keeps holds choice = then_keeps _ _ (source_keeps holds choice.source) (made_keeps holds choice.mode choice)

-- of all statuses of refusals, 2 is that of words alone
two_is_words : (refusal : Refusal) → ◌≡◌ {A = ℕ} (status_of refusal) 2 → refusal ≡ Words
two_is_words Words e = refl
two_is_words (MeshText kind line) e = cc
two_is_words (ProblemText kind line) e = cc
two_is_words (Mesh kind place) e = cc
two_is_words (Constraint kind place) e = cc
two_is_words (Local cell fault) e = cc
two_is_words (Sum cell row) e = cc
two_is_words (Limit kind) e = cc
two_is_words (Vector fault) e = cc
two_is_words (Product cell) e = cc
two_is_words (Absent role) e = cc

-- words that ask for something aren't refused
not_both : {P : Type 0} (takes : Mode → Bool) (words : List (List ℕ)) (choice : Choice) → Asked takes words (Ok choice) → AreRefused takes words → P
not_both takes words choice asked refused = taken_or_not (takes choice.mode) asked.1 (refused choice asked.0)

not_answered : {P : Type 0} (takes : Mode → Bool) (words : List (List ℕ)) (holds : Option Held) (targets : List Target) → Answers takes words holds (Ok targets) → AreRefused takes words → P
not_answered takes words holds targets (stops refusal w e) refused = cc
not_answered takes words holds targets (goes choice asked k) refused = not_both takes words choice asked refused

refused_from : (takes : Mode → Bool) (words : List (List ℕ)) (holds : Option Held) (refusal : Refusal) → Answers takes words holds (Err refusal) → refusal ≡ Words → AreRefused takes words
refused_from takes words holds refusal (stops r w e) same = w.0
refused_from takes words holds refusal (goes choice asked k) same = absurd (defines_keeps holds choice refusal k same)

refused_to : (takes : Mode → Bool) (words : List (List ℕ)) (holds : Option Held) (refusal : Refusal) → Answers takes words holds (Err refusal) → AreRefused takes words → ◌≡◌ {A = ℕ} (status_of refusal) 2
refused_to takes words holds refusal (stops r w e) refused = ap status_of (err_same {A = List Target} refusal r e ∙ w.1)
refused_to takes words holds refusal (goes choice asked k) refused = not_both takes words choice asked refused

at_end : (takes : Mode → Bool) (words : List (List ℕ)) (before now : Outside) (end : Result Unit Ending) → Leaves takes words before.world now.world end →
    (◌≡◌ {A = ℕ} (run.status_of end) 2 → AreRefused takes words) × (AreRefused takes words → ◌≡◌ {A = ℕ} (run.status_of end) 2)
at_end takes words before now (Ok unit) leaves = (λ e. cc, λ refused. not_answered takes words before.world.holds leaves.targets leaves.answer refused)
at_end takes words before now (Err (endings.Refused refusal)) leaves =
    (λ e. refused_from takes words before.world.holds refusal leaves.0 (two_is_words refusal e), refused_to takes words before.world.holds refusal leaves.0)
at_end takes words before now (Err (endings.ReadFault role)) leaves = (λ e. cc, not_both takes words leaves.choice leaves.asked)
at_end takes words before now (Err (endings.WriteFault output)) leaves = (λ e. cc, not_answered takes words before.world.holds leaves.targets leaves.answer)
at_end takes words before now (Err endings.NoMemory) (inl before_all) = (λ e. cc, not_both takes words before_all.0 before_all.1)
at_end takes words before now (Err endings.NoMemory) (inr stopped) = (λ e. cc, not_answered takes words before.world.holds stopped.targets stopped.answer)

pub refused_words : RefusedWordsHaveStatus2
refused_words takes words before now status is =
    let both = at_end takes words before now is.end is.leaves in
    (λ e. both.0 (sym is.status_is ∙ e), λ refused. is.status_is ∙ both.1 refused)
