-- Words have an answer.
use Rattle.std.proofs.Common.{◌≡◌, refl, inl, inr, ◌∙◌, ap, ℕ, ℤ, List, [], ◌∷◌, Bool}
use Rattle.std.specs.Prelude.{Ok, Err, IfOk}
use Rattle.std.specs.declared.option.Option.{Option}
use Rattle.std.proofs.lemmas.Bool.{cases_Bool}
use Rattle.fem_fixed.specs.Mesh.{Mesh}
use Rattle.fem_text.specs.Outside.{Held}
use Rattle.problem_read.specs.Entries.{ProblemParts}
use Rattle.run_words.specs.declared.options.SystemMode.{SystemMode}
use Rattle.run_words.specs.declared.options.Format.{Format}
use Rattle.run_words.specs.declared.options.Format.TheVariants as formats
use Rattle.run_words.specs.Choice.{Mode, of_system, of_mesh, of_vector, Choice, source_format}
use Rattle.run_words.specs.declared.options.SystemMode.TheVariants as systems
use Rattle.run_words.specs.declared.options.VectorTask.{VectorTask}
use Rattle.run_words.specs.declared.options.VectorTask.TheVariants as tasks
use Rattle.run_words.specs.Words.{AskFor, AskForSomethingOrNothing}
use Rattle.std.specs.declared.result.Result.{Result}
use Rattle.hanging_refine.specs.Refined.{RefinedMesh}
use Rattle.diagnostics.specs.declared.refusal.Refusal.{Refusal}
use Rattle.diagnostics.specs.Stages.{Then, stops, goes}
use Rattle.vector_texts.specs.Product.{ProductTexts}
use Rattle.vector_texts.specs.Text.{marks_text}
use Rattle.vector_texts.specs.Marks.{Marks, MarkedOn, MarksText, MarksTexts}
use Rattle.vector_laws.specs.Laws.{HaveAProduct, HaveAMarking}
use Rattle.ucd_read.specs.Ucd.{Ucd}
use Rattle.msh_read.specs.Msh.{Msh}
use Rattle.ucd_write.specs.Text.{mesh_text}
use Rattle.run_texts.specs.Texts.{MeshIn}
use Rattle.run_texts.specs.Read.{SourceRead, VectorUnder}
use Rattle.run_outputs.specs.Targets.{first_target}
use Rattle.system_setup.specs.SetUp.{ForestOf, RefinedFurther, SetUpOn, IsSetUp}
use Rattle.system_texts.specs.Texts.{SystemTexts}
use Rattle.system_laws.specs.Laws.{AreQuadrilaterals, HasASetUp, CanBeSetUp, CanBeRefined, HasAForest, TextsHaveQuadrilaterals}
use Rattle.diagnostics.specs.declared.refusal.Refusal.TheVariants.{Words}
use Rattle.assemble_core.specs.Answer.{Asked}
use Rattle.run_targets.specs.Defines.{scheme_of, Assembled, FinerMesh, AssembledOn, VectorMade, Made, Defines}
use Rattle.answer_laws.specs.Parts.{HaveAReading, HaveAVector, HaveAListOfTexts}
use Rattle.answer_laws.specs.Existence.{HaveAnAnswer}
use Rattle.answer_laws.proofs.Steps.{HasAnOutcome, some_after, some_behind, some_stopped}
use Rattle.answer_laws.proofs.SomeReadings.{source_mesh}

-- Each step of the work has an outcome, as its law says.
module _ (one_choice : (words : List (List ℕ)) (first second : Choice) → AskFor words first → AskFor words second → first ≡ second)
    (some_choice : (words : List (List ℕ)) → AskForSomethingOrNothing words)
    (some_reading : HaveAReading)
    (some_vector : HaveAVector)
    (ucd_quadrilaterals : TextsHaveQuadrilaterals Ucd)
    (msh_quadrilaterals : TextsHaveQuadrilaterals Msh)
    (some_set_up : HasASetUp)
    (some_list : HaveAListOfTexts)
    (some_forest : HasAForest)
    (some_product : HaveAProduct)
    (some_marking : HaveAMarking) where
  some_asked : (takes : Mode → Bool) (words : List (List ℕ)) → HasAnOutcome (Asked takes words)
  some_asked takes words = elim (some_choice words) [
    | inl asks ↦ elim (cases_Bool (takes asks.0.mode)) [
      | inl taken ↦ (Ok asks.0, (asks.1, taken))
      | inr left ↦ (Err Words, ((λ choice other. ap (λ (c : Choice). takes c.mode) (one_choice words choice asks.0 other asks.1) ∙ left), refl))
    ]
    | inr nothing ↦ (Err Words, ((λ choice asks. absurd (nothing choice asks)), refl))
  ]

  quadrilaterals : (format : Format) (text : List ℕ) (parts : Mesh) → MeshIn format text (Ok parts) → AreQuadrilaterals parts
  quadrilaterals formats.Ucd = ucd_quadrilaterals
  quadrilaterals formats.Msh = msh_quadrilaterals

  some_assembled : (mode : SystemMode) (choice : Choice) (read : Mesh × ProblemParts) → AreQuadrilaterals read.0 → HasAnOutcome (Assembled mode choice read)
  some_assembled mode choice read four =
      some_after (IsSetUp (scheme_of choice) read.0 read.1) (SystemTexts mode choice) (some_set_up (scheme_of choice) read.0 read.1 four) (λ s is. some_list mode choice s)

  -- the system on a mesh on which the problem can be set up
  some_assembled_on : (choice : Choice) (read : Mesh × ProblemParts) (forest : RefinedMesh) → CanBeSetUp read.1 forest → HasAnOutcome (AssembledOn choice read.0.ids read.1 forest)
  some_assembled_on choice read forest can =
      some_after (SetUpOn (scheme_of choice) read.0.ids read.1 forest) (SystemTexts systems.Serial choice) (can (scheme_of choice) read.0.ids) (λ s is. some_list systems.Serial choice s)

  finer_or_not : (choice : Choice) (read : Mesh × ProblemParts) (count : ℕ) (values : List ℤ) (forest : RefinedMesh) (marks : Marks) (outcome : Result RefinedMesh Refusal) →
      MarkedOn count values forest (Ok marks) → RefinedFurther forest marks.1 outcome → IfOk outcome (CanBeSetUp read.1) → HasAnOutcome (Then (FinerMesh count values forest) (AssembledOn choice read.0.ids read.1))
  finer_or_not choice read count values forest marks (Ok finer) marked is can =
      some_behind (FinerMesh count values forest) (AssembledOn choice read.0.ids read.1) finer (goes marks marked is) (some_assembled_on choice read finer can)
  finer_or_not choice read count values forest marks (Err refusal) marked is can =
      some_stopped (FinerMesh count values forest) (AssembledOn choice read.0.ids read.1) refusal (goes marks marked is)

  some_finer : (choice : Choice) (read : Mesh × ProblemParts) (count : ℕ) (values : List ℤ) (forest : RefinedMesh) → ((cells : List ℕ) → CanBeRefined read.1 forest cells) →
      (marking : HasAnOutcome (MarkedOn count values forest)) → HasAnOutcome (Then (FinerMesh count values forest) (AssembledOn choice read.0.ids read.1))
  some_finer choice read count values forest can (Ok marks, marked) =
      (let more = can marks.1 in finer_or_not choice read count values forest marks more.outcome marked more.is more.goes_on)
  some_finer choice read count values forest can (Err refusal, marked) =
      some_stopped (FinerMesh count values forest) (AssembledOn choice read.0.ids read.1) refusal (stops refusal marked refl)

  some_adapted : (choice : Choice) (read : Mesh × ProblemParts) (count : ℕ) (values : List ℤ) (outcome : Result RefinedMesh Refusal) → ForestOf read.0 read.1 outcome →
      IfOk outcome (λ forest. (cells : List ℕ) → CanBeRefined read.1 forest cells) → HasAnOutcome (VectorMade (tasks.Adapt count) choice read values)
  some_adapted choice read count values (Ok forest) is can =
      some_behind (ForestOf read.0 read.1) (λ forest. Then (FinerMesh count values forest) (AssembledOn choice read.0.ids read.1)) forest is
      (some_finer choice read count values forest can (some_marking count values forest))
  some_adapted choice read count values (Err refusal) is can =
      some_stopped (ForestOf read.0 read.1) (λ forest. Then (FinerMesh count values forest) (AssembledOn choice read.0.ids read.1)) refusal is

  some_vector_made : (task : VectorTask) (choice : Choice) (read : Mesh × ProblemParts) (values : List ℤ) → AreQuadrilaterals read.0 → HasAnOutcome (VectorMade task choice read values)
  some_vector_made tasks.Product choice read values four =
      some_after (IsSetUp (scheme_of choice) read.0 read.1) (ProductTexts choice.output values) (some_set_up (scheme_of choice) read.0 read.1 four) (λ s is. some_product choice.output values s)
  some_vector_made (tasks.Marks count) choice read values four =
      let forest = some_forest read.0 read.1 four in
      some_after (ForestOf read.0 read.1) (MarksTexts choice.output count values) (forest.outcome, forest.is)
      (λ mesh is. some_after (MarkedOn count values mesh) (MarksText choice.output) (some_marking count values mesh) (λ marks marked. (Ok (first_target choice.output (marks_text marks.0 marks.1) ∷ []), refl)))
  some_vector_made (tasks.Adapt count) choice read values four =
      (let forest = some_forest read.0 read.1 four in some_adapted choice read count values forest.outcome forest.is forest.goes_on)

  some_made : (holds : Option Held) (mode : Mode) (choice : Choice) (read : Mesh × ProblemParts) → AreQuadrilaterals read.0 → HasAnOutcome (Made holds mode choice read)
  some_made holds (of_system mode) choice read four = some_assembled mode choice read four
  some_made holds of_mesh choice read four = (Ok (first_target choice.output (mesh_text read.0) ∷ []), refl)
  some_made holds (of_vector name task) choice read four =
      some_after (VectorUnder holds name) (VectorMade task choice read) (some_vector holds name) (λ values is. some_vector_made task choice read values four)

  some_defined : (holds : Option Held) (choice : Choice) → HasAnOutcome (Defines holds choice)
  some_defined holds choice =
      some_after (SourceRead holds choice.source) (Made holds choice.mode choice) (some_reading holds choice.source)
      (λ read is. let mesh = source_mesh holds choice.source read is in some_made holds choice.mode choice read (quadrilaterals (source_format choice.source) mesh.0 read.0 mesh.1))

  pub some_answer : HaveAnAnswer
  some_answer takes words holds = some_after (Asked takes words) (Defines holds) (some_asked takes words) (λ choice is. some_defined holds choice)
