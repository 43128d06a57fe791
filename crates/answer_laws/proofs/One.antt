-- Words whose texts are known have one answer.
use Rattle.std.proofs.Common.{◌≡◌, ◌∙◌, sym, ap, subst, ℕ, ℤ, List, Bool, true, false}
use Rattle.std.specs.Prelude.{Ok, Err, Some}
use Rattle.std.specs.declared.option.Option.{Option}
use Rattle.fem_fixed.specs.Mesh.{Mesh}
use Rattle.fem_text.specs.Outside.{Held}
use Rattle.problem_read.specs.Entries.{ProblemParts}
use Rattle.run_words.specs.declared.options.SystemMode.{SystemMode}
use Rattle.run_words.specs.Choice.{Mode, of_system, of_mesh, of_vector, vector_in, Choice}
use Rattle.run_words.specs.declared.options.SystemMode.TheVariants as systems
use Rattle.run_words.specs.declared.options.VectorTask.{VectorTask}
use Rattle.run_words.specs.declared.options.VectorTask.TheVariants as tasks
use Rattle.run_words.specs.Words.{AskFor}
use Rattle.run_outputs.specs.Targets.{Target}
use Rattle.hanging_refine.specs.Refined.{RefinedMesh}
use Rattle.mesh_loop.specs.Setup.{MeshProblem}
use Rattle.fem_text.proofs.OneReading.{ok_same, err_same, ok_err}
use Rattle.diagnostics.specs.declared.refusal.Refusal.{Refusal}
use Rattle.std.specs.declared.result.Result.{Result}
use Rattle.system_setup.specs.SetUp.{ForestOf, RefinedFurther, SetUpOn, IsSetUp}
use Rattle.system_texts.specs.Texts.{SystemTexts}
use Rattle.system_laws.specs.Same.{IsSameForest, IsSameSystem, AgreeOnForests, AgreeOn}
use Rattle.vector_texts.specs.Product.{ProductTexts}
use Rattle.vector_texts.specs.Marks.{Marks, MarkedOn, MarksText, MarksTexts}
use Rattle.vector_laws.specs.Laws.{HaveOneProduct, HaveOneMarking}
use Rattle.run_texts.specs.Texts.{VectorOf}
use Rattle.diagnostics.specs.Stages.{Then, stops, goes}
use Rattle.run_texts.specs.Read.{SourceRead, VectorUnder}
use Rattle.system_laws.specs.Laws.{HasOneSystem, HasOneForest, HasOneFinerForest, HasOneSystemOn}
use Rattle.assemble_core.specs.Answer.{Asked}
use Rattle.run_targets.specs.Defines.{scheme_of, Assembled, FinerMesh, AssembledOn, VectorMade, Made, Defines}
use Rattle.answer_laws.specs.Parts.{IsKnown, AllAreKnown, HaveOneReading, HaveOneVector, HaveOneListOfTexts, HaveOneAnswerWhereKnown}
use Rattle.answer_laws.proofs.Steps.{Agree, one_after}

pub taken_or_not : {P : Type 0} (taken : Bool) → taken ≡ true → taken ≡ false → P
taken_or_not taken h k = (let e : true ≡ false = sym h ∙ k in cc)

-- Each step of the work has one outcome, as its law says.
module _ (one_choice : (words : List (List ℕ)) (first second : Choice) → AskFor words first → AskFor words second → first ≡ second)
    (one_reading : HaveOneReading)
    (one_vector : HaveOneVector)
    (one_system : HasOneSystem)
    (one_list : HaveOneListOfTexts)
    (one_forest : HasOneForest)
    (one_finer : HasOneFinerForest)
    (one_system_on : HasOneSystemOn)
    (one_product : HaveOneProduct)
    (one_marking : HaveOneMarking) where
  one_asked : (takes : Mode → Bool) (words : List (List ℕ)) → Agree (Asked takes words) (Asked takes words)
  one_asked takes words (Ok a) (Ok b) h k = ap Ok (one_choice words a b h.0 k.0)
  one_asked takes words (Ok a) (Err q) h k = taken_or_not (takes a.mode) h.1 (k.0 a h.0)
  one_asked takes words (Err r) (Ok b) h k = taken_or_not (takes b.mode) k.1 (h.0 b k.0)
  one_asked takes words (Err r) (Err q) h k = ap Err (h.1 ∙ sym k.1)

  -- two set-ups agree, so their texts are the same
  one_assembled : (mode : SystemMode) (choice : Choice) (read : Mesh × ProblemParts) → Agree (Assembled mode choice read) (Assembled mode choice read)
  one_assembled mode choice read a b (stops r w e) (stops q v f) = e ∙ ap Err (one_system (scheme_of choice) read.0 read.1 (Err r) (Err q) w v) ∙ sym f
  one_assembled mode choice read a b (stops r w e) (goes t v k) = absurd (one_system (scheme_of choice) read.0 read.1 (Err r) (Ok t) w v)
  one_assembled mode choice read a b (goes s w h) (stops q v f) = absurd (one_system (scheme_of choice) read.0 read.1 (Ok s) (Err q) w v)
  one_assembled mode choice read a b (goes s w h) (goes t v k) =
      one_list mode choice s t (one_system (scheme_of choice) read.0 read.1 (Ok s) (Ok t) w v) a b h k

  -- two refined meshes agree, so what is made of a vector on them is the same
  one_on_forest : {Y : Type 0} (first other : Result RefinedMesh Refusal → Type 0) (next : RefinedMesh → Result Y Refusal → Type 0) →
      ((x y : Result RefinedMesh Refusal) → first x → other y → AgreeOnForests x y) → ((f g : RefinedMesh) → IsSameForest f g → Agree (next f) (next g)) → Agree (Then first next) (Then other next)
  one_on_forest first other next agree same a b (stops r w e) (stops q v f) = e ∙ ap Err (agree (Err r) (Err q) w v) ∙ sym f
  one_on_forest first other next agree same a b (stops r w e) (goes g v k) = absurd (agree (Err r) (Ok g) w v)
  one_on_forest first other next agree same a b (goes f w h) (stops q v e) = absurd (agree (Ok f) (Err q) w v)
  one_on_forest first other next agree same a b (goes f w h) (goes g v k) = same f g (agree (Ok f) (Ok g) w v) a b h k

  -- two set-ups agree, so what is made on them is the same
  one_on_system : (first other : Result MeshProblem Refusal → Type 0) (next : MeshProblem → Result (List Target) Refusal → Type 0) →
      ((x y : Result MeshProblem Refusal) → first x → other y → AgreeOn x y) → ((s t : MeshProblem) → IsSameSystem s t → Agree (next s) (next t)) → Agree (Then first next) (Then other next)
  one_on_system first other next agree same a b (stops r w e) (stops q v f) = e ∙ ap Err (agree (Err r) (Err q) w v) ∙ sym f
  one_on_system first other next agree same a b (stops r w e) (goes t v k) = absurd (agree (Err r) (Ok t) w v)
  one_on_system first other next agree same a b (goes s w h) (stops q v f) = absurd (agree (Ok s) (Err q) w v)
  one_on_system first other next agree same a b (goes s w h) (goes t v k) = same s t (agree (Ok s) (Ok t) w v) a b h k

  one_assembled_on : (choice : Choice) (read : Mesh × ProblemParts) (f g : RefinedMesh) → IsSameForest f g → Agree (AssembledOn choice read.0.ids read.1 f) (AssembledOn choice read.0.ids read.1 g)
  one_assembled_on choice read f g same =
      one_on_system (SetUpOn (scheme_of choice) read.0.ids read.1 f) (SetUpOn (scheme_of choice) read.0.ids read.1 g) (SystemTexts systems.Serial choice)
      (one_system_on f g same (scheme_of choice) read.0.ids read.1) (one_list systems.Serial choice)

  -- one more step on meshes that are the same
  agree_finer : (count : ℕ) (values : List ℤ) (f g : RefinedMesh) → IsSameForest f g → (x y : Result RefinedMesh Refusal) → FinerMesh count values f x → FinerMesh count values g y → AgreeOnForests x y
  agree_finer count values f g same x y (stops r w e) (stops q v d) =
      let refusal : r ≡ q = err_same {A = Marks} r q (one_marking count values f g same (Err r) (Err q) w v) in
      subst (λ o. AgreeOnForests o y) (sym e) (subst (λ o. AgreeOnForests (Err r) o) (sym d) refusal)
  agree_finer count values f g same x y (stops r w e) (goes n v k) = ok_err n r (sym (one_marking count values f g same (Err r) (Ok n) w v))
  agree_finer count values f g same x y (goes m w h) (stops q v d) = ok_err m q (one_marking count values f g same (Ok m) (Err q) w v)
  agree_finer count values f g same x y (goes m w h) (goes n v k) =
      let marks : m ≡ n = ok_same {K = Refusal} m n (one_marking count values f g same (Ok m) (Ok n) w v) in
      one_finer f g same n.1 x y (subst (λ (o : Marks). RefinedFurther f o.1 x) marks h) k

  one_vector_made : (task : VectorTask) (choice : Choice) (read : Mesh × ProblemParts) (values : List ℤ) → Agree (VectorMade task choice read values) (VectorMade task choice read values)
  one_vector_made tasks.Product choice read values =
      one_on_system (IsSetUp (scheme_of choice) read.0 read.1) (IsSetUp (scheme_of choice) read.0 read.1) (ProductTexts choice.output values)
      (one_system (scheme_of choice) read.0 read.1) (one_product choice.output values)
  one_vector_made (tasks.Marks count) choice read values =
      one_on_forest (ForestOf read.0 read.1) (ForestOf read.0 read.1) (MarksTexts choice.output count values) (one_forest read.0 read.1)
      (λ f g same. one_after (MarkedOn count values f) (MarkedOn count values g) (MarksText choice.output) (MarksText choice.output) (one_marking count values f g same) (λ marks is a b h k. h ∙ sym k))
  one_vector_made (tasks.Adapt count) choice read values =
      one_on_forest (ForestOf read.0 read.1) (ForestOf read.0 read.1) (λ forest. Then (FinerMesh count values forest) (AssembledOn choice read.0.ids read.1)) (one_forest read.0 read.1)
      (λ f g same. one_on_forest (FinerMesh count values f) (FinerMesh count values g) (AssembledOn choice read.0.ids read.1) (agree_finer count values f g same) (one_assembled_on choice read))

  -- the text of a vector is known, so it has one reading
  one_under : (holds : Option Held) (name : List ℕ) → IsKnown holds (Some name) → Agree (VectorUnder holds name) (VectorUnder holds name)
  one_under holds name known a b (text, stands, is) (other, there, also) = one_vector other a b (subst (λ t. VectorOf t a) (known text other stands there) is) also

  one_made : (holds : Option Held) (mode : Mode) (choice : Choice) (read : Mesh × ProblemParts) → IsKnown holds (vector_in mode) → Agree (Made holds mode choice read) (Made holds mode choice read)
  one_made holds (of_system mode) choice read known a b h k = one_assembled mode choice read a b h k
  one_made holds of_mesh choice read known a b h k = h ∙ sym k
  one_made holds (of_vector name task) choice read known a b h k =
      one_after (VectorUnder holds name) (VectorUnder holds name) (VectorMade task choice read) (VectorMade task choice read) (one_under holds name known) (λ values is. one_vector_made task choice read values)
      a b h k

  one_defined : (holds : Option Held) (choice : Choice) → AllAreKnown holds choice → Agree (Defines holds choice) (Defines holds choice)
  one_defined holds choice known =
      one_after (SourceRead holds choice.source) (SourceRead holds choice.source) (Made holds choice.mode choice) (Made holds choice.mode choice) (one_reading holds choice.source known.source)
      (λ read is. one_made holds choice.mode choice read known.vector)

  pub one_known : HaveOneAnswerWhereKnown
  one_known takes words holds known =
      one_after (Asked takes words) (Asked takes words) (Defines holds) (Defines holds) (one_asked takes words) (λ choice is. one_defined holds choice (known choice is))
