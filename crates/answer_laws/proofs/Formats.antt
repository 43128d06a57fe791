-- Words on one mesh have the same answer, in whatever format it stands.
use Rattle.std.proofs.Common.{◌≡◌, ◌∙◌, sym, ap, refl, subst, ℕ, ℤ, List, Bool, true}
use Rattle.std.specs.Prelude.{Some, None, Ok, Err}
use Rattle.std.specs.declared.option.Option.{Option}
use Rattle.std.specs.declared.result.Result.{Result}
use Rattle.fem_fixed.specs.Mesh.{Mesh}
use Rattle.fem_text.specs.Outside.{Held}
use Rattle.fem_text.proofs.OneReading.{ok_same, ok_err}
use Rattle.problem_read.specs.Entries.{ProblemParts}
use Rattle.run_words.specs.declared.options.Format.{Format}
use Rattle.run_words.specs.Choice.{Mode, of_system, of_mesh, of_vector, vector_in, Choice, Source, texts, generated}
use Rattle.run_words.specs.declared.options.VectorTask.{VectorTask}
use Rattle.run_words.specs.declared.options.VectorTask.TheVariants as tasks
use Rattle.run_words.specs.Words.{AskFor}
use Rattle.run_outputs.specs.Targets.{Target}
use Rattle.run_texts.specs.Texts.{Texts, ProblemStands, MeshOf, ProblemOf, ReadTexts}
use Rattle.run_texts.specs.Read.{MeshUnder, SourceRead, VectorUnder}
use Rattle.diagnostics.specs.declared.refusal.Refusal.{Refusal}
use Rattle.diagnostics.specs.Stages.{Then, stops, goes}
use Rattle.run_targets.specs.Defines.{VectorMade, VectorTexts, Made, Defines}
use Rattle.assemble_core.specs.Answer.{Answers}
use Rattle.assemble_core.specs.Run.{Outside}
use Rattle.answer_laws.specs.Parts.{HaveOneMesh}
use Rattle.answer_laws.specs.Runs.{AreTold, Wrote, ZeroTellsTheTexts}
use Rattle.answer_laws.specs.Formats.{without_mesh_text, all_but_mesh_text, AreAlike, ReadsAlso, HoldAlike, AskOnMesh, FormatsHaveOneAnswer, FormatsWriteTheSame}

-- the name of the problem
abbrev problem_name : Source → Option (List ℕ)
problem_name (texts mesh format problem) = problem
problem_name (generated n seed) = None

-- what stands under the name of the problem is the same in both stores
abbrev SourceAlike : Held → Held → Source → Type 0
SourceAlike held also source = (name : List ℕ) → ReadsAlso source name → held name ≡ also name

problem_alike : (held also : Held) (mesh : List ℕ) (format : Format) (problem known : Option (List ℕ)) → SourceAlike held also (texts mesh format problem) →
    ProblemStands (Some held) problem known → ProblemStands (Some also) problem known
problem_alike held also mesh format None known hold stands = stands
problem_alike held also mesh format (Some name) known hold stands = stands ∙ hold name refl

-- the problem, and then the pair
abbrev Behind : Option (List ℕ) → Mesh → Result (Mesh × ProblemParts) Refusal → Type 0
Behind known mesh = Then (ProblemOf known) (λ problem outcome. outcome ≡ Ok (mesh, problem))

-- what is made of a vector doesn't depend on the source
vector_without_source : (task : VectorTask) (choice : Choice) (read : Mesh × ProblemParts) (values : List ℤ) (answer : Result (List Target) Refusal) → VectorMade task choice read values answer →
    VectorMade task (all_but_mesh_text choice) read values answer
vector_without_source tasks.Product choice read values answer made = made
vector_without_source (tasks.Marks count) choice read values answer made = made
vector_without_source (tasks.Adapt count) choice read values answer made = made

vector_with_source : (task : VectorTask) (choice : Choice) (read : Mesh × ProblemParts) (values : List ℤ) (answer : Result (List Target) Refusal) →
    VectorMade task (all_but_mesh_text choice) read values answer → VectorMade task choice read values answer
vector_with_source tasks.Product choice read values answer made = made
vector_with_source (tasks.Marks count) choice read values answer made = made
vector_with_source (tasks.Adapt count) choice read values answer made = made

-- the vector under a name that both stores hold alike
vector_alike : (held also : Held) (name : List ℕ) (outcome : Result (List ℤ) Refusal) → held name ≡ also name → VectorUnder (Some held) name outcome → VectorUnder (Some also) name outcome
vector_alike held also name outcome same (known, stands, is) = (known, stands ∙ same, is)

texts_alike : (held also : Held) (name : List ℕ) (task : VectorTask) (choice other : Choice) (read : Mesh × ProblemParts) (answer : Result (List Target) Refusal) → held name ≡ also name →
    ((values : List ℤ) → VectorMade task choice read values answer → VectorMade task other read values answer) → VectorTexts (Some held) name task choice read answer →
    VectorTexts (Some also) name task other read answer
texts_alike held also name task choice other read answer same more (stops refusal is e) = stops refusal (vector_alike held also name (Err refusal) same is) e
texts_alike held also name task choice other read answer same more (goes values is h) = goes values (vector_alike held also name (Ok values) same is) (more values h)

-- what a mode makes doesn't depend on the source, nor on which of two such stores holds the vector
abbrev VectorAlike : Held → Held → Mode → Type 0
VectorAlike held also mode = (name : List ℕ) → vector_in mode ≡ Some name → held name ≡ also name

without_source : (held also : Held) (mode : Mode) (choice : Choice) (read : Mesh × ProblemParts) (answer : Result (List Target) Refusal) → VectorAlike held also mode →
    Made (Some held) mode choice read answer → Made (Some also) mode (all_but_mesh_text choice) read answer
without_source held also (of_system mode) choice read answer hold made = made
without_source held also of_mesh choice read answer hold made = made
without_source held also (of_vector name task) choice read answer hold made =
    texts_alike held also name task choice (all_but_mesh_text choice) read answer (hold name refl) (λ values. vector_without_source task choice read values answer) made

with_source : (also : Held) (mode : Mode) (choice : Choice) (read : Mesh × ProblemParts) (answer : Result (List Target) Refusal) → Made (Some also) mode (all_but_mesh_text choice) read answer →
    Made (Some also) mode choice read answer
with_source also (of_system mode) choice read answer made = made
with_source also of_mesh choice read answer made = made
with_source also (of_vector name task) choice read answer made =
    texts_alike also also name task (all_but_mesh_text choice) choice read answer refl (λ values. vector_with_source task choice read values answer) made

-- Words have one choice and mesh texts one reading, as their laws say.
module _ (one_choice : (words : List (List ℕ)) (first second : Choice) → AskFor words first → AskFor words second → first ≡ second) (one_mesh : HaveOneMesh) where
  -- the reading of a text of this mesh gives this mesh, and goes on
  goes_on : (format : Format) (mesh : Mesh) (known : Texts) (outcome : Result (Mesh × ProblemParts) Refusal) → MeshOf format known.mesh (Ok mesh) → ReadTexts format known outcome →
      Behind known.problem mesh outcome
  goes_on format mesh known outcome is (stops refusal w e) = ok_err mesh refusal (one_mesh format known.mesh (Ok mesh) (Err refusal) is w)
  goes_on format mesh known outcome is (goes other w h) =
      subst (λ (m : Mesh). Behind known.problem m outcome) (ok_same {K = Refusal} other mesh (one_mesh format known.mesh (Ok other) (Ok mesh) w is)) h

  -- what is read of one text is read of the other
  both_alike : (held also : Held) (name other : List ℕ) (format another : Format) (problem : Option (List ℕ)) (mesh : Mesh) (outcome : Result (Mesh × ProblemParts) Refusal) →
      SourceAlike held also (texts name format problem) → MeshUnder (Some held) name format (Ok mesh) → MeshUnder (Some also) other another (Ok mesh) →
      SourceRead (Some held) (texts name format problem) outcome → SourceRead (Some also) (texts other another problem) outcome
  both_alike held also name other format another problem mesh outcome hold (own, stands, is) (its, also_stands, also_is) (known, (mesh_stands, problem_stands), read) =
      let P : Option (List ℕ) → Type 0 = λ text. MeshOf format text (Ok mesh) in
      let there : MeshOf format known.mesh (Ok mesh) = subst P (stands ∙ sym mesh_stands) is in (
        record { mesh = its; problem = known.problem },
        (also_stands, problem_alike held also name format problem known.problem hold problem_stands),
        goes mesh also_is (goes_on format mesh known outcome there read),
      )

  source_alike : (held also : Held) (source other : Source) (name another : List ℕ) (format its : Format) (problem problems : Option (List ℕ)) (mesh : Mesh)
      (outcome : Result (Mesh × ProblemParts) Refusal) → without_mesh_text source ≡ without_mesh_text other → SourceAlike held also source → source ≡ texts name format problem →
      other ≡ texts another its problems → MeshUnder (Some held) name format (Ok mesh) → MeshUnder (Some also) another its (Ok mesh) → SourceRead (Some held) source outcome →
      SourceRead (Some also) other outcome
  source_alike held also source other name another format its problem problems mesh outcome alike hold is other_is m n read =
      let same : problem ≡ problems = sym (ap (λ s. problem_name (without_mesh_text s)) is) ∙ ap problem_name alike ∙ ap (λ s. problem_name (without_mesh_text s)) other_is in
      let P : Option (List ℕ) → Type 0 = λ p. SourceRead (Some also) (texts another its p) outcome in
      subst (λ s. SourceRead (Some also) s outcome) (sym other_is)
      (subst P same
      (both_alike held also name another format its problem mesh outcome (subst (SourceAlike held also) is hold) m n (subst (λ s. SourceRead (Some held) s outcome) is read)))

  -- what is made doesn't depend on the mesh text
  made_alike : (held also : Held) (choice other : Choice) (read : Mesh × ProblemParts) (answer : Result (List Target) Refusal) → AreAlike choice other → VectorAlike held also choice.mode →
      Made (Some held) choice.mode choice read answer → Made (Some also) other.mode other read answer
  made_alike held also choice other read answer alike hold made =
      with_source also other.mode other read answer (subst (λ (c : Choice). Made (Some also) c.mode c read answer) alike (without_source held also choice.mode choice read answer hold made))

  defined_alike : (words another : List (List ℕ)) (held also : Held) (choice other : Choice) (mesh : Mesh) (answer : Result (List Target) Refusal) → AskOnMesh words held choice mesh →
      AskOnMesh another also other mesh → AreAlike choice other → HoldAlike held also choice → Defines (Some held) choice answer → Defines (Some also) other answer
  defined_alike words another held also choice other mesh answer a b alike hold (stops refusal read e) =
      stops refusal
      (source_alike held also choice.source other.source a.name b.name a.format b.format a.problem b.problem mesh (Err refusal) (ap (λ (c : Choice). c.source) alike) hold.source a.source_is b.source_is
      a.mesh_is b.mesh_is read) e
  defined_alike words another held also choice other mesh answer a b alike hold (goes pair read made) =
      goes pair
      (source_alike held also choice.source other.source a.name b.name a.format b.format a.problem b.problem mesh (Ok pair) (ap (λ (c : Choice). c.source) alike) hold.source a.source_is b.source_is
      a.mesh_is b.mesh_is read) (made_alike held also choice other pair answer alike hold.vector made)

  answered_alike : (takes : Mode → Bool) (words another : List (List ℕ)) (held also : Held) (choice other : Choice) (mesh : Mesh) (answer : Result (List Target) Refusal) →
      AskOnMesh words held choice mesh → AskOnMesh another also other mesh → AreAlike choice other → HoldAlike held also choice →
      Answers takes words (Some held) answer → Answers takes another (Some also) answer
  answered_alike takes words another held also choice other mesh answer a b alike hold (stops refusal refused e) =
      let mode : takes choice.mode ≡ takes other.mode = ap (λ (c : Choice). takes c.mode) alike in
      stops refusal ((λ c asks. ap (λ (d : Choice). takes d.mode) (one_choice another c other asks b.asks) ∙ sym mode ∙ refused.0 choice a.asks), refused.1) e
  answered_alike takes words another held also choice other mesh answer a b alike hold (goes c asked defines) =
      let same : c ≡ choice = one_choice words c choice asked.0 a.asks in
      let taken : takes other.mode ≡ true = sym (ap (λ (d : Choice). takes d.mode) same ∙ ap (λ (d : Choice). takes d.mode) alike) ∙ asked.1 in
      goes other (b.asks, taken) (defined_alike words another held also choice other mesh answer a b alike hold (subst (λ (d : Choice). Defines (Some held) d answer) same defines))

  -- the same names are read of the other choice
  read_as : (source : Source) (name : List ℕ) → ReadsAlso source name → ReadsAlso (without_mesh_text source) name
  read_as (texts mesh format problem) name reads = reads
  read_as (generated n seed) name reads = reads

  read_from : (source : Source) (name : List ℕ) → ReadsAlso (without_mesh_text source) name → ReadsAlso source name
  read_from (texts mesh format problem) name reads = reads
  read_from (generated n seed) name reads = reads

  also_read : (source other : Source) → without_mesh_text source ≡ without_mesh_text other → (name : List ℕ) → ReadsAlso other name → ReadsAlso source name
  also_read source other alike name reads = read_from source name (subst (λ s. ReadsAlso s name) (sym alike) (read_as other name reads))

  hold_back : (held also : Held) (choice other : Choice) → AreAlike choice other → HoldAlike held also choice → HoldAlike also held other
  hold_back held also choice other alike hold = record {
    source = λ name reads. sym (hold.source name (also_read choice.source other.source (ap (λ (c : Choice). c.source) alike) name reads));
    vector = λ name reads. sym (hold.vector name (ap (λ (c : Choice). vector_in c.mode) alike ∙ reads));
  }

  pub one_answer : FormatsHaveOneAnswer
  one_answer takes words another held also is answer = (
    answered_alike takes words another held also is.choice is.other_choice is.mesh answer is.first is.second is.alike is.hold,
    answered_alike takes another words also held is.other_choice is.choice is.mesh answer is.second is.first (sym is.alike)
        (hold_back held also is.choice is.other_choice is.alike is.hold),
  )

told : (takes : Mode → Bool) (words : List (List ℕ)) (held : Held) (before : Outside) → before.world.holds ≡ Some held → AreTold takes words before.world.holds
told takes words held before is = subst (AreTold takes words) (sym is) tt

-- a run with status 0 wrote the answer of its words
pub same_texts : FormatsHaveOneAnswer → ZeroTellsTheTexts → FormatsWriteTheSame
same_texts one zero takes words another held also is before now other_before other_now holds other_holds run other_run =
    let first = zero takes words before now (told takes words held before holds) run in
    let second = zero takes another other_before other_now (told takes another also other_before other_holds) other_run in
    let P : Option Held → Type 0 = λ h. Answers takes words h (Ok first.0) in
    let Q : Option Held → Type 0 = λ h. Answers takes another h (Ok first.0) in
    let moved : Answers takes another other_before.world.holds (Ok first.0) = subst Q (sym other_holds) ((one takes words another held also is (Ok first.0)).0 (subst P holds first.1.answers)) in
    let same : first.0 ≡ second.0 = ok_same {K = Refusal} first.0 second.0 (second.1.only (Ok first.0) moved) in
    (first.0, first.2, subst (λ (targets : List Target). Wrote takes another other_before other_now targets) (sym same) second.2)
