-- What the laws of answers are made of: each part of the work has one outcome at most, and one at least.
use Rattle.std.specs.Prelude.{◌≡◌, ℕ, ℤ, List, Bool, Some, None, Ok}
use Rattle.std.specs.declared.option.Option.{Option}
use Rattle.std.specs.declared.result.Result.{Result}
use Rattle.fem_fixed.specs.Mesh.{Mesh}
use Rattle.fem_text.specs.Outside.{Held}
use Rattle.problem_read.specs.Entries.{ProblemParts}
use Rattle.mesh_loop.specs.Setup.{MeshProblem}
use Rattle.run_words.specs.declared.options.SystemMode.{SystemMode}
use Rattle.run_words.specs.declared.options.Format.{Format}
use Rattle.run_words.specs.Choice.{Mode, vector_in, Choice, Source}
use Rattle.run_outputs.specs.Targets.{Target}
use Rattle.run_texts.specs.Texts.{Texts, StandsUnder, AreTextsOf, MeshOf, VectorOf}
use Rattle.run_texts.specs.Read.{SourceRead, VectorUnder}
use Rattle.diagnostics.specs.declared.refusal.Refusal.{Refusal}
use Rattle.diagnostics.specs.Stages.{HasOneOutcome}
use Rattle.system_texts.specs.Texts.{SystemTexts}
use Rattle.system_laws.specs.Same.{IsSameSystem}
use Rattle.assemble_core.specs.Answer.{Asked, Answers}

-- the texts of a source are known: no two pairs of texts can be the ones that stand there
abbrev pub AreKnown : Option Held → Source → Type 0
AreKnown holds source = (a b : Texts) → AreTextsOf holds source a → AreTextsOf holds source b → a ≡ b

-- and so is that of a vector, where there is one
abbrev pub IsKnown : Option Held → Option (List ℕ) → Type 0
IsKnown holds None = Unit {0}
IsKnown holds (Some name) = (a b : Option (List ℕ)) → StandsUnder holds name a → StandsUnder holds name b → a ≡ b

-- all texts of a choice are known
pub record AllAreKnown (holds : Option Held) (choice : Choice) : Type 0 where
  pub source : AreKnown holds choice.source
  pub vector : IsKnown holds (vector_in choice.mode)

-- the text of a vector has one list of values, or one refusal
abbrev pub HaveOneVector : Type 0
HaveOneVector = (known : Option (List ℕ)) → HasOneOutcome (VectorOf known)

-- a vector under a name has values, or a refusal
abbrev pub HaveAVector : Type 0
HaveAVector = (holds : Option Held) (name : List ℕ) → (outcome : Result (List ℤ) Refusal) × VectorUnder holds name outcome

-- a mesh text in a format has one mesh, or one refusal
abbrev pub HaveOneMesh : Type 0
HaveOneMesh = (format : Format) (known : Option (List ℕ)) → HasOneOutcome (MeshOf format known)

-- a source whose texts are known has one mesh and one problem, or one refusal
abbrev pub HaveOneReading : Type 0
HaveOneReading = (holds : Option Held) (source : Source) → AreKnown holds source → HasOneOutcome (SourceRead holds source)

-- set-ups of one system have the same texts, or the same refusal
abbrev pub HaveOneListOfTexts : Type 0
HaveOneListOfTexts =
    (mode : SystemMode) (choice : Choice) (s t : MeshProblem) → IsSameSystem s t → (a b : Result (List Target) Refusal) → SystemTexts mode choice s a → SystemTexts mode choice t b → a ≡ b

-- words have one answer where the texts of what they ask for are known
abbrev pub HaveOneAnswerWhereKnown : Type 0
HaveOneAnswerWhereKnown =
    (takes : Mode → Bool) (words : List (List ℕ)) (holds : Option Held) → ((choice : Choice) → Asked takes words (Ok choice) → AllAreKnown holds choice) →
    HasOneOutcome (Answers takes words holds)

-- a source has a mesh and a problem, or a refusal
abbrev pub HaveAReading : Type 0
HaveAReading = (holds : Option Held) (source : Source) → (outcome : Result (Mesh × ProblemParts) Refusal) × SourceRead holds source outcome

-- a set-up has texts, or a refusal
abbrev pub HaveAListOfTexts : Type 0
HaveAListOfTexts = (mode : SystemMode) (choice : Choice) (s : MeshProblem) → (outcome : Result (List Target) Refusal) × SystemTexts mode choice s outcome
