-- Laws of formats: the format of a mesh text doesn't matter where the mesh is the same.
use Rattle.std.specs.Prelude.{◌≡◌, ◌↔◌, ℕ, List, [], Bool, Some, Ok}
use Rattle.std.specs.declared.option.Option.{Option}
use Rattle.std.specs.declared.result.Result.{Result}
use Rattle.fem_fixed.specs.Mesh.{Mesh}
use Rattle.fem_text.specs.Outside.{Held}
use Rattle.run_words.specs.declared.options.Format.{Format}
use Rattle.run_words.specs.declared.options.Format.TheVariants as formats
use Rattle.run_words.specs.Choice.{Mode, vector_in, Choice, Source, texts, generated}
use Rattle.run_words.specs.Words.{AskFor}
use Rattle.run_texts.specs.Read.{MeshUnder}
use Rattle.run_outputs.specs.Targets.{Target}
use Rattle.diagnostics.specs.declared.refusal.Refusal.{Refusal}
use Rattle.assemble_core.specs.Answer.{Answers}
use Rattle.assemble_core.specs.Run.{Outside, IsRun}
use Rattle.answer_laws.specs.Runs.{Wrote}

-- a choice without the name and the format of its mesh text
abbrev pub without_mesh_text : Source → Source
without_mesh_text (texts mesh format problem) = texts [] formats.Ucd problem
without_mesh_text (generated n seed) = generated n seed

abbrev pub all_but_mesh_text : Choice → Choice
all_but_mesh_text choice = record choice { source = without_mesh_text choice.source }

-- two choices are the same, but for name and format of the mesh text
abbrev pub AreAlike : Choice → Choice → Type 0
AreAlike choice other = all_but_mesh_text choice ≡ all_but_mesh_text other

-- besides the mesh text, the text under this name is read
abbrev pub ReadsAlso : Source → List ℕ → Type 0
ReadsAlso (texts mesh format problem) name = problem ≡ Some name
ReadsAlso (generated n seed) name = ⊥

-- two stores hold the same under each such name, and under that of the vector
pub record HoldAlike (held other : Held) (choice : Choice) : Type 0 where
  pub source : (name : List ℕ) → ReadsAlso choice.source name → held name ≡ other name
  pub vector : (name : List ℕ) → vector_in choice.mode ≡ Some name → held name ≡ other name

-- words ask for this choice, and in its format the mesh text that the store holds is of this mesh
pub record AskOnMesh (words : List (List ℕ)) (held : Held) (choice : Choice) (mesh : Mesh) : Type 0 where
  pub name : List ℕ
  pub format : Format
  pub problem : Option (List ℕ)
  pub asks : AskFor words choice
  pub source_is : choice.source ≡ texts name format problem
  pub mesh_is : MeshUnder (Some held) name format (Ok mesh)

-- words that ask for the same, on one mesh that stands in texts of any formats, with the same other texts
pub record AskTheSame (words other : List (List ℕ)) (held also : Held) : Type 0 where
  pub mesh : Mesh
  pub choice : Choice
  pub other_choice : Choice
  pub first : AskOnMesh words held choice mesh
  pub second : AskOnMesh other also other_choice mesh
  pub alike : AreAlike choice other_choice
  pub hold : HoldAlike held also choice

-- such words have the same answer
abbrev pub FormatsHaveOneAnswer : Type 0
FormatsHaveOneAnswer =
    (takes : Mode → Bool) (words other : List (List ℕ)) (held also : Held) → AskTheSame words other held also → (answer : Result (List Target) Refusal) →
    Answers takes words (Some held) answer ↔ Answers takes other (Some also) answer

-- and runs of such words with status 0 write the same texts
abbrev pub FormatsWriteTheSame : Type 0
FormatsWriteTheSame =
    (takes : Mode → Bool) (words other : List (List ℕ)) (held also : Held) → AskTheSame words other held also → (before now other_before other_now : Outside) →
    before.world.holds ≡ Some held → other_before.world.holds ≡ Some also → IsRun takes words before now 0 → IsRun takes other other_before other_now 0 →
    (targets : List Target) × Wrote takes words before now targets × Wrote takes other other_before other_now targets
