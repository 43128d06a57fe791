-- The words of a job of a batch.
use Rattle.std.specs.Prelude.{◌≡◌, ◌⊎◌, ℕ, List, Bool, true, false, ◌&&◌, ◌||◌, not, is_some, codes}
use Rattle.std.specs.Str.{bytes_eq}
use Rattle.run_words.specs.declared.name.Name.{Name}
use Rattle.run_words.specs.declared.name.Name.TheVariants as names
use Rattle.run_words.specs.declared.options.SystemMode.TheVariants as systems
use Rattle.run_words.specs.Settings.{Given, given_by}
use Rattle.run_words.specs.Choice.{Mode, of_system, Source, texts, generated, Choice}
use Rattle.run_words.specs.Words.{AskFor, is_standard}

-- the options that a job may have, beside `--summary`
abbrev pub is_job_option : Name → Bool
is_job_option names.Mode = true
is_job_option names.Mesh = true
is_job_option names.Problem = true
is_job_option names.Format = true
is_job_option names.Digits = true
is_job_option names.Faces = true
is_job_option names.Degree = true
is_job_option _ = false

-- the modes that a job may have
abbrev pub is_job_mode : Mode → Bool
is_job_mode (of_system systems.Serial) = true
is_job_mode (of_system systems.Pattern) = true
is_job_mode (of_system systems.Colors) = true
is_job_mode _ = false

-- an option stands that no job may have
abbrev pub is_other : Given → Name → Bool
is_other given name = is_some (given.value name) && not (is_job_option name)

-- one of the texts is standard input
abbrev pub reads_input : Source → Bool
reads_input (texts mesh format problem) = bytes_eq mesh (codes "-") || is_standard problem
reads_input (generated n seed) = false

-- the words ask for this, by the options and in a mode of a job, over texts that stand under names
pub record AskForJob (words : List (List ℕ)) (choice : Choice) : Type 0 where
  pub asked : AskFor words choice
  pub options : (name : Name) → is_other (given_by asked.settings) name ≡ false
  pub mode : is_job_mode choice.mode ≡ true
  pub named : reads_input choice.source ≡ false

-- the words ask for no job
abbrev pub AskForNoJob : List (List ℕ) → Type 0
AskForNoJob words = (choice : Choice) → AskForJob words choice → ⊥

-- the words ask for a job, or for none
abbrev pub AskForJobOrNot : List (List ℕ) → Type 0
AskForJobOrNot words = ((choice : Choice) × AskForJob words choice) ⊎ AskForNoJob words
