-- What a job comes to: the text that it writes and status 0, or the status and the line of its refusal.
use Rattle.std.specs.Prelude.{◌≡◌, ℕ, List, Some, Ok, Err}
use Rattle.std.specs.List.{flat_map}
use Rattle.std.specs.declared.result.Result.{Result}
use Rattle.fem_text.specs.Memory.{Named, held_of}
use Rattle.run_words.specs.Choice.{Choice}
use Rattle.run_words.specs.Jobs.{AskForJob}
use Rattle.run_outputs.specs.Targets.{Target}
use Rattle.run_targets.specs.Defines.{Defines}
use Rattle.diagnostics.specs.declared.refusal.Refusal.{Refusal}
use Rattle.diagnostics.specs.Lines.{status_of, refusal_line}

-- all that is written, one behind the other; a job writes one text
abbrev pub text_of : List Target → List ℕ
text_of targets = flat_map (λ (target : Target). target.text) targets

abbrev pub IsOutcomeOf : Result (List Target) Refusal → ℕ → List ℕ → Type 0
IsOutcomeOf (Ok targets) status text = (status ≡ 0) × (text ≡ text_of targets)
IsOutcomeOf (Err refusal) status text = (status ≡ status_of refusal) × (text ≡ refusal_line refusal)

-- the words ask for a job, and this is what it defines over these texts: its status, and its text or its line
pub record IsAnswer (words : List (List ℕ)) (texts : Named) (status : ℕ) (text : List ℕ) : Type 0 where
  pub choice : Choice
  pub asked : AskForJob words choice
  pub made : Result (List Target) Refusal
  pub defines : Defines (Some (held_of texts)) choice made
  pub outcome : IsOutcomeOf made status text

-- a job, and the texts over which it runs
pub record JobOver : Type 0 where
  pub words : List (List ℕ)
  pub texts : Named
