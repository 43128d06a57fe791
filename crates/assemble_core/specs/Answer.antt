-- The answer of words over what a store holds: the texts that are written, or a refusal.
use Rattle.std.specs.Prelude.{◌≡◌, ℕ, List, Bool, true, false, Ok, Err}
use Rattle.std.specs.declared.option.Option.{Option}
use Rattle.std.specs.declared.result.Result.{Result}
use Rattle.fem_text.specs.Outside.{Held}
use Rattle.run_words.specs.Choice.{Mode, Choice}
use Rattle.run_words.specs.Words.{AskFor}
use Rattle.run_outputs.specs.Targets.{Target}
use Rattle.run_targets.specs.Defines.{Defines}
use Rattle.diagnostics.specs.declared.refusal.Refusal.{Refusal}
use Rattle.diagnostics.specs.declared.refusal.Refusal.TheVariants.{Words}
use Rattle.diagnostics.specs.Stages.{Then}

-- words that ask for nothing in a mode that is taken
abbrev pub AreRefused : (Mode → Bool) → List (List ℕ) → Type 0
AreRefused takes words = (choice : Choice) → AskFor words choice → takes choice.mode ≡ false

-- what the words ask for, in a mode that is taken, or that they are refused
abbrev pub Asked : (Mode → Bool) → List (List ℕ) → Result Choice Refusal → Type 0
Asked takes words (Ok choice) = AskFor words choice × (takes choice.mode ≡ true)
Asked takes words (Err refusal) = AreRefused takes words × (refusal ≡ Words)

-- what the words ask for, and then what that defines
abbrev pub Answers : (Mode → Bool) → List (List ℕ) → Option Held → Result (List Target) Refusal → Type 0
Answers takes words holds = Then (Asked takes words) (Defines holds)
