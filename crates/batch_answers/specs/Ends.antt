-- How a job ends that writes nothing.
use Rattle.std.specs.Prelude.{◌≡◌, ℕ, List}
use Rattle.diagnostics.specs.declared.refusal.Refusal.{Refusal}
use Rattle.diagnostics.specs.declared.ending.Ending.{Ending}
use Rattle.diagnostics.specs.declared.ending.Ending.TheVariants.{Refused, ReadFault, WriteFault, NoMemory}
use Rattle.diagnostics.specs.Lines.{status_of, refusal_line}

-- an end that needs no call that fails
abbrev pub IsOfTexts : Ending → Type 0
IsOfTexts (Refused refusal) = Unit {0}
IsOfTexts (ReadFault role) = ⊥
IsOfTexts (WriteFault output) = ⊥
IsOfTexts NoMemory = Unit {0}

-- the end is a refusal, with this status and this line
abbrev pub IsRefusalOf : Ending → ℕ → List ℕ → Type 0
IsRefusalOf ending status text = (refusal : Refusal) × (ending ≡ Refused refusal) × (status ≡ status_of refusal) × (text ≡ refusal_line refusal)
