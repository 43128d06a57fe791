-- Steps of work, one after another: each gives a value, or a refusal that ends all.
use Rattle.std.specs.Prelude.{◌≡◌, Ok, Err}
use Rattle.std.specs.declared.result.Result.{Result}
use Rattle.diagnostics.specs.declared.refusal.Refusal.{Refusal}
use Rattle.diagnostics.specs.declared.ending.Ending.{Ending}
use Rattle.diagnostics.specs.declared.ending.Ending.TheVariants.{Refused, ReadFault, WriteFault, NoMemory}

-- the first step is refused, or gives a value with which the next goes on
pub data Then {X Y : Type 0} (first : Result X Refusal → Type 0) (next : X → Result Y Refusal → Type 0) (outcome : Result Y Refusal) : Type 0 where
  stops : (refusal : Refusal) → first (Err refusal) → outcome ≡ Err refusal → Then first next outcome
  goes : (value : X) → first (Ok value) → next value outcome → Then first next outcome

-- a step has one outcome at most
abbrev pub HasOneOutcome : {X : Type 0} → (Result X Refusal → Type 0) → Type 0
HasOneOutcome step = (a b : Result _ Refusal) → step a → step b → a ≡ b

-- there is a fault of this kind, and it has this refusal
abbrev pub Says : {F : Type 0} → (F → Ending) → (F → Type 0) → Refusal → Type 0
Says ending_of has refusal = (fault : _) × has fault × (ending_of fault ≡ Refused refusal)

-- an ending of a step: a refusal that it has, or want of memory
abbrev pub EndsIn : {X : Type 0} → (Result X Refusal → Type 0) → Ending → Type 0
EndsIn step (Refused refusal) = step (Err refusal)
EndsIn step (ReadFault role) = ⊥
EndsIn step (WriteFault output) = ⊥
EndsIn step NoMemory = Unit {0}
