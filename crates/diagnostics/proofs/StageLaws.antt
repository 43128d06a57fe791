-- Steps of work, one after another.
use Rattle.std.proofs.Common.{refl}
use Rattle.std.specs.Prelude.{Ok}
use Rattle.std.specs.declared.result.Result.{Result}
use Rattle.diagnostics.specs.declared.refusal.Refusal.{Refusal}
use Rattle.diagnostics.specs.declared.ending.Ending.{Ending}
use Rattle.diagnostics.specs.declared.ending.Ending.TheVariants.{Refused, ReadFault, WriteFault, NoMemory}
use Rattle.diagnostics.specs.Stages.{Then, stops, goes, EndsIn}

-- where the first step ends, so do the two
pub ends_first : {X Y : Type 0} (first : Result X Refusal → Type 0) (next : X → Result Y Refusal → Type 0) (e : Ending) → EndsIn first e → EndsIn (Then first next) e
ends_first first next (Refused refusal) h = stops refusal h refl
ends_first first next (ReadFault role) h = h
ends_first first next (WriteFault output) h = h
ends_first first next NoMemory h = h

-- and where the next ends after the first
pub ends_next : {X Y : Type 0} (first : Result X Refusal → Type 0) (next : X → Result Y Refusal → Type 0) (value : X) (e : Ending) → first (Ok value) → EndsIn (next value) e →
    EndsIn (Then first next) e
ends_next first next value (Refused refusal) f h = goes value f h
ends_next first next value (ReadFault role) f h = h
ends_next first next value (WriteFault output) f h = h
ends_next first next value NoMemory f h = h

-- both go well
pub goes_well : {X Y : Type 0} (first : Result X Refusal → Type 0) (next : X → Result Y Refusal → Type 0) (value : X) (outcome : Y) → first (Ok value) → next value (Ok outcome) → Then first next (Ok outcome)
goes_well first next value outcome f h = goes value f h
