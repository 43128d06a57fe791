-- Two steps of work, by the results of the second.
use Rattle.std.proofs.Common.{◌≡◌, false, refl}
use Rattle.std.specs.Prelude.{Ok, Err, IfOk, IfErr}
use Rattle.std.specs.declared.result.Result.{Result}
use Rattle.diagnostics.specs.declared.refusal.Refusal.{Refusal}
use Rattle.diagnostics.specs.declared.ending.Role.{Role}
use Rattle.diagnostics.specs.declared.ending.Ending.{Ending}
use Rattle.diagnostics.specs.declared.ending.Ending.TheVariants.{Refused, ReadFault, WriteFault, NoMemory}
use Rattle.diagnostics.specs.Stages.{Then, stops, goes}
use Rattle.diagnostics.specs.Stages as stages
use Rattle.diagnostics.proofs.StageLaws.{ends_next}
use Rattle.run_texts.specs.Read.{EndsIn, is_read_fault}

module _ {X Y : Type 0} (first : Result X Refusal → Type 0) (next : X → Result Y Refusal → Type 0) where
  -- the first, which reads a text, ends both
  pub read_ends : (role : Role) (e : Ending) → EndsIn role first e → EndsIn role (Then first next) e
  read_ends role (Refused refusal) h = stops refusal h refl
  read_ends role (ReadFault other) h = h
  read_ends role (WriteFault output) h = h
  read_ends role NoMemory h = h

  -- what the second gives
  pub next_goes : {Z : Type 0} (f : Z → Y) (x : X) (result : Result Z Ending) → first (Ok x) → IfOk result (λ z. next x (Ok (f z))) → IfOk result (λ z. Then first next (Ok (f z)))
  next_goes f x (Ok z) is h = goes x is h
  next_goes f x (Err e) is h = tt

  -- how the second ends
  pub next_ends : {Z : Type 0} (x : X) (result : Result Z Ending) → first (Ok x) → IfErr result (stages.EndsIn (next x)) → IfErr result (stages.EndsIn (Then first next))
  next_ends x (Ok z) is h = tt
  next_ends x (Err e) is h = ends_next first next x e is h

  ends_behind : (role : Role) (x : X) (e : Ending) → first (Ok x) → stages.EndsIn (next x) e → EndsIn role (Then first next) e
  ends_behind role x (Refused refusal) is h = goes x is h
  ends_behind role x (ReadFault other) is h = absurd h
  ends_behind role x (WriteFault output) is h = h
  ends_behind role x NoMemory is h = h

  -- the same behind a read
  pub next_ends_reading : {Z : Type 0} (role : Role) (x : X) (result : Result Z Ending) → first (Ok x) → IfErr result (stages.EndsIn (next x)) → IfErr result (EndsIn role (Then first next))
  next_ends_reading role x (Ok z) is h = tt
  next_ends_reading role x (Err e) is h = ends_behind role x e is h

-- a step without a read has no read fault
pub no_read_fault : {X Z : Type 0} (step : Result X Refusal → Type 0) (result : Result Z Ending) → IfErr result (stages.EndsIn step) → is_read_fault result ≡ false
no_read_fault step (Ok value) h = refl
no_read_fault step (Err (Refused refusal)) h = refl
no_read_fault step (Err (ReadFault role)) h = absurd h
no_read_fault step (Err (WriteFault output)) h = refl
no_read_fault step (Err NoMemory) h = refl
