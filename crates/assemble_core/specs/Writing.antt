-- How the writing of the text of a batch ends.
use Rattle.std.specs.Prelude.{◌≡◌, ◌⊎◌, Ok, Err}
use Rattle.std.specs.declared.result.Result.{Result}
use Rattle.run_outputs.specs.Targets.{Target, World, after_target}
use Rattle.run_outputs.specs.Stops.{StopsAt}
use Rattle.diagnostics.specs.declared.ending.Ending as endings
use Rattle.diagnostics.specs.declared.ending.Ending.TheVariants as ends
use Rattle.batch_sources.specs.declared.ending.BatchEnding.{BatchEnding}
use Rattle.batch_sources.specs.declared.ending.BatchEnding.TheVariants.{Refused, ReadFault, WriteFault, NoMemory}

-- an end that a write may have
abbrev pub IsOfWriting : endings.Ending → Type 0
IsOfWriting (ends.Refused refusal) = ⊥
IsOfWriting (ends.ReadFault role) = ⊥
IsOfWriting (ends.WriteFault output) = Unit {0}
IsOfWriting ends.NoMemory = Unit {0}

-- it ends a batch so
abbrev pub EndsWriting : endings.Ending → BatchEnding → Type 0
EndsWriting (ends.Refused refusal) ending = ⊥
EndsWriting (ends.ReadFault role) ending = ⊥
EndsWriting (ends.WriteFault output) ending = ending ≡ WriteFault
EndsWriting ends.NoMemory ending = ending ≡ NoMemory

-- the text was written; its write failed; or memory ran out, before the write or in it
abbrev pub Writing : Target → World → World → Result Unit BatchEnding → Type 0
Writing target before now (Ok unit) = now ≡ after_target before target
Writing target before now (Err (Refused refusal)) = ⊥
Writing target before now (Err (ReadFault role)) = ⊥
Writing target before now (Err WriteFault) = StopsAt target before now (ends.WriteFault target.output)
Writing target before now (Err NoMemory) = (now ≡ before) ⊎ StopsAt target before now ends.NoMemory
