-- How the making of the texts of a choice ends.
use Rattle.std.specs.Prelude.{◌≡◌, IsSome, Err}
use Rattle.std.specs.declared.option.Option.{Option}
use Rattle.fem_text.specs.Outside.{Held}
use Rattle.fem_fixed.specs.Mesh.{Mesh}
use Rattle.problem_read.specs.Entries.{ProblemParts}
use Rattle.run_words.specs.Choice.{Choice, vector_in}
use Rattle.diagnostics.specs.declared.ending.Role.TheVariants as roles
use Rattle.diagnostics.specs.declared.ending.Ending.{Ending}
use Rattle.diagnostics.specs.declared.ending.Ending.TheVariants.{Refused, ReadFault, WriteFault, NoMemory}
use Rattle.run_targets.specs.Defines.{Made, Defines}
use Rattle.run_targets.specs.Reads.{ComesTo}

-- a refusal that the choice defines, a read that failed, or want of memory
abbrev pub EndsDefining : Option Held → Choice → Ending → Type 0
EndsDefining holds choice (Refused refusal) = Defines holds choice (Err refusal)
EndsDefining holds choice (ReadFault role) = ComesTo holds choice role
EndsDefining holds choice (WriteFault output) = ⊥
EndsDefining holds choice NoMemory = Unit {0}

-- the same, behind the reads of the source
abbrev pub EndsMaking : Option Held → Choice → (Mesh × ProblemParts) → Ending → Type 0
EndsMaking holds choice read (Refused refusal) = Made holds choice.mode choice read (Err refusal)
EndsMaking holds choice read (ReadFault role) = (role ≡ roles.Vector) × IsSome (vector_in choice.mode)
EndsMaking holds choice read (WriteFault output) = ⊥
EndsMaking holds choice read NoMemory = Unit {0}
