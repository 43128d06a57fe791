-- The reads that a choice names.
use Rattle.std.specs.Prelude.{ℕ, ◌+◌, IsSome, Ok, Err}
use Rattle.std.specs.declared.option.Option.{Option}
use Rattle.std.specs.declared.result.Result.{Result}
use Rattle.fem_fixed.specs.Mesh.{Mesh}
use Rattle.fem_text.specs.declared.counts.Counts.{Counts}
use Rattle.fem_text.specs.Outside.{Held}
use Rattle.problem_read.specs.Entries.{ProblemParts}
use Rattle.run_words.specs.Choice.{Choice, vector_in}
use Rattle.run_texts.specs.Read.{SourceRead, GoesOnTo, ReadsMade, names_in, name_count}
use Rattle.diagnostics.specs.declared.ending.Role.{Role}
use Rattle.diagnostics.specs.declared.ending.Role.TheVariants as roles
use Rattle.diagnostics.specs.declared.ending.Ending.{Ending}

-- how many there are: those of its source, and behind them that of its vector
abbrev pub reads_in : Choice → ℕ
reads_in choice = names_in choice.source + name_count (vector_in choice.mode)

-- this text is read, and nothing is refused before
abbrev pub ComesTo : Option Held → Choice → Role → Type 0
ComesTo holds choice roles.Mesh = GoesOnTo holds choice.source roles.Mesh
ComesTo holds choice roles.Problem = GoesOnTo holds choice.source roles.Problem
ComesTo holds choice roles.Vector = IsSome (vector_in choice.mode) × ((read : Mesh × ProblemParts) × SourceRead holds choice.source (Ok read))

-- the reads that were made, by how their step ended
abbrev pub ChoiceReads : {X : Type 0} → Choice → Result X Ending → Counts → Counts → Type 0
ChoiceReads choice result before now = ReadsMade (reads_in choice) choice.source result before now
