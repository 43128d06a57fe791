-- How the reading of the texts of a source goes, and of the text of a vector behind them.
use Rattle.std.specs.Prelude.{◌≡◌, ℕ, ℤ, suc, ◌≤◌, List, Bool, true, false, Some, None, IsSome, Ok, Err}
use Rattle.std.specs.declared.option.Option.{Option}
use Rattle.std.specs.declared.result.Result.{Result}
use Rattle.fem_fixed.specs.Mesh.{Mesh}
use Rattle.fem_text.specs.declared.counts.Counts.{Counts}
use Rattle.fem_text.specs.Counts.{after_call, after_good}
use Rattle.fem_text.specs.Outside.{Held}
use Rattle.problem_read.specs.Entries.{ProblemParts}
use Rattle.run_words.specs.declared.options.Format.{Format}
use Rattle.run_words.specs.Choice.{Source, texts, generated, source_format}
use Rattle.diagnostics.specs.declared.refusal.Refusal.{Refusal}
use Rattle.diagnostics.specs.declared.ending.Role.{Role}
use Rattle.diagnostics.specs.declared.ending.Role.TheVariants as roles
use Rattle.diagnostics.specs.declared.ending.Ending.{Ending}
use Rattle.diagnostics.specs.declared.ending.Ending.TheVariants.{Refused, ReadFault, WriteFault, NoMemory}
use Rattle.run_texts.specs.Texts.{Texts, StandsUnder, ProblemStands, TextFor, MeshOf, ProblemOf, VectorOf, AreTextsOf, ReadTexts}

-- the text under a name
abbrev pub TextUnder : Role → Option Held → List ℕ → Result (List ℕ) Refusal → Type 0
TextUnder role holds name outcome = (known : Option (List ℕ)) × StandsUnder holds name known × TextFor role known outcome

-- the mesh of the text under a name, in a format
abbrev pub MeshUnder : Option Held → List ℕ → Format → Result Mesh Refusal → Type 0
MeshUnder holds name format outcome = (known : Option (List ℕ)) × StandsUnder holds name known × MeshOf format known outcome

-- the problem of the text under a name, if there is a name
abbrev pub ProblemUnder : Option Held → Option (List ℕ) → Result ProblemParts Refusal → Type 0
ProblemUnder holds name outcome = (known : Option (List ℕ)) × ProblemStands holds name known × ProblemOf known outcome

-- the values of the text of a vector under a name
abbrev pub VectorUnder : Option Held → List ℕ → Result (List ℤ) Refusal → Type 0
VectorUnder holds name outcome = (known : Option (List ℕ)) × StandsUnder holds name known × VectorOf known outcome

-- the mesh and the problem of a source
abbrev pub SourceRead : Option Held → Source → Result (Mesh × ProblemParts) Refusal → Type 0
SourceRead holds source outcome = (known : Texts) × AreTextsOf holds source known × ReadTexts (source_format source) known outcome

-- a step that reads a text ends so
abbrev pub EndsIn : Role → {X : Type 0} → (Result X Refusal → Type 0) → Ending → Type 0
EndsIn role step (Refused refusal) = step (Err refusal)
EndsIn role step (ReadFault other) = other ≡ role
EndsIn role step (WriteFault output) = ⊥
EndsIn role step NoMemory = Unit {0}

-- the reading of the problem ends so; a read is made where there is a name
abbrev pub EndsProblem : Option Held → Option (List ℕ) → Ending → Type 0
EndsProblem holds name (Refused refusal) = ProblemUnder holds name (Err refusal)
EndsProblem holds name (ReadFault other) = (other ≡ roles.Problem) × IsSome name
EndsProblem holds name (WriteFault output) = ⊥
EndsProblem holds name NoMemory = Unit {0}

-- this text is read for a source, and nothing is refused before
abbrev pub GoesOnTo : Option Held → Source → Role → Type 0
GoesOnTo holds (texts mesh format problem) roles.Mesh = Unit {0}
GoesOnTo holds (texts mesh format (Some problem)) roles.Problem = (parts : Mesh) × MeshUnder holds mesh format (Ok parts)
GoesOnTo holds (texts mesh format None) roles.Problem = ⊥
GoesOnTo holds (texts mesh format problem) roles.Vector = ⊥
GoesOnTo holds (generated n seed) role = ⊥

-- the reading of a source ends so
abbrev pub EndsReading : Option Held → Source → Ending → Type 0
EndsReading holds source (Refused refusal) = SourceRead holds source (Err refusal)
EndsReading holds source (ReadFault role) = GoesOnTo holds source role
EndsReading holds source (WriteFault output) = ⊥
EndsReading holds source NoMemory = Unit {0}

abbrev pub is_read_fault : {X : Type 0} → Result X Ending → Bool
is_read_fault (Ok value) = false
is_read_fault (Err (Refused refusal)) = false
is_read_fault (Err (ReadFault role)) = true
is_read_fault (Err (WriteFault output)) = false
is_read_fault (Err NoMemory) = false

-- how many texts stand under names
abbrev pub name_count : Option (List ℕ) → ℕ
name_count None = 0
name_count (Some name) = 1

abbrev pub names_in : Source → ℕ
names_in (texts mesh format problem) = suc (name_count problem)
names_in (generated n seed) = 0

-- how many reads come before that of this text
abbrev pub reads_before : Source → Role → ℕ
reads_before source roles.Mesh = 0
reads_before source roles.Problem = 1
reads_before source roles.Vector = names_in source

-- after the read under a name, which failed or didn't; none is made where there is no name
abbrev pub after_read : Option (List ℕ) → Bool → Counts → Counts
after_read None failed before = before
after_read (Some name) failed before = after_call failed before

-- some of so many reads were made, and all went well
abbrev pub SomeRead : ℕ → Counts → Counts → Type 0
SomeRead all before now = (k : ℕ) × (k ≤ all) × (now ≡ after_good k before)

-- so many reads are to be made, of a source and behind it: those that were made, by how their step ended. It is done, and all
-- went well; that of this text failed, behind those before it, which went well; or it stopped otherwise, and some went well.
abbrev pub ReadsMade : {X : Type 0} → ℕ → Source → Result X Ending → Counts → Counts → Type 0
ReadsMade all source (Ok value) before now = now ≡ after_good all before
ReadsMade all source (Err (ReadFault role)) before now = now ≡ after_call true (after_good (reads_before source role) before)
ReadsMade all source (Err (Refused refusal)) before now = SomeRead all before now
ReadsMade all source (Err (WriteFault output)) before now = SomeRead all before now
ReadsMade all source (Err NoMemory) before now = SomeRead all before now

-- the reads of a source alone
abbrev pub SourceReads : {X : Type 0} → Source → Result X Ending → Counts → Counts → Type 0
SourceReads source result before now = ReadsMade (names_in source) source result before now
