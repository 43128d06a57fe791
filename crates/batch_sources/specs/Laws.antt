-- Laws of the reading of a batch's texts: it has an outcome over each store, and one alone where the store tells what it holds.
use Rattle.std.specs.Prelude.{◌≡◌, ℕ, List, Some, Ok, Err}
use Rattle.std.specs.declared.option.Option.{Option}
use Rattle.std.specs.declared.result.Result.{Result}
use Rattle.fem_text.specs.Outside.{Held}
use Rattle.fem_text.specs.Memory.{Named}
use Rattle.batch_sources.specs.declared.ending.BatchRefusal.{BatchRefusal}
use Rattle.batch_sources.specs.Sources.{AreSources, RefusesSources}

-- the jobs of the batch under a name and the texts of all names that it gives, or the refusal of its texts
abbrev pub SourcesRead : Option Held → List ℕ → Result (List (List (List ℕ)) × Named) BatchRefusal → Type 0
SourcesRead holds name (Ok read) = AreSources holds name read.0 read.1
SourcesRead holds name (Err refusal) = RefusesSources holds name refusal

-- over a store that tells what it holds, two outcomes are the same
abbrev pub HaveOneReading : Type 0
HaveOneReading =
    (held : Held) (name : List ℕ) (a b : Result (List (List (List ℕ)) × Named) BatchRefusal) → SourcesRead (Some held) name a → SourcesRead (Some held) name b → a ≡ b

-- over each store there is an outcome
abbrev pub HaveAReading : Type 0
HaveAReading = (holds : Option Held) (name : List ℕ) → (outcome : Result (List (List (List ℕ)) × Named) BatchRefusal) × SourcesRead holds name outcome
