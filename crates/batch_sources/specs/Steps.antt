-- The steps of the reading of a batch's texts, and how each ends.
use Rattle.std.specs.Prelude.{◌≡◌, ◌⊎◌, ℕ, List, Some}
use Rattle.std.specs.declared.option.Option.{Option}
use Rattle.fem_text.specs.declared.counts.Counts.{Counts}
use Rattle.fem_text.specs.Outside.{Held}
use Rattle.fem_text.specs.Memory.{Named, held_of}
use Rattle.batch_read.specs.declared.fault.BatchKind.{BatchKind}
use Rattle.batch_read.specs.declared.fault.BatchKind.TheVariants as kinds
use Rattle.batch_read.specs.Batch.{BatchText, BatchFaultAt}
use Rattle.batch_texts.specs.declared.shelf.NameFault.{NameFault}
use Rattle.batch_texts.specs.declared.shelf.NameFault.TheVariants as faults
use Rattle.batch_texts.specs.Names.{read_names, ShelvesNames, StopsAtJob}
use Rattle.batch_sources.specs.declared.ending.BatchRole.{BatchRole}
use Rattle.batch_sources.specs.declared.ending.BatchRole.TheVariants.{Job}
use Rattle.batch_sources.specs.declared.ending.BatchRefusal.TheVariants.{Text, Count, Size, Absent}
use Rattle.batch_sources.specs.declared.ending.BatchEnding.{BatchEnding}
use Rattle.batch_sources.specs.declared.ending.BatchEnding.TheVariants.{Refused, ReadFault, NoMemory}
use Rattle.batch_sources.specs.Reads.{AreReads}

-- how a batch ends that has no text for this cause
abbrev pub name_ending : BatchRole → NameFault → BatchEnding
name_ending role faults.Absent = Refused (Absent role)
name_ending role faults.Size = Refused Size
name_ending role faults.Failed = ReadFault role
name_ending role faults.NoMemory = NoMemory

-- how a batch ends whose text has this fault
abbrev pub line_ending : BatchKind → ℕ → BatchEnding
line_ending kinds.Words line = Refused (Text line)
line_ending kinds.Count line = Refused (Count line)
line_ending kinds.NoMemory line = NoMemory

-- the text under a name has these jobs
abbrev pub HasJobs : Named → List ℕ → List (List (List ℕ)) → Type 0
HasJobs texts name jobs = (text : List ℕ) × (held_of texts name ≡ Some text) × BatchText text jobs

-- it has a fault
pub record HasLineFault (texts : Named) (name : List ℕ) (kind : BatchKind) (line : ℕ) : Type 0 where
  pub text : List ℕ
  pub text_is : held_of texts name ≡ Some text
  pub fault : BatchFaultAt text kind line

abbrev pub EndsText : Named → List ℕ → BatchEnding → Type 0
EndsText texts name ending = (ending ≡ NoMemory) ⊎ ((kind : BatchKind) × (line : ℕ) × HasLineFault texts name kind line × (ending ≡ line_ending kind line))

-- the texts that the jobs name were read
pub record ReadsJobs (holds : Option Held) (jobs : List (List (List ℕ))) (old new : Named) (before now : Counts) : Type 0 where
  pub reads : List (ℕ × List ℕ)
  pub reads_are : AreReads jobs reads
  pub shelves : ShelvesNames holds (read_names reads) old new before now

-- one of them isn't to be had
pub record StopsJobs (holds : Option Held) (jobs : List (List (List ℕ))) (old : Named) (before now : Counts) (job : ℕ) (fault : NameFault) : Type 0 where
  pub reads : List (ℕ × List ℕ)
  pub reads_are : AreReads jobs reads
  pub new : Named
  pub stops : StopsAtJob holds reads old new before now job fault

abbrev pub EndsJobs : Option Held → List (List (List ℕ)) → Named → Counts → Counts → BatchEnding → Type 0
EndsJobs holds jobs old before now ending =
    ((ending ≡ NoMemory) × (now ≡ before)) ⊎ ((job : ℕ) × (fault : NameFault) × StopsJobs holds jobs old before now job fault × (ending ≡ name_ending (Job job) fault))
