-- The texts of a batch, and how their reading ends.
use Rattle.std.specs.Prelude.{◌≡◌, ℕ, suc, List, [], ◌∷◌, ◌++◌, length, true, Some}
use Rattle.std.specs.declared.option.Option.{Option}
use Rattle.fem_text.specs.declared.counts.Counts.{Counts}
use Rattle.fem_text.specs.Counts.{AllWell, after_call, after_good}
use Rattle.fem_text.specs.Outside.{Held}
use Rattle.fem_text.specs.Memory.{Named, held_of}
use Rattle.run_words.specs.Choice.{Choice}
use Rattle.batch_read.specs.declared.fault.BatchKind.{BatchKind}
use Rattle.batch_read.specs.declared.fault.BatchKind.TheVariants as kinds
use Rattle.batch_read.specs.Batch.{BatchText, BatchFaultAt}
use Rattle.batch_texts.specs.declared.shelf.NameFault.{NameFault}
use Rattle.batch_texts.specs.declared.shelf.NameFault.TheVariants as faults
use Rattle.batch_texts.specs.Shelf.{IsNameFault}
use Rattle.batch_texts.specs.Names.{AreTextsOf, read_names}
use Rattle.batch_sources.specs.declared.ending.BatchRole.{BatchRole}
use Rattle.batch_sources.specs.declared.ending.BatchRole.TheVariants.{Batch, Job}
use Rattle.batch_sources.specs.declared.ending.BatchRefusal.{BatchRefusal}
use Rattle.batch_sources.specs.declared.ending.BatchRefusal.TheVariants.{Text, Count, Size, Absent}
use Rattle.batch_sources.specs.declared.ending.BatchEnding.{BatchEnding}
use Rattle.batch_sources.specs.declared.ending.BatchEnding.TheVariants.{Refused, ReadFault, WriteFault, NoMemory}
use Rattle.batch_sources.specs.Reads.{AskForAll, job_reads}

-- these are the jobs of a batch text, and what they ask for
pub record AreJobs (text : List ℕ) (jobs : List (List (List ℕ))) (choices : List Choice) : Type 0 where
  pub jobs_are : BatchText text jobs
  pub asks : AskForAll jobs choices

-- these are the texts of the batch text's name and of these reads, and this one is the batch text
pub record HasRead (holds : Option Held) (name text : List ℕ) (reads : List (ℕ × List ℕ)) (texts : Named) : Type 0 where
  pub texts_are : AreTextsOf holds (name ∷ read_names reads) texts
  pub own : held_of texts name ≡ Some text

-- the jobs of the batch text under a name, and the texts of all names that it gives, its own among them
pub record AreSources (holds : Option Held) (name : List ℕ) (jobs : List (List (List ℕ))) (texts : Named) : Type 0 where
  pub text : List ℕ
  pub choices : List Choice
  pub jobs_are : AreJobs text jobs choices
  pub texts_are : HasRead holds name text (job_reads choices) texts

-- a read of a job is the next one, behind these texts
pub record IsNextOfJob (holds : Option Held) (name : List ℕ) (job : ℕ) (wanted : List ℕ) (before : Named) : Type 0 where
  pub text : List ℕ
  pub jobs : List (List (List ℕ))
  pub choices : List Choice
  pub jobs_are : AreJobs text jobs choices
  pub front : List (ℕ × List ℕ)
  pub behind : List (ℕ × List ℕ)
  pub reads_are : job_reads choices ≡ front ++ (job, wanted) ∷ behind
  pub texts_are : HasRead holds name text front before

-- the read of a text under this name is the next one, behind these texts: that of the batch text is the first
abbrev pub IsNextRead : Option Held → List ℕ → BatchRole → List ℕ → Named → Type 0
IsNextRead holds name Batch wanted before = (wanted ≡ name) × (before ≡ [])
IsNextRead holds name (Job job) wanted before = IsNextOfJob holds name job wanted before

-- at the read of this text the batch stops for this cause, behind these texts
abbrev pub StopsAtRead : Option Held → List ℕ → BatchRole → NameFault → Named → Type 0
StopsAtRead holds name role fault before = (wanted : List ℕ) × IsNextRead holds name role wanted before × IsNameFault holds wanted before fault

-- the batch text has this fault
pub record HasFault (holds : Option Held) (name : List ℕ) (kind : BatchKind) (line : ℕ) : Type 0 where
  pub text : List ℕ
  pub texts : Named
  pub texts_are : HasRead holds name text [] texts
  pub fault : BatchFaultAt text kind line

-- the texts of a batch are refused
abbrev pub RefusesSources : Option Held → List ℕ → BatchRefusal → Type 0
RefusesSources holds name (Text line) = HasFault holds name kinds.Words line
RefusesSources holds name (Count line) = HasFault holds name kinds.Count line
RefusesSources holds name Size = (role : BatchRole) × (before : Named) × StopsAtRead holds name role faults.Size before
RefusesSources holds name (Absent role) = (before : Named) × StopsAtRead holds name role faults.Absent before

-- how many reads were made where the texts are refused so: that of the batch text, or one more than there were texts
abbrev pub reads_made : (holds : Option Held) (name : List ℕ) (refusal : BatchRefusal) → RefusesSources holds name refusal → ℕ
reads_made holds name (Text line) is = 1
reads_made holds name (Count line) is = 1
reads_made holds name Size is = suc (length is.1)
reads_made holds name (Absent role) is = suc (length is.0)

-- the reading of a batch's texts ends so: they are refused, and so many reads went well; the read of this text failed, and each
-- before it went well; or memory ran out
abbrev pub EndsSources : Option Held → List ℕ → Counts → Counts → BatchEnding → Type 0
EndsSources holds name before now (Refused refusal) = (is : RefusesSources holds name refusal) × (now ≡ after_good (reads_made holds name refusal is) before)
EndsSources holds name before now (ReadFault role) =
    (texts : Named) × StopsAtRead holds name role faults.Failed texts × (now ≡ after_call true (after_good (length texts) before))
EndsSources holds name before now WriteFault = ⊥
EndsSources holds name before now NoMemory = AllWell before now
