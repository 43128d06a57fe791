-- Laws of runs: what a run does with the answer of its words, and what its status tells of that answer.
use Rattle.std.specs.Prelude.{◌≡◌, ◌≢◌, ◌⊎◌, ℕ, ◌<◌, ◌-◌, ◌^◌, List, Bool, false, Some, None, Ok, Err}
use Rattle.std.specs.declared.option.Option.{Option}
use Rattle.std.specs.declared.result.Result.{Result}
use Rattle.fem_text.specs.Outside.{Held}
use Rattle.run_words.specs.Choice.{Mode, Choice}
use Rattle.run_outputs.specs.Targets.{Target, after_targets}
use Rattle.diagnostics.specs.declared.refusal.Refusal.{Refusal}
use Rattle.diagnostics.specs.Lines.{status_of, refusal_line, TookLine}
use Rattle.assemble_core.specs.Answer.{Asked, Answers, AreRefused}
use Rattle.assemble_core.specs.Run.{Outside, IsRun, IsUntouched, after_reads, after_choice}
use Rattle.answer_laws.specs.Laws.{ReadNothing}

-- the texts of what the words ask for are told: the store tells what it holds, or none of them is read
abbrev pub AreTold : (Mode → Bool) → List (List ℕ) → Option Held → Type 0
AreTold takes words (Some held) = Unit {0}
AreTold takes words None = ReadNothing takes words

-- the words have this answer and no other
pub record IsTheAnswer (takes : Mode → Bool) (words : List (List ℕ)) (holds : Option Held) (answer : Result (List Target) Refusal) : Type 0 where
  pub answers : Answers takes words holds answer
  pub only : (other : Result (List Target) Refusal) → Answers takes words holds other → other ≡ answer

-- after all reads that the words name these texts were written and nothing else, no call failed, and nothing was put to the
-- diagnostics
pub record Wrote (takes : Mode → Bool) (words : List (List ℕ)) (before now : Outside) (targets : List Target) : Type 0 where
  pub choice : Choice
  pub asked : Asked takes words (Ok choice)
  pub written : now.world ≡ after_targets (after_choice before.world choice) targets
  pub told : now.told ≡ before.told
  pub tells : now.tells ≡ before.tells

-- nothing was written, and the diagnostics took the line of this refusal, or a prefix of it
pub record RefusedWith (takes : Mode → Bool) (words : List (List ℕ)) (before now : Outside) (refusal : Refusal) : Type 0 where
  pub untouched : IsUntouched takes words before.world now.world
  pub line : TookLine before.told now.told before.tells now.tells (refusal_line refusal)

-- the status of an answer: 0 for texts
abbrev pub answer_status : Result (List Target) Refusal → ℕ
answer_status (Ok targets) = 0
answer_status (Err refusal) = status_of refusal

-- the status of a run that a read stopped, or want of memory
abbrev pub IsOfReads : ℕ → Type 0
IsOfReads status = (status ≡ 10) ⊎ (status ≡ 12)

-- the status of a run that a read, a write or a put stopped, or want of memory
abbrev pub IsOfOutside : ℕ → Type 0
IsOfOutside status = (status ≡ 11) ⊎ IsOfReads status

-- where the words define texts, a run writes those with status 0, or is stopped from outside
abbrev pub DefinedTextsAreWritten : Type 0
DefinedTextsAreWritten =
    (takes : Mode → Bool) (words : List (List ℕ)) (before now : Outside) (status : ℕ) (targets : List Target) → AreTold takes words before.world.holds →
    Answers takes words before.world.holds (Ok targets) → IsRun takes words before now status →
    ((status ≡ 0) × Wrote takes words before now targets) ⊎ IsOfOutside status

-- where they define a refusal, a run writes nothing, and tells that refusal with its status, or is stopped in its reads
abbrev pub DefinedRefusalsAreTold : Type 0
DefinedRefusalsAreTold =
    (takes : Mode → Bool) (words : List (List ℕ)) (before now : Outside) (status : ℕ) (refusal : Refusal) → AreTold takes words before.world.holds →
    Answers takes words before.world.holds (Err refusal) → IsRun takes words before now status →
    (now.world ≡ after_reads before.world now.world.store) × (((status ≡ status_of refusal) × RefusedWith takes words before now refusal) ⊎ IsOfReads status)

-- status 0 tells that the one answer of the words is the texts that were written
abbrev pub ZeroTellsTheTexts : Type 0
ZeroTellsTheTexts =
    (takes : Mode → Bool) (words : List (List ℕ)) (before now : Outside) → AreTold takes words before.world.holds → IsRun takes words before now 0 →
    (targets : List Target) × IsTheAnswer takes words before.world.holds (Ok targets) × Wrote takes words before now targets

-- each other status that is not of the outside tells that their one answer is a refusal with this status, whose line was told
abbrev pub OthersTellTheRefusal : Type 0
OthersTellTheRefusal =
    (takes : Mode → Bool) (words : List (List ℕ)) (before now : Outside) (status : ℕ) → AreTold takes words before.world.holds → IsRun takes words before now status →
    status ≢ 0 → ¬ IsOfOutside status →
    (refusal : Refusal) × IsTheAnswer takes words before.world.holds (Err refusal) × (status ≡ status_of refusal) × RefusedWith takes words before now refusal

-- of the store and of standard output the last call did not fail
abbrev pub NoneFailedLast : Outside → Type 0
NoneFailedLast now = (now.world.store.failed_last ≡ false) × (now.world.out.failed_last ≡ false)

-- where no last call failed, no read and no write stopped a run
abbrev pub FaultsStopRuns : Type 0
FaultsStopRuns = (takes : Mode → Bool) (words : List (List ℕ)) (before now : Outside) (status : ℕ) → NoneFailedLast now → IsRun takes words before now status → (status ≢ 10) × (status ≢ 11)

-- of the store and of standard output no count of faults rose, and none stands at the end of its type
pub record NoCountRose (before now : Outside) : Type 0 where
  pub store : now.world.store.faults ≡ before.world.store.faults
  pub out : now.world.out.faults ≡ before.world.out.faults
  pub store_may : before.world.store.faults < 2 ^ 64 - 1
  pub out_may : before.world.out.faults < 2 ^ 64 - 1

-- where no count rose, the status is that of the answer, with 0 for texts, or memory ran out
abbrev pub RunsAreComplete : Type 0
RunsAreComplete =
    (takes : Mode → Bool) (words : List (List ℕ)) (before now : Outside) (status : ℕ) (answer : Result (List Target) Refusal) → AreTold takes words before.world.holds →
    Answers takes words before.world.holds answer → NoCountRose before now → IsRun takes words before now status → (status ≡ answer_status answer) ⊎ (status ≡ 12)

-- the status is 2 exactly where the words are refused, whatever the store tells
abbrev pub RefusedWordsHaveStatus2 : Type 0
RefusedWordsHaveStatus2 =
    (takes : Mode → Bool) (words : List (List ℕ)) (before now : Outside) (status : ℕ) → IsRun takes words before now status →
    (status ≡ 2 → AreRefused takes words) × (AreRefused takes words → status ≡ 2)
