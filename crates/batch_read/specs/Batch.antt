-- What a batch text says, and its first fault.
use Rattle.std.specs.Prelude.{◌≡◌, ◌≤◌, ◌⊎◌, ℕ, List, ◌∷◌, ◌++◌, map, length, All, IsUtf8, Some}
use Rattle.fem_text.specs.Lines.{words_of}
use Rattle.fem_text.specs.WordLines.{Line, text_lines}
use Rattle.fem_text.specs.declared.fault.TextFault.{TextFault}
use Rattle.run_words.specs.Choice.{Choice}
use Rattle.run_words.specs.Jobs.{AskForJob}
use Rattle.batch_read.specs.declared.fault.BatchKind.{BatchKind}
use Rattle.batch_read.specs.declared.fault.BatchKind.TheVariants.{Words, Count, NoMemory}

-- the lines of jobs: those with words that don't begin with `#`
abbrev pub job_lines : List ℕ → List Line
job_lines text = (text_lines (Some 35) text).ahead

abbrev pub words_on : Line → List (List ℕ)
words_on line = words_of line.bytes

-- each of the words is text
pub record AreTexts (words : List (List ℕ)) : Type 0 where
  pub each : All IsUtf8 words

-- the words are text, and they ask for a job
pub record IsJob (words : List (List ℕ)) : Type 0 where
  pub texts : AreTexts words
  pub choice : Choice
  pub asks : AskForJob words choice

-- each line is a job, and there are at most 65,536
pub record BatchText (text : List ℕ) (jobs : List (List (List ℕ))) : Type 0 where
  pub jobs_are : jobs ≡ map words_on (job_lines text)
  pub each : All (λ words. IsJob words) jobs
  pub few : length jobs ≤ 65536

-- the words of a line behind so many jobs are none, or they are one job too many
abbrev pub IsLineFault : BatchKind → ℕ → List (List ℕ) → Type 0
IsLineFault Words before words = IsJob words → ⊥
IsLineFault Count before words = IsJob words × (before ≡ 65536)
IsLineFault NoMemory before words = ⊥

-- a line has this fault, and those in front of it are jobs, and at most 65,536
pub record BatchFaultAt (text : List ℕ) (kind : BatchKind) (line : ℕ) : Type 0 where
  pub front : List Line
  pub here : Line
  pub behind : List Line
  pub lines_are : job_lines text ≡ front ++ here ∷ behind
  pub before : All (λ words. IsJob words) (map words_on front)
  pub few : length front ≤ 65536
  pub fault : IsLineFault kind (length front) (words_on here)
  pub line_is : line ≡ here.number

-- memory ran out, at no line
abbrev pub no_memory : TextFault BatchKind
no_memory = record { kind = NoMemory; line = 0 }

-- memory ran out, or this is so
abbrev pub NoMemoryOr : TextFault BatchKind → Type 0 → Type 0
NoMemoryOr fault P = (fault ≡ no_memory) ⊎ P
