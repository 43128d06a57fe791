-- What a problem text says, and its first fault.
use Rattle.std.specs.Prelude.{◌≡◌, ◌⊎◌, ℕ, List, Some}
use Rattle.fem_text.specs.WordLines.{text_lines}
use Rattle.fem_text.specs.ReadingEvery.{ReadsEvery, FailsSomewhere}
use Rattle.fem_text.specs.declared.fault.TextFault.{TextFault}
use Rattle.problem_read.specs.declared.fault.ProblemKind.{ProblemKind}
use Rattle.problem_read.specs.declared.fault.ProblemKind.TheVariants.{NoMemory}
use Rattle.problem_read.specs.Entries.{Entry, ProblemParts, parts_of}
use Rattle.problem_read.specs.EntryLine.{entry_line}

-- the lines with words that don't begin with `#` say this
pub record ProblemText (text : List ℕ) (parts : ProblemParts) : Type 0 where
  pub entries : List Entry
  pub reads : ReadsEvery entry_line (text_lines (Some 35) text) entries
  pub parts_are : parts ≡ parts_of entries

-- the first line with a fault has this number, and this is its first fault
abbrev pub ProblemFaultAt : List ℕ → ProblemKind → ℕ → Type 0
ProblemFaultAt text kind line = FailsSomewhere entry_line (text_lines (Some 35) text) kind line

-- memory ran out, at no line
abbrev pub no_memory : TextFault ProblemKind
no_memory = record { kind = NoMemory; line = 0 }

-- memory ran out, or this is so
abbrev pub NoMemoryOr : TextFault ProblemKind → Type 0 → Type 0
NoMemoryOr fault P = (fault ≡ no_memory) ⊎ P
