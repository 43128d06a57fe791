-- The sections that are read.
use Rattle.std.specs.Prelude.{◌≡◌, ℕ, List, Ok}
use Rattle.std.specs.declared.result.Result.{Result}
use Rattle.std.specs.List.{slice_get}
use Rattle.fem_text.specs.Words.{this_word}
use Rattle.fem_text.specs.WordLines.{Lines, behind}
use Rattle.fem_text.specs.Reading.{outcome, IsFault, ReadsAll, FailsFirst}
use Rattle.msh_read.specs.declared.fault.MshKind.{MshKind}
use Rattle.msh_read.specs.declared.fault.MshKind.TheVariants as kinds
use Rattle.msh_read.specs.declared.fault.MshKind.TheVariants.{TooFew}
use Rattle.msh_read.specs.Others.{ending_of, behind_others}

-- a section: the word that opens it, its head line, which tells how many rows follow, and what a row gives behind others
pub record Section (X : Type 0) : Type 0 where
  pub opening : List ℕ
  pub head : List (List ℕ) → Result ℕ MshKind
  pub row : List X → List (List ℕ) → Result X MshKind

-- the first word of a line that opens or ends a section
abbrev pub first_is : List ℕ → List (List ℕ) → Result (Unit {0}) MshKind
first_is wanted words = this_word kinds.Section wanted words 0

-- from the head line on, the rows, the line that ends the section, and what stands behind it
abbrev pub from_head : Lines → Lines
from_head lines = behind 1 (behind_others lines)

abbrev pub from_rows : Lines → Lines
from_rows lines = behind 1 (from_head lines)

abbrev pub from_end : ℕ → Lines → Lines
from_end count lines = behind count (from_rows lines)

abbrev pub after_end : ℕ → Lines → Lines
after_end count lines = behind 1 (from_end count lines)

-- behind sections that are passed over stands the line that opens this one
pub record IsOpened {X : Type 0} (section : Section X) (lines : Lines) : Type 0 where
  pub opened : outcome TooFew (first_is section.opening) (slice_get (behind_others lines).ahead 0) ≡ Ok tt

-- and behind it the head line, for so many rows
pub record HasHead {X : Type 0} (section : Section X) (lines : Lines) (count : ℕ) : Type 0 where
  pub opens : IsOpened section lines
  pub head_is : outcome TooFew section.head (slice_get (from_head lines).ahead 0) ≡ Ok count

-- and behind it these rows
pub record HasRows {X : Type 0} (section : Section X) (lines : Lines) (count : ℕ) (rows : List X) : Type 0 where
  pub head : HasHead section lines count
  pub rows_are : ReadsAll TooFew section.row (from_rows lines) count rows

-- and behind them the line that ends the section
pub record HasSection {X : Type 0} (section : Section X) (lines : Lines) (count : ℕ) (rows : List X) : Type 0 where
  pub has : HasRows section lines count rows
  pub ends : outcome TooFew (first_is (ending_of section.opening)) (slice_get (from_end count lines).ahead 0) ≡ Ok tt

-- the first line with a fault opens the section, is its head line, one of its rows, or ends it
pub data FaultInSection {X : Type 0} (section : Section X) (lines : Lines) (kind : MshKind) (line : ℕ) : Type 0 where
  in_opening : IsFault TooFew (first_is section.opening) (behind_others lines) 0 kind line → FaultInSection section lines kind line
  in_head : IsOpened section lines → IsFault TooFew section.head (from_head lines) 0 kind line → FaultInSection section lines kind line
  in_rows : (count : ℕ) → HasHead section lines count → FailsFirst TooFew section.row (from_rows lines) count kind line → FaultInSection section lines kind line
  in_end : (count : ℕ) (rows : List X) → HasRows section lines count rows →
      IsFault TooFew (first_is (ending_of section.opening)) (from_end count lines) 0 kind line → FaultInSection section lines kind line
