use Rattle.std.proofs.Common.{◌∙◌, sym, ap, refl, inl, inr}
use Rattle.std.specs.Prelude.{Some}
use Rattle.fem_text.specs.WordLines.{text_lines}
use Rattle.fem_text.proofs.ReadingEvery.{one_every, one_fault_of_every, every_not_both, every_or_fail}
use Rattle.problem_read.specs.declared.fault.ProblemKind.TheVariants.{Word}
use Rattle.problem_read.specs.Entries.{parts_of}
use Rattle.problem_read.specs.EntryLine.{entry_line}
use Rattle.problem_read.proofs.TextFaults.{never_memory}
use Rattle.problem_read.proofs.reader.one_reading.Goals as goal

pub returns-clause-problem : goal.returns-clause-problem
returns-clause-problem c text first second a b =
    a.parts_are ∙ ap parts_of (one_every Word entry_line (text_lines (Some 35) text) a.entries b.entries a.reads b.reads) ∙ sym b.parts_are

pub returns-clause-fault : goal.returns-clause-fault
returns-clause-fault c text = one_fault_of_every Word entry_line (text_lines (Some 35) text)

pub returns-clause-apart : goal.returns-clause-apart
returns-clause-apart c text parts kind line problem fails = every_not_both Word entry_line (text_lines (Some 35) text) problem.entries kind line problem.reads fails

pub returns-clause-memory : goal.returns-clause-memory
returns-clause-memory c = never_memory

pub returns-clause-some : goal.returns-clause-some
returns-clause-some c text = elim (every_or_fail Word entry_line (text_lines (Some 35) text)) [
  | inl has ↦ inl (parts_of has.0, record { entries = has.0; reads = has.1; parts_are = refl })
  | inr fails ↦ inr fails
]
