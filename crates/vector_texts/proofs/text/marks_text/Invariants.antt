use Rattle.std.proofs.Common.{◌≡◌}
use Rattle.vector_texts.proofs.Lines.{text_before}
use Rattle.vector_texts.proofs.text.marks_text.Given as goal

-- the lines of the cells before this one
abbrev pub invariant-loop-cell : goal.invariant-loop-cell
invariant-loop-cell l = l.text.items ≡ text_before l.etas l.cells l.cell-index
