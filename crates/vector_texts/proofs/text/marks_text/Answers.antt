use Rattle.std.proofs.Common.{◌∙◌, arith}
use Rattle.vector_texts.proofs.Lines.{all_lines}
use Rattle.vector_texts.proofs.text.marks_text.Goals as goal

pub returns : goal.returns
returns c = c.loop-cell.invariant ∙ all_lines c.args.etas.now c.args.cells.now c.loop-cell.cell-index (omega arith)
