use Rattle.std.proofs.Common.{◌≡◌}
use Rattle.color_texts.specs.Text.{text_before}
use Rattle.color_texts.proofs.text.colors_text.Given as goal

-- the lines of the cells before this one
abbrev pub invariant-loop-cell : goal.invariant-loop-cell
invariant-loop-cell l = l.text.items ≡ text_before l.colors l.cell
