use Rattle.std.proofs.Common.{◌≡◌, ◌≤◌, ◌++◌, drop, vec_capacity}
use Rattle.matrix_market.specs.Parts.{pairs_text}
use Rattle.matrix_market.proofs.pattern_writer.append_rows.Given as goal

-- the text so far and the rows that are left are the whole text
abbrev pub invariant-loop-i : goal.invariant-loop-i
invariant-loop-i l =
    (l.text.items ++ pairs_text l.i (drop l.i l.pattern) ≡ l.fn.text.items ++ pairs_text 0 l.pattern) ×
    (vec_capacity l.fn.text ≤ vec_capacity l.text)
