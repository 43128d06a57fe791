use Rattle.std.proofs.Common.{◌≡◌, ◌≤◌, ◌++◌, drop, vec_capacity}
use Rattle.matrix_market.specs.Parts.{row_pairs_text}
use Rattle.matrix_market.proofs.pattern_writer.append_row.Given as goal

-- the text so far and the pairs that are left are the whole text
abbrev pub invariant-loop-column : goal.invariant-loop-column
invariant-loop-column l =
    (l.text.items ++ row_pairs_text l.row (drop l.column-index l.columns) ≡ l.fn.text.items ++ row_pairs_text l.row l.columns) ×
    (vec_capacity l.fn.text ≤ vec_capacity l.text)
