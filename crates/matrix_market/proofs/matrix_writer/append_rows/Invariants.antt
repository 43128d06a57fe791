use Rattle.std.proofs.Common.{◌≡◌, ◌≤◌, ◌++◌, drop, vec_capacity}
use Rattle.matrix_market.specs.Entries.{values_of}
use Rattle.matrix_market.specs.Parts.{rows_text}
use Rattle.matrix_market.proofs.matrix_writer.append_rows.Given as goal

-- the text so far and the rows that are left are the whole text
abbrev pub invariant-loop-i : goal.invariant-loop-i
invariant-loop-i l =
    (l.text.items ++ rows_text l.i (drop l.i l.pattern) (drop l.i (values_of l.rows)) ≡ l.fn.text.items ++ rows_text 0 l.pattern (values_of l.rows)) ×
    (vec_capacity l.fn.text ≤ vec_capacity l.text)
