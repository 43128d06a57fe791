use Rattle.std.proofs.Common.{◌≡◌, ◌≤◌, ◌++◌, drop, vec_capacity}
use Rattle.matrix_market.specs.Entries.{right_sides}
use Rattle.matrix_market.specs.Parts.{values_text}
use Rattle.matrix_market.proofs.vector_writer.append_values.Given as goal

-- the text so far and the values that are left are the whole text
abbrev pub invariant-loop-i : goal.invariant-loop-i
invariant-loop-i l =
    (l.text.items ++ values_text (drop l.i (right_sides l.rows)) ≡ l.fn.text.items ++ values_text (right_sides l.rows)) ×
    (vec_capacity l.fn.text ≤ vec_capacity l.text)
