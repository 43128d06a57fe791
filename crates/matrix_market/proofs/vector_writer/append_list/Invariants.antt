use Rattle.std.proofs.Common.{◌≡◌, ◌≤◌, ◌++◌, drop, vec_capacity}
use Rattle.matrix_market.specs.Parts.{values_text}
use Rattle.matrix_market.proofs.vector_writer.append_list.Given as goal

-- the text so far and the values that are left are the whole text
abbrev pub invariant-loop-value : goal.invariant-loop-value
invariant-loop-value l =
    (l.text.items ++ values_text (drop l.value-index l.list) ≡ l.fn.text.items ++ values_text l.list) ×
    (vec_capacity l.fn.text ≤ vec_capacity l.text)
