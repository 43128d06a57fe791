use Rattle.std.proofs.Common.{◌≡◌, ◌≤◌, ◌+◌, ◌-◌, ◌^◌, drop, length, min}
use Rattle.matrix_market.specs.Texts.{vector_text}
use Rattle.matrix_market.specs.Parts.{values_text, size_of}
use Rattle.matrix_market.proofs.vector_writer.list_size.Given as goal

-- the size so far and that of the values that are left are the whole size
abbrev pub invariant-loop-value : goal.invariant-loop-value
invariant-loop-value l =
    (l.size ≤ 2 ^ 64 - 1) ×
    (min (l.size + length (values_text (drop l.value-index l.list))) (2 ^ 64 - 1) ≡ size_of (vector_text l.list))
