use Rattle.std.proofs.Common.{◌≡◌, ◌≤◌, ◌+◌, ◌-◌, ◌^◌, drop, length, min}
use Rattle.matrix_market.specs.Entries.{values_of}
use Rattle.matrix_market.specs.Texts.{matrix_text}
use Rattle.matrix_market.specs.Parts.{rows_text, size_of}
use Rattle.matrix_market.proofs.matrix_writer.matrix_size.Given as goal

-- the size so far and that of the rows that are left are the whole size
abbrev pub invariant-loop-i : goal.invariant-loop-i
invariant-loop-i l =
    (l.size ≤ 2 ^ 64 - 1) × (min (l.size + length (rows_text l.i (drop l.i l.pattern) (drop l.i (values_of l.rows)))) (2 ^ 64 - 1) ≡ size_of (matrix_text l.pattern (values_of l.rows)))
