use Rattle.std.proofs.Common.{◌≡◌, ◌≤◌, ◌+◌, ◌-◌, ◌^◌, drop, length, min}
use Rattle.matrix_market.specs.Parts.{row_pairs_text, size_of}
use Rattle.matrix_market.proofs.pattern_writer.row_size.Given as goal

-- the size so far and that of the pairs that are left are the whole size
abbrev pub invariant-loop-column : goal.invariant-loop-column
invariant-loop-column l =
    (l.size ≤ 2 ^ 64 - 1) × (min (l.size + length (row_pairs_text l.row (drop l.column-index l.columns))) (2 ^ 64 - 1) ≡ size_of (row_pairs_text l.row l.columns))
