use Rattle.std.proofs.Common.{◌≡◌, ◌≤◌, ◌+◌, ◌-◌, ◌^◌, drop, length, min}
use Rattle.matrix_market.specs.Texts.{pattern_text}
use Rattle.matrix_market.specs.Parts.{pairs_text, size_of}
use Rattle.matrix_market.proofs.pattern_writer.pattern_size.Given as goal

-- the size so far and that of the rows that are left are the whole size
abbrev pub invariant-loop-i : goal.invariant-loop-i
invariant-loop-i l =
    (l.size ≤ 2 ^ 64 - 1) × (min (l.size + length (pairs_text l.i (drop l.i l.pattern))) (2 ^ 64 - 1) ≡ size_of (pattern_text l.pattern))
