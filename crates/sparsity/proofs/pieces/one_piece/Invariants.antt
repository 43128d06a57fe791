use Rattle.std.proofs.Common.{◌≡◌, ◌-◌, map}
use Rattle.std.specs.List.{range_with_len}
use Rattle.sparsity.specs.Coupled.{row_of}
use Rattle.sparsity.proofs.pieces.one_piece.Given as goal

abbrev pub invariant-loop-i : goal.invariant-loop-i
invariant-loop-i l = l.piece ≡ map (row_of l.size l.lists) (range_with_len l.first (l.i - l.first))
