use Rattle.std.proofs.Common.{◌≡◌, vec_len}
use Rattle.ordered_sum.proofs.chunk.ChunkCopy.new.Given as goal

abbrev pub invariant-loop-cell : goal.invariant-loop-cell
invariant-loop-cell l = vec_len l.copies ≡ l._cell
