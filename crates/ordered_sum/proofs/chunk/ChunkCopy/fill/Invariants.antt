use Rattle.std.proofs.Common.{◌≡◌, length, take}
use Rattle.std.specs.List.{range_with_len}
use Rattle.ordered_sum.specs.Chunks.{blocks_of}
use Rattle.ordered_sum.proofs.chunk.ChunkCopy.fill.Given as goal

abbrev pub invariant-loop-k : goal.invariant-loop-k
invariant-loop-k l = record {
  made : take l.k l.self-inside.copies.items ≡ blocks_of l.setup (range_with_len l.first l.k);
  room : length l.self-inside.copies.items ≡ length l.fn.self;
}
