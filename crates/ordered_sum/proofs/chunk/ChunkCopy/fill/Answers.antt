use Rattle.std.proofs.Common.{◌∙◌, ◌<◌, refl, length, arith, slice_set}
use Rattle.ordered_sum.proofs.Copied.{one_filled, as_many}
use Rattle.ordered_sum.proofs.chunk.ChunkCopy.fill.Goals as goal

pub loop-k-preserved : goal.loop-k-preserved
loop-k-preserved c =
    let copies = c.loop-k.self-inside.copies.items in
    let inside : c.loop-k.k < length c.loop-k.self-inside.copies.items = omega (arith, c.loop-k-test.true, c.requires.room, c.loop-k.invariant.room) in
    record {
      made = one_filled c.args.setup.now c.args.first c.loop-k.k copies (slice_set copies c.loop-k.k c.blocks_of.new.copy) c.blocks_of.new.copy inside refl c.blocks_of.ensures.value c.loop-k.invariant.made;
      room = as_many copies c.loop-k.k c.blocks_of.new.copy ∙ c.loop-k.invariant.room;
    }
