use Rattle.std.proofs.Common.{◌+◌, get_or, refl}
use Rattle.colored_copier.proofs.Search.{got}
use Rattle.colored_copier.proofs.Placed.{one_added}
use Rattle.colored_copier.proofs.places.PlaceLists.add_item.Goals as goal

pub place_of-requires : goal.place_of-requires
place_of-requires c = (c.requires.rise, c.requires.among _ (c.loop-i.i, got c.args.rows.now c.loop-i.i 0 c.loop-i-test.true))

pub loop-i-preserved : goal.loop-i-preserved
loop-i-preserved c = (
  c.loop-i.invariant.0,
  one_added c.args.numbers.now c.args.rows.now c.args.self.now.places.items c.loop-i.self.places.items c.push-in-loop-i.new.self.items c.loop-i.i (c.loop-i.i + 1) c.place_of.result (get_or c.args.rows.now c.loop-i.i 0) refl c.loop-i.invariant.1
      c.in_ok-push-2.ensures.items refl c.place_of.ensures,
)
