use Rattle.std.proofs.Common.{◌∙◌, sym, ap, List, ℕ, ◌++◌, ◌∷◌, []}
use Rattle.node_ids.proofs.Places.{listed_more}
use Rattle.node_ids.proofs.sorted.listed_places.Goals as goal

pub loop-place-preserved : goal.loop-place-preserved
loop-place-preserved c = let e = listed_more c.args.ids.now c.loop-place.place in cc (c.in_ok-push.ensures.items)
