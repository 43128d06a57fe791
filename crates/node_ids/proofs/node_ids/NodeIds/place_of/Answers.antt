use Rattle.std.proofs.Common.{◌∙◌, ap}
use Rattle.node_ids.specs.NodeIds.{place_of}
use Rattle.node_ids.proofs.Places.{counted}
use Rattle.node_ids.proofs.node_ids.NodeIds.place_of.Goals as goal

pub returns-in-None : goal.returns-in-None
returns-in-None c =
    c.counted_place.ensures ∙ counted c.self.inside.ids.now c.args.id (rw c.in-None.is at c.self.invariant) ∙ ap (λ ids. place_of ids c.args.id) c.self.view_is
