use Rattle.std.proofs.Common.{◌≡◌}
use Rattle.node_ids.specs.NodeIds.{listed}
use Rattle.node_ids.proofs.sorted.listed_places.Given as goal

abbrev pub invariant-loop-place : goal.invariant-loop-place
invariant-loop-place l = l.places.items ≡ listed l.ids l.place
