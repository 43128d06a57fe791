use Rattle.std.proofs.Common.{◌≡◌, replicate, None}
use Rattle.affine_constraints.proofs.table.no_places.Given as goal

abbrev pub invariant-loop-count : goal.invariant-loop-count
invariant-loop-count l = l.places.items ≡ replicate l.count None
