use Rattle.std.proofs.Common.{map}
use Rattle.colored_copier.specs.Plans.{row_number}
use Rattle.colored_copier.specs.Places.{IsPlaced}
use Rattle.colored_copier.proofs.places.PlaceLists.of.Given as goal

abbrev pub invariant-loop-item : goal.invariant-loop-item
invariant-loop-item g l = IsPlaced (g.J.RowJob.rows_of l.job) (map row_number l.rows) l.item l.places.starts.items l.places.places.items
