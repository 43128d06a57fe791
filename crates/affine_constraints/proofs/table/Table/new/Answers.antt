use Rattle.affine_constraints.proofs.Tables.{table_none, places_none}
use Rattle.affine_constraints.proofs.table.Table.new.Goals as goal

pub invariant_of-result : goal.invariant_of-result
invariant_of-result c = places_none c.in_ok-no_places.field-0.items c.new.result.items c.args.size c.in_ok-no_places.ensures

pub returns : goal.returns
returns c = table_none c.in_ok-no_places.field-0.items c.new.result.items c.args.size c.in_ok-no_places.ensures
