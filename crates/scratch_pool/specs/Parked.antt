-- The rule of a table whose one value stays in its place.
use Rattle.std.specs.Prelude.{◌≡◌}
use mathlib.Core.Option.{some}
use lib.ListN.{get_elem?}
use Rattle.atomic_table.specs.Table.{State}

abbrev pub Stays : {X V : Type 0} → X → State X V → Type 0
Stays x s = get_elem? s.homes 0 ≡ some (some x)
