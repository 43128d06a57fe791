use Rattle.std.proofs.Common.{◌≡◌, ◌++◌, ◌∷◌, [], length}
use Rattle.colored_copier.specs.Places.{AddsItem}
use Rattle.colored_copier.proofs.places.PlaceLists.add_item.Given as goal

abbrev pub invariant-loop-i : goal.invariant-loop-i
invariant-loop-i l = (l.self.starts.items ≡ l.fn.self.starts.items ++ length l.fn.self.places.items ∷ []) × AddsItem l.numbers l.rows l.i l.fn.self.places.items l.self.places.items
