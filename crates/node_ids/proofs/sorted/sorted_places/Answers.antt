use Rattle.std.proofs.Common.{subst, List, ℕ}
use Rattle.std.specs.List.Sorted.{IsPermutation}
use Rattle.node_ids.proofs.Places.{sorted_is}
use Rattle.node_ids.proofs.sorted.sorted_places.Goals as goal

pub returns : goal.returns
returns c =
    let P : List (ℕ × ℕ) → Type 0 = λ xs. IsPermutation xs c.sort_unstable.new.self.items in
    sorted_is c.args.ids.now c.sort_unstable.new.self.items (subst P c.in_ok-places.ensures c.sort_unstable.ensures.permutation) c.sort_unstable.ensures.sorted
