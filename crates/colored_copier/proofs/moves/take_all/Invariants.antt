use Rattle.std.proofs.Common.{◌≡◌, ◌<◌, ◌≤◌, ℕ, true, false, vec_len, get_or, take}
use Rattle.std.specs.Slots.{slots_items, slots_len, slots_filled}
use Rattle.std.specs.Vec.{vec_capacity}
use Rattle.colored_copier.proofs.moves.take_all.Given as goal

abbrev pub invariant-loop-k : goal.invariant-loop-k
invariant-loop-k g l = (slots_len l.closed.slots ≡ l.count) × (slots_items l.closed.slots ≡ slots_items l.initial.closed.slots)
    × ((j : ℕ) → l.k ≤ j → j < l.count → get_or (slots_filled l.closed.slots) j false ≡ true) × ((j : ℕ) → j < l.k → get_or (slots_filled l.closed.slots) j false ≡ false)
    × (l.home.items ≡ take l.k (slots_items l.initial.closed.slots)) × (vec_len l.home ≡ l.k) × (l.count ≤ vec_capacity l.home)
