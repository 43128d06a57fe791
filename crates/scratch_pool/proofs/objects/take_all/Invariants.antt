use Rattle.std.proofs.Common.{◌≡◌, ◌<◌, ◌≤◌, ℕ, true, false, vec_len, get_or}
use Rattle.std.specs.Slots.{slots_items, slots_len, slots_filled}
use Rattle.std.specs.Vec.{vec_capacity}
use Rattle.scratch_pool.proofs.objects.take_all.Given as goal

abbrev pub invariant-loop-k : goal.invariant-loop-k
invariant-loop-k g l = (slots_len l.closed.slots ≡ l.objects) × (slots_items l.closed.slots ≡ slots_items l.initial.closed.slots)
    × ((j : ℕ) → l.k ≤ j → j < l.objects → get_or (slots_filled l.closed.slots) j false ≡ true) × ((j : ℕ) → j < l.k → get_or (slots_filled l.closed.slots) j false ≡ false)
    × (vec_len l.to ≡ l.k) × (l.objects ≤ vec_capacity l.to)
