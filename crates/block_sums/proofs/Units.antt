-- A share by the weight one is the whole.
use Rattle.std.proofs.Common.{◌≡◌, sym, refl, ◌^◌, ◌<◌, ℤ, pos, ◌-ℤ◌, ◌*ℤ◌, ◌<ℤ◌, arith}
use Rattle.std.specs.Prelude.{unsigned_abs}
use Rattle.std.proofs.lemmas.Int.{ints}
use Rattle.fem_fixed.specs.Rounding.{IsNearest, nearest}
use Rattle.fem_fixed.proofs.Unique.{nearest_is_near, nearest_is_one}
use Rattle.block_sums.specs.Shares.{load_share, entry_share}

none_left : (n d q : ℤ) → pos 0 <ℤ d → n -ℤ q *ℤ d ≡ pos 0 → IsNearest n d q
none_left n d q positive h =
    let size : 0 < unsigned_abs d = grind (arith, ints) in
    let none : unsigned_abs (n -ℤ q *ℤ d) ≡ 0 = rw h refl in
    record { near = omega arith; even = λ tie. absurd (omega arith) }

exact : (n d q : ℤ) → pos 0 <ℤ d → n -ℤ q *ℤ d ≡ pos 0 → nearest n d ≡ q
exact n d q positive h = nearest_is_one n d q (nearest n d) positive (none_left n d q positive h) (nearest_is_near n d positive)

once : (load : ℤ) → pos 65536 *ℤ load -ℤ load *ℤ pos 65536 ≡ pos 0
once load = omega (arith, ints)

twice : (entry : ℤ) → pos 65536 *ℤ entry *ℤ pos 65536 -ℤ entry *ℤ pos 4294967296 ≡ pos 0
twice entry = omega (arith, ints)

pub whole_load : (weight load : ℤ) → weight ≡ pos 65536 → load ≡ load_share weight load
unfolding load_share
whole_load weight load e = rw e (sym (exact (pos 65536 *ℤ load) (pos 65536) load (record { lt = tt }) (once load)))

pub whole_entry : (weight entry other : ℤ) → weight ≡ pos 65536 → other ≡ pos 65536 → entry ≡ entry_share weight entry other
unfolding entry_share
whole_entry weight entry other e f = rw (e, f) (sym (exact (pos 65536 *ℤ entry *ℤ pos 65536) (pos (2 ^ 32)) entry (record { lt = tt }) (twice entry)))
