-- What each kind of step tells its caller, of the number found in the word and of its seat before and after.
use Rattle.std.specs.Prelude.{◌≡◌, ℕ, ◌*◌, ◌%◌, ◌^◌, ◌<◌, [], ◌∷◌, Option, Some}
use Rattle.std.specs.Int.{bit_at, bit_not}
use mir.Syntax.{w64}
use Rattle.atomic_table.specs.Table.{Me, Step, rest}
use Rattle.scratch_pool.specs.declared.view.View.{View}
use Rattle.scratch_pool.specs.Machine.{took, missed, gave}

-- the bit of object k alone, as the code makes it
abbrev pub bit : ℕ → ℕ
bit k = 1 * 2 ^ k % 2 ^ 64

-- every other bit
abbrev pub mask : ℕ → ℕ
mask k = bit_not w64 (bit k)

abbrev pub Holder : Type 0 → Type 0
Holder T = Me (Option T) View

module _ {T : Type 0} where
  -- object k was at home, and its place is now with the pass; or it was out
  abbrev pub Tried : ℕ → Holder T → ℕ → Holder T → Type 0
  Tried k old found new =
      (bit_at found k ≡ 1 → (x : T) × (new ≡ (took k old.0, (k, Some x) ∷ [])))
      × (bit_at found k ≡ 0 → new ≡ (missed k old.0, []))

  -- the operand tells which object it was
  abbrev pub tried : Step (Option T) → Holder T → ℕ → Holder T → Type 0
  tried step old found new = (k : ℕ) → k < 64 → step.first ≡ mask k → Tried k old found new

  -- the object was out, and its place is at home again
  abbrev pub given : Step (Option T) → Holder T → ℕ → Holder T → Type 0
  given step old found new = (new ≡ (gave old.0, rest old.1)) × ((k : ℕ) → old.0.holds ≡ Some k → bit_at found k ≡ 0)
