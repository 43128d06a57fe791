-- Lists that lie one after another in one list.
use Rattle.std.specs.Prelude.{ℕ, ◌-◌, ◌<◌, ◌≤◌, ◌≡◌, List, ◌∷◌, length, map, take, drop, slice_index}
use Rattle.std.specs.List.{range_with_len}

-- the part from one place to another
abbrev pub part : List ℕ → ℕ → ℕ → List ℕ
part items start end = take (end - start) (drop start items)

-- the list k of those that end at `ends`
abbrev pub piece : List ℕ → List ℕ → ℕ → List ℕ
piece ends items k = part items (slice_index (0 ∷ ends) k) (slice_index ends k)

abbrev pub cut : List ℕ → List ℕ → List (List ℕ)
cut ends items = map (piece ends items) (range_with_len 0 (length ends))

-- no end lies before the last one, and none past the items
pub record AreEnds (ends : List ℕ) (n : ℕ) : Type 0 where
  pub rising : (k : ℕ) → k < length ends → slice_index (0 ∷ ends) k ≤ slice_index ends k
  pub within : (k : ℕ) → k < length ends → slice_index ends k ≤ n
  pub full : slice_index (0 ∷ ends) (length ends) ≡ n

-- the lists that end at `ends`, of which there are fewer than 2^32
pub record AreLists (ends items : List ℕ) : Type 0 where
  pub ends_are : AreEnds ends (length items)
  pub few : length ends ≤ 4294967295
