-- Where ids stand in a list, and what is kept to find them.
use Rattle.std.specs.Prelude.{◌≡◌, ℕ, ◌+◌, ◌-◌, ◌<◌, ◌==◌, ◌&&◌, nat_le, List, length, map, slice_index, All, Contains, if◌then◌else◌}
use Rattle.std.specs.declared.option.Option.{Option}
use Rattle.std.specs.declared.option.Option.TheVariants.{Some, None}
use Rattle.std.specs.List.{position, range_with_len}
use Rattle.std.specs.List.Sorted.{IsSorted}
use Rattle.fem_fixed.specs.Lists.{pair_cmp}

-- the position of an id
abbrev pub place_of : List ℕ → ℕ → Option ℕ
place_of ids id = position (λ other. other == id) ids

-- the ids count from 1
abbrev pub AreCounted : List ℕ → Type 0
AreCounted ids = (k : ℕ) → k < length ids → slice_index ids k ≡ k + 1

-- the position of an id among so many that count from 1
abbrev pub counted_place : ℕ → ℕ → Option ℕ
counted_place count id = if nat_le 1 id && nat_le id count then Some (id - 1) else None

-- the first ids with their positions
abbrev pub listed : List ℕ → ℕ → List (ℕ × ℕ)
listed ids count = map (λ k. (slice_index ids k, k)) (range_with_len 0 count)

-- the pair is an id and a position at which it stands
abbrev pub IsOf : List ℕ → ℕ × ℕ → Type 0
IsOf ids pair = (pair.1 < length ids) × (slice_index ids pair.1 ≡ pair.0)

-- the ids with their positions, sorted by id and then by position
pub record AreByIds (ids : List ℕ) (places : List (ℕ × ℕ)) : Type 0 where
  pub each : All (IsOf ids) places
  pub every : (k : ℕ) → k < length ids → Contains places (slice_index ids k, k)
  pub sorted : IsSorted pair_cmp places
