-- What is kept of the cells of a zone that have no colour.
use Rattle.std.specs.Prelude.{ℕ, ◌-◌, ◌<◌, ◌≤◌, ◌≡◌, Bool, true, ◌&&◌, ◌==◌, List, length, slice_index, nat_eq}
use Rattle.std.specs.List.{IsDistinct}
use Rattle.std.specs.declared.cmp.Ordering.{Ordering}
use Rattle.std.specs.Ordering.{nat_cmp, ordering_then}
use Rattle.std.specs.BTreeSet.{BTreeSet, contains}
use Rattle.conflict_coloring.specs.Conflict.{has}
use Rattle.conflict_coloring.specs.Colours.{Picks, degree, colours_near}
use Rattle.conflict_coloring.specs.Links.{Keys, key_cmp}

-- the order of pairs (cell, colour)
abbrev pub pair_cmp : ℕ × ℕ → ℕ × ℕ → Ordering
pair_cmp a b = ordering_then (nat_cmp a.0 b.0) (nat_cmp a.1 b.1)

-- n different colours are noted for the cell
abbrev pub IsCount : BTreeSet (ℕ × ℕ) → ℕ → ℕ → Type 0
IsCount used d n = (ns : List ℕ) × IsDistinct nat_eq ns × ((k : ℕ) → contains pair_cmp used (d, k) ≡ has ns k) × (length ns ≡ n)

-- the set has the keys of the cells that are present, by their counts, and the counts are right
pub record IsBoard (cells : List (List ℕ)) (zone : List ℕ) (present : ℕ → Bool) (counts : List ℕ) (used : BTreeSet (ℕ × ℕ)) (keys : BTreeSet Keys) : Type 0 where
  pub keyed : (s m d : ℕ) → d ≤ 4294967295 → contains key_cmp keys (s, m, 4294967295 - d) ≡ (present d && (s == slice_index counts d && m == degree cells zone d))
  pub counted : (d : ℕ) → present d ≡ true → IsCount used d (slice_index counts d)
  pub real : (d k : ℕ) → contains pair_cmp used (d, k) ≡ true → k < 4294967295

-- the colours noted for the cells that are present are those near them
abbrev pub AreNoted : List (List ℕ) → Picks → (ℕ → Bool) → BTreeSet (ℕ × ℕ) → Type 0
AreNoted cells picks present used = (d k : ℕ) → present d ≡ true → contains pair_cmp used (d, k) ≡ has (colours_near cells picks d) k

-- fewer than `none` colours from 0 on are noted for the cell
abbrev pub IsShort : BTreeSet (ℕ × ℕ) → ℕ → ℕ → Type 0
IsShort used cell none = (k : ℕ) → ((j : ℕ) → j < k → contains pair_cmp used (cell, j) ≡ true) → k < none
