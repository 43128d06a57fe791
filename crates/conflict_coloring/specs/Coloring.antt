-- What a colouring of cells is: their zones, their colours, and the cells by colour.
use Rattle.std.specs.Prelude.{ℕ, ◌+◌, ◌-◌, ◌<◌, ◌≤◌, ◌≡◌, ◌≢◌, ◌↔◌, false, List, length, All, Contains, slice_index}
use Rattle.conflict_coloring.specs.Conflict.{conflict}
use Rattle.conflict_coloring.specs.Cut.{part}
use Rattle.conflict_coloring.specs.Zones.{IsZones}
use Rattle.conflict_coloring.specs.Colours.{AreInZones, IsShift, whole, coloured, order_of}

-- the zone and the colour of each cell, the cells by colour, and where each colour starts among them
pub record Coloring : Type 0 where
  pub zones : List ℕ
  pub colors : List ℕ
  pub order : List ℕ
  pub starts : List ℕ

-- the colour of each cell is that inside its zone, in an odd zone behind all colours of even ones
pub record AreColours (cells : List (List ℕ)) (zones colours : List ℕ) : Type 0 where
  pub one_each : length colours ≡ length cells
  pub inside : List ℕ
  pub shift : ℕ
  pub in_zones : AreInZones cells zones inside
  pub is_shift : IsShift zones inside shift
  pub joined : (c : ℕ) → c < length cells → slice_index colours c ≡ whole shift (slice_index zones c) (slice_index inside c)

-- no two cells of one colour conflict
abbrev pub AreApart : List (List ℕ) → List ℕ → Type 0
AreApart cells colours = (a b : ℕ) → a < length cells → b < length cells → slice_index colours a ≡ slice_index colours b → conflict cells a b ≡ false

-- the colours in use are the numbers below n
abbrev pub AreNumbered : List ℕ → ℕ → Type 0
AreNumbered colours n = (k : ℕ) → Contains colours k ↔ (k < n)

-- each of n cells stands in the order once
pub record StandOnce (n : ℕ) (order : List ℕ) : Type 0 where
  pub within : All (λ c. c < n) order
  pub each : (c : ℕ) → c < n → Contains order c
  pub once : (i j : ℕ) → i < j → j < length order → slice_index order i ≢ slice_index order j

-- the cells of colour k, rising, stand in the order from starts[k] to starts[k + 1]
pub record AreStarts (colours order starts : List ℕ) (n : ℕ) : Type 0 where
  pub one_more : length starts ≡ n + 1
  pub first : slice_index starts 0 ≡ 0
  pub rising : (k : ℕ) → k < n → slice_index starts k ≤ slice_index starts (k + 1)
  pub within : (k : ℕ) → k ≤ n → slice_index starts k ≤ length order
  pub last : slice_index starts n ≡ length order
  pub each : (k : ℕ) → k < n → part order (slice_index starts k) (slice_index starts (k + 1)) ≡ coloured colours k

-- how many colours there are
abbrev pub color_count : Coloring → ℕ
color_count c = length c.starts - 1

-- a colouring of the cells
pub record IsColoring (cells : List (List ℕ)) (c : Coloring) : Type 0 where
  pub zones : IsZones cells c.zones
  pub colours : AreColours cells c.zones c.colors
  pub apart : AreApart cells c.colors
  pub numbered : AreNumbered c.colors (color_count c)
  pub order : c.order ≡ order_of c.colors (color_count c)
  pub once : StandOnce (length cells) c.order
  pub starts : AreStarts c.colors c.order c.starts (color_count c)
