-- The colours inside a zone, and of the whole.
use Rattle.std.specs.Prelude.{ℕ, ◌+◌, ◌%◌, ◌<◌, ◌≡◌, ◌≢◌, ◌⊎◌, Bool, true, false, not, ◌&&◌, ◌==◌, List, length, map, filter, count_by, flat_map, Contains, take, slice_index, slice_index_or, nat_eq, if◌then◌else◌}
use Rattle.std.specs.Set.{distinct_count}
use Rattle.std.specs.List.{range_with_len}
use Rattle.conflict_coloring.specs.Conflict.{conflict, has}

-- the least number, from 0, that is not in the list
pub record IsLeastFree (used : List ℕ) (k : ℕ) : Type 0 where
  pub free : has used k ≡ false
  pub least : (j : ℕ) → j < k → has used j ≡ true

-- the cells that are coloured, with their colours, in the order of choice
abbrev pub Picks : Type 0
Picks = List (ℕ × ℕ)

-- the colours of the cell's coloured conflict neighbours
abbrev pub colours_near : List (List ℕ) → Picks → ℕ → List ℕ
colours_near cells done c = map (λ p. p.1) (filter (λ p. conflict cells c p.0) done)

-- how many different colours those are
unfoldable pub saturation : List (List ℕ) → Picks → ℕ → ℕ
saturation cells done c = distinct_count nat_eq (colours_near cells done c)

-- how many conflict neighbours the cell has in the zone
unfoldable pub degree : List (List ℕ) → List ℕ → ℕ → ℕ
degree cells zone c = count_by (λ d. conflict cells c d) zone

-- c stands before d: more different colours near it, then more neighbours in the zone, then the lesser number
abbrev pub IsBefore : List (List ℕ) → List ℕ → Picks → ℕ → ℕ → Type 0
IsBefore cells zone done c d =
    (saturation cells done d < saturation cells done c)
    ⊎ ((saturation cells done d ≡ saturation cells done c)
    × ((degree cells zone d < degree cells zone c) ⊎ ((degree cells zone d ≡ degree cells zone c) × (c < d))))

-- a cell of the zone that has no colour
abbrev pub is_left : List ℕ → Picks → ℕ → Bool
is_left zone done c = has zone c && not (has (map (λ p. p.0) done) c)

-- the next cell and its colour
pub record IsPick (cells : List (List ℕ)) (zone : List ℕ) (done : Picks) (c k : ℕ) : Type 0 where
  pub left : is_left zone done c ≡ true
  pub greatest : (d : ℕ) → is_left zone done d ≡ true → d ≢ c → IsBefore cells zone done c d
  pub least_free : IsLeastFree (colours_near cells done c) k

-- each pick follows from those before it
abbrev pub IsRun : List (List ℕ) → List ℕ → Picks → Type 0
IsRun cells zone picks = (i : ℕ) → i < length picks → IsPick cells zone (take i picks) (slice_index_or picks i (0, 0)).0 (slice_index_or picks i (0, 0)).1

-- a run that leaves no cell of the zone
abbrev pub IsColoured : List (List ℕ) → List ℕ → Picks → Type 0
IsColoured cells zone done = IsRun cells zone done × ((c : ℕ) → is_left zone done c ≡ false)

-- the cells of a zone, rising
abbrev pub cells_of : List ℕ → ℕ → List ℕ
cells_of zone z = filter (λ c. slice_index zone c == z) (range_with_len 0 (length zone))

-- the colours of all cells inside their zones
abbrev pub AreInZones : List (List ℕ) → List ℕ → List ℕ → Type 0
AreInZones cells zone inner =
    (z : ℕ) → (done : Picks) × IsColoured cells (cells_of zone z) done × ((p : ℕ × ℕ) → Contains done p → slice_index inner p.0 ≡ p.1)

-- the colour is in use in an even zone
abbrev pub IsEvenColour : List ℕ → List ℕ → ℕ → Type 0
IsEvenColour zone inner k = (c : ℕ) × (c < length zone) × (slice_index zone c % 2 ≡ 0) × (slice_index inner c ≡ k)

-- how many colours the even zones have at most: one more than the greatest colour, 0 without a cell
pub record IsShift (zone inner : List ℕ) (e : ℕ) : Type 0 where
  pub above : (k : ℕ) → IsEvenColour zone inner k → k < e
  pub least : 0 < e → (k : ℕ) × IsEvenColour zone inner k × (k + 1 ≡ e)

-- the colour of the whole
abbrev pub whole : ℕ → ℕ → ℕ → ℕ
whole e z k = if z % 2 == 0 then k else e + k

-- the cells of a colour, rising
abbrev pub coloured : List ℕ → ℕ → List ℕ
coloured colour k = filter (λ c. slice_index colour c == k) (range_with_len 0 (length colour))

-- the first k colours in order, and the cells of each rising
abbrev pub order_of : List ℕ → ℕ → List ℕ
order_of colour k = flat_map (coloured colour) (range_with_len 0 k)
