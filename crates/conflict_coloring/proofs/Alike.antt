-- Cells that conflict alike have the same colourings.
use Rattle.std.proofs.Common.{◌≡◌, ◌⊎◌, ℕ, ◌+◌, ◌<◌, ◌≤◌, List, length, Bool, true, slice_index, map, sym, ◌∙◌, ap, arith, subst, nat_eq}
use Rattle.std.specs.Prelude.{◌↔◌, filter, count_by}
use Rattle.std.specs.Set.{distinct_count}
use Rattle.std.proofs.Math.Path.{fun_ext}
use Rattle.conflict_coloring.specs.Conflict.{conflict}
use Rattle.conflict_coloring.specs.Zones.{IsZones}
use Rattle.conflict_coloring.specs.Colours.{Picks, IsPick, IsColoured, IsLeastFree, saturation, degree, cells_of}
use Rattle.conflict_coloring.specs.Coloring.{Coloring, IsColoring, AreColours, StandOnce}

-- the cell is of the next zone, by a test for conflicts
abbrev touches_by : (ℕ → ℕ → Bool) → ℕ → List ℕ → ℕ → ℕ → Type 0
touches_by meets n zone z c = (d : ℕ) × (d < n) × (slice_index zone d ≡ z) × (meets d c ≡ true)

abbrev next_by : (ℕ → ℕ → Bool) → ℕ → List ℕ → ℕ → ℕ → Type 0
next_by meets n zone z c =
    touches_by meets n zone z c ⊎ (((d : ℕ) → d < n → z < slice_index zone d → ¬ touches_by meets n zone z d) × ((d : ℕ) → d < n → z < slice_index zone d → c ≤ d))

zones_alike : (cells made : List (List ℕ)) (zones : List ℕ) → conflict made ≡ conflict cells → length made ≡ length cells → IsZones made zones → IsZones cells zones
zones_alike cells made zones same len h = record {
  one_each = h.one_each ∙ len;
  first = λ c lt. h.first c (omega arith);
  next = λ z c lt after.
      (let here : (slice_index zones c ≡ z + 1) ↔ next_by (conflict made) (length made) zones z c = h.next z c (omega arith) after in
      subst (λ (n : ℕ). (slice_index zones c ≡ z + 1) ↔ next_by (conflict cells) n zones z c) len
      (subst (λ (m : ℕ → ℕ → Bool). (slice_index zones c ≡ z + 1) ↔ next_by m (length made) zones z c) same here));
}

sat_alike : (cells made : List (List ℕ)) (done : Picks) (c : ℕ) → conflict made ≡ conflict cells → saturation made done c ≡ saturation cells done c
unfolding saturation
sat_alike cells made done c same = ap (λ (m : ℕ → ℕ → Bool). distinct_count nat_eq (map (λ (p : ℕ × ℕ). p.1) (filter (λ (p : ℕ × ℕ). m c p.0) done))) same

degree_alike : (cells made : List (List ℕ)) (zone : List ℕ) (c : ℕ) → conflict made ≡ conflict cells → degree made zone c ≡ degree cells zone c
unfolding degree
degree_alike cells made zone c same = ap (λ (m : ℕ → ℕ → Bool). count_by (λ d. m c d) zone) same

abbrev before_by : ℕ → ℕ → ℕ → ℕ → ℕ → ℕ → Type 0
before_by s t m n c d = (s < t) ⊎ ((s ≡ t) × ((m < n) ⊎ ((m ≡ n) × (c < d))))

before_alike : (s t m n s' t' m' n' c d : ℕ) → s ≡ s' → t ≡ t' → m ≡ m' → n ≡ n' → before_by s t m n c d → before_by s' t' m' n' c d
before_alike s t m n s' t' m' n' c d es et em en h =
    subst (λ (x : ℕ). before_by x t' m' n' c d) es (subst (λ (x : ℕ). before_by s x m' n' c d) et (subst (λ (x : ℕ). before_by s t x n' c d) em (subst (λ (x : ℕ). before_by s t m x c d) en h)))

pick_alike : (cells made : List (List ℕ)) (zone : List ℕ) (done : Picks) (c k : ℕ) → conflict made ≡ conflict cells → IsPick made zone done c k → IsPick cells zone done c k
pick_alike cells made zone done c k same h = record {
  left = h.left;
  greatest = λ d left apart.
      before_alike (saturation made done d) (saturation made done c) (degree made zone d) (degree made zone c) (saturation cells done d) (saturation cells done c) (degree cells zone d) (degree cells zone c) c d
      (sat_alike cells made done d same) (sat_alike cells made done c same) (degree_alike cells made zone d same) (degree_alike cells made zone c same) (h.greatest d left apart);
  least_free = subst (λ (us : List ℕ). IsLeastFree us k) (ap (λ (m : ℕ → ℕ → Bool). map (λ (p : ℕ × ℕ). p.1) (filter (λ (p : ℕ × ℕ). m c p.0) done)) same) h.least_free;
}

coloured_alike : (cells made : List (List ℕ)) (zone : List ℕ) (done : Picks) → conflict made ≡ conflict cells → IsColoured made zone done → IsColoured cells zone done
coloured_alike cells made zone done same h = ((λ i lt. pick_alike cells made zone _ _ _ same (h.0 i lt)), h.1)

colours_alike : (cells made : List (List ℕ)) (zones colours : List ℕ) → conflict made ≡ conflict cells → length made ≡ length cells → AreColours made zones colours → AreColours cells zones colours
colours_alike cells made zones colours same len h = record {
  one_each = h.one_each ∙ len;
  inside = h.inside;
  shift = h.shift;
  in_zones = λ z. ((h.in_zones z).0, coloured_alike cells made (cells_of zones z) (h.in_zones z).0 same (h.in_zones z).1, (h.in_zones z).2);
  is_shift = h.is_shift;
  joined = λ c lt. h.joined c (omega arith);
}

pub coloring_alike : (cells made : List (List ℕ)) (c : Coloring) → ((a b : ℕ) → conflict made a b ≡ conflict cells a b) → length made ≡ length cells → IsColoring made c → IsColoring cells c
coloring_alike cells made c each len h =
    let same : conflict made ≡ conflict cells = fun_ext (λ a. fun_ext (λ b. each a b)) in
    record {
      zones = zones_alike cells made c.zones same len h.zones;
      colours = colours_alike cells made c.zones c.colors same len h.colours;
      apart = λ a b in_a in_b equal. sym (each a b) ∙ h.apart a b (omega arith) (omega arith) equal;
      numbered = h.numbered;
      order = h.order;
      once = subst (λ (n : ℕ). StandOnce n c.order) len h.once;
      starts = h.starts;
    }
