-- Cells have a colouring.
use Rattle.std.proofs.Common.{◌≡◌, inl, inr, ℕ, ◌+◌, ◌%◌, ◌<◌, ◌≤◌, List, [], ◌∷◌, length, Bool, true, false, ◌==◌, slice_index, slice_index_or, take, map, refl, sym, ◌∙◌, ap, arith, subst, zero, suc}
use Rattle.std.specs.Prelude.{not, All, Contains}
use Rattle.std.specs.List.{list_any, range_with_len}
use Rattle.std.proofs.lemmas.Bool.{eq-eqb, cases_lt, cases_eq, cases_order}
use Rattle.std.proofs.lemmas.List.{length-map, get_or-take, length-take}
use Rattle.std.proofs.lemmas.List.FromFn.{length-range_with_len, get_or-map-range_with_len}
use Rattle.std.proofs.lemmas.List.Folds.{list_any_at}
use Rattle.conflict_coloring.specs.Conflict.{has}
use Rattle.conflict_coloring.specs.Zones.{IsZones}
use Rattle.conflict_coloring.specs.Colours.{Picks, IsRun, IsColoured, AreInZones, cells_of, order_of, whole}
use Rattle.conflict_coloring.specs.Top.{IsRaised, IsTop}
use Rattle.conflict_coloring.specs.Laws.{HaveAColoring}
use Rattle.conflict_coloring.proofs.Members.{false_or_true, or_left, or_right}
use Rattle.conflict_coloring.proofs.Picks.{any_map, and_right}
use Rattle.conflict_coloring.proofs.Used.{same_default, pick_at, pick_of, pick_inside, has_cell}
use Rattle.conflict_coloring.proofs.Zonewise.{in_zone}
use Rattle.conflict_coloring.proofs.Whole.{top_none, top_more, top_all}
use Rattle.conflict_coloring.proofs.Colorings.{is_coloring}
use Rattle.conflict_coloring.proofs.Least.{not_true}
use Rattle.conflict_coloring.proofs.SomeZones.{some_zones}
use Rattle.conflict_coloring.proofs.SomeRuns.{some_run}

-- ---- lists by their places

abbrev listed : (ℕ → ℕ) → ℕ → List ℕ
listed f n = map f (range_with_len 0 n)

length_listed : (f : ℕ → ℕ) (n : ℕ) → length (listed f n) ≡ n
length_listed f n = length-map (range_with_len 0 n) f ∙ length-range_with_len 0 n

listed_at : (f : ℕ → ℕ) (n c : ℕ) → c < n → slice_index (listed f n) c ≡ f c
listed_at f n c lt = get_or-map-range_with_len f 0 n c c 0 lt (omega arith)

-- ---- the colours inside zones

-- a cell is picked once
picked_once : (cells : List (List ℕ)) (zone : List ℕ) (done : Picks) (i j : ℕ) → IsRun cells zone done → i < j → j < length done → (pick_at done i).0 ≡ (pick_at done j).0 → ⊥
picked_once cells zone done i j run lt within same =
    let c : ℕ = (pick_at done j).0 in
    let test : ℕ × ℕ → Bool = λ p. p.0 == c in
    let free : has (map (λ (p : ℕ × ℕ). p.0) (take j done)) c ≡ false =
    not_true (has (map (λ (p : ℕ × ℕ). p.0) (take j done)) c) (and_right (has zone c) (not (has (map (λ (p : ℕ × ℕ). p.0) (take j done)) c)) (run j within).left) in
    let at : ◌≡◌ {A = ℕ × ℕ} (slice_index_or (take j done) i (0, 0)) (pick_at done i) = get_or-take j done i (0, 0) lt in
    let n = length-take j done in
    let found : list_any test (take j done) ≡ true = list_any_at test (take j done) i (0, 0) (omega arith) (ap test at ∙ eq-eqb (pick_at done i).0 c same) in
    false_or_true (has (map (λ (p : ℕ × ℕ). p.0) (take j done)) c) free (any_map (λ (p : ℕ × ℕ). p.0) (λ y. y == c) (take j done) ∙ found)

same_place : (cells : List (List ℕ)) (zone : List ℕ) (done : Picks) (i j : ℕ) → IsRun cells zone done → i < length done → j < length done → (pick_at done i).0 ≡ (pick_at done j).0 → i ≡ j
same_place cells zone done i j run here there same = elim (cases_order i j) [
  | inl one ↦ one
  | inr o ↦ elim o [
    | inl lt ↦ absurd (picked_once cells zone done i j run lt there same)
    | inr gt ↦ absurd (picked_once cells zone done j i run gt here (sym same))
  ]
]

-- the cell has this colour in the run of zone z
record IsColourIn (cells : List (List ℕ)) (zones : List ℕ) (z c k : ℕ) : Type 0 where
  place : ℕ
  within : place < length (some_run cells (cells_of zones z)).0
  cell : (pick_at (some_run cells (cells_of zones z)).0 place).0 ≡ c
  colour : (pick_at (some_run cells (cells_of zones z)).0 place).1 ≡ k

colour_at : (cells : List (List ℕ)) (zones : List ℕ) (c : ℕ) → c < length zones → (k : ℕ) × IsColourIn cells zones (slice_index zones c) c k
colour_at cells zones c lt =
    let zone : List ℕ = cells_of zones (slice_index zones c) in
    let done : Picks = (some_run cells zone).0 in
    let is : IsColoured cells zone done = (some_run cells zone).1 in
    let at = pick_of zone done c (is.1 c) (has_cell zones (slice_index zones c) c refl lt) in
    ((pick_at done at.0).1, record { place = at.0; within = at.1; cell = at.2; colour = refl })

colour_or : (cells : List (List ℕ)) (zones : List ℕ) (c : ℕ) → (k : ℕ) × (c < length zones → IsColourIn cells zones (slice_index zones c) c k)
colour_or cells zones c = elim (cases_lt c (length zones)) [
  | inl lt ↦ (let found = colour_at cells zones c lt in (found.0, λ again. found.1))
  | inr ge ↦ (0, λ lt. absurd (omega arith))
]

inner : List (List ℕ) → List ℕ → List ℕ
inner cells zones = listed (λ c. (colour_or cells zones c).0) (length zones)

inner_is : (cells : List (List ℕ)) (zones : List ℕ) (z c j : ℕ) → j < length (some_run cells (cells_of zones z)).0 → (pick_at (some_run cells (cells_of zones z)).0 j).0 ≡ c →
    slice_index (inner cells zones) c ≡ (pick_at (some_run cells (cells_of zones z)).0 j).1
unfolding inner
inner_is cells zones z c j lt at =
    let zone : List ℕ = cells_of zones z in
    let done : Picks = (some_run cells zone).0 in
    let is : IsColoured cells zone done = (some_run cells zone).1 in
    let P : ℕ → Type 0 = λ d. has zone d ≡ true in
    let there = in_zone zones z c (subst P at (pick_inside cells zone done j is.0 lt)) in
    let k : ℕ = (colour_or cells zones c).0 in
    let Q : ℕ → Type 0 = λ y. IsColourIn cells zones y c k in
    let found : IsColourIn cells zones z c k = subst Q there.0 ((colour_or cells zones c).1 there.1) in
    let same : found.place ≡ j = same_place cells zone done found.place j is.0 found.within lt (found.cell ∙ sym at) in
    listed_at (λ d. (colour_or cells zones d).0) (length zones) c there.1 ∙ sym found.colour ∙ ap (λ i. (pick_at done i).1) same

some_inside : (cells : List (List ℕ)) (zones : List ℕ) → AreInZones cells zones (inner cells zones)
some_inside cells zones z =
    let done : Picks = (some_run cells (cells_of zones z)).0 in
    let link : (p : ℕ × ℕ) → Contains done p → slice_index (inner cells zones) p.0 ≡ p.1 = λ p found.
    (let at : ◌≡◌ {A = ℕ × ℕ} (pick_at done found.0) p = same_default done found.0 (0, 0) p found.1 ∙ found.2 in
    inner_is cells zones z p.0 found.0 found.1 (ap (λ (q : ℕ × ℕ). q.0) at) ∙ ap (λ (q : ℕ × ℕ). q.1) at) in
    (done, (some_run cells (cells_of zones z)).1, link)

-- ---- the shift

raised : (top zone colour : ℕ) → (new : ℕ) × IsRaised top zone colour new
raised top zone colour = elim (cases_eq (zone % 2) 0) [
  | inr odd ↦ (top, record { above = λ even. absurd (odd even); kept = omega arith; from = inl refl })
  | inl even ↦ elim (cases_lt colour top) [
    | inl low ↦ (top, record { above = λ e. low; kept = omega arith; from = inl refl })
    | inr high ↦ (colour + 1, record { above = λ e. omega arith; kept = omega arith; from = inr (even, refl) })
  ]
]

some_top : (zones colours : List ℕ) (n : ℕ) → (top : ℕ) × IsTop zones colours n top
some_top zones colours zero = (0, top_none zones colours)
some_top zones colours (suc n) =
    let before = some_top zones colours n in
    let new = raised before.0 (slice_index zones n) (slice_index colours n) in
    let P : ℕ → Type 0 = λ m. IsTop zones colours m new.0 in
    let next : n + 1 ≡ suc n = omega arith in
    (new.0, subst P next (top_more zones colours n before.0 new.0 before.1 new.1))

-- ---- how many colours there are

record IsCount (colours : List ℕ) (n : ℕ) : Type 0 where
  below : All (λ k. k < n) colours
  top : (k : ℕ) → k + 1 ≡ n → has colours k ≡ true

all_cons : (P : ℕ → Type 0) (x : ℕ) (xs : List ℕ) → P x → All P xs → All P (x ∷ xs)
all_cons P x xs here rest zero d lt = here
all_cons P x xs here rest (suc i) d lt = rest i d (omega arith)

all_less : (xs : List ℕ) (n m : ℕ) → n ≤ m → All (λ k. k < n) xs → All (λ k. k < m) xs
all_less xs n m le all i d lt = (let low = all i d lt in omega arith)

some_count : (colours : List ℕ) → (n : ℕ) × IsCount colours n
some_count [] = (0, record { below = λ i d lt. absurd (omega arith); top = λ k e. absurd (omega arith) })
some_count (x ∷ xs) =
    let rest = some_count xs in
    elim (cases_lt x rest.0) [
      | inl low ↦ (rest.0, record { below = all_cons (λ k. k < rest.0) x xs low rest.1.below; top = λ k e. or_right (x == k) (has xs k) (rest.1.top k e) })
      | inr high ↦ (
        suc x,
        record {
          below = all_cons (λ k. k < suc x) x xs (omega arith) (all_less xs rest.0 (suc x) (omega arith) rest.1.below);
          top = λ k e. or_left (x == k) (has xs k) (eq-eqb x k (omega arith));
        },
      )
    ]

-- ---- the whole

pub some_coloring : HaveAColoring
some_coloring cells =
    let zones : List ℕ = (some_zones cells).0 in
    let is : IsZones cells zones = (some_zones cells).1 in
    let inside : List ℕ = inner cells zones in
    let top = some_top zones inside (length zones) in
    let shift : ℕ = top.0 in
    let n : ℕ = length cells in
    let colour : ℕ → ℕ = λ c. whole shift (slice_index zones c) (slice_index inside c) in
    let colours : List ℕ = listed colour n in
    let count = some_count colours in
    let m : ℕ = count.0 in
    let order : List ℕ = order_of colours m in
    let start : ℕ → ℕ = λ k. length (order_of colours k) in
    let starts : List ℕ = listed start (m + 1) in (
      record { zones = zones; colors = colours; order = order; starts = starts },
      is_coloring cells zones inside colours order starts shift m is (some_inside cells zones) (top_all zones inside (length zones) shift top.1 refl)
          (length_listed colour n) (λ k lt. listed_at colour n k lt) count.1.below count.1.top refl (length_listed start (m + 1)) (λ k le. listed_at start (m + 1) k (omega arith)),
    )
