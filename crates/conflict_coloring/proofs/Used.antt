-- The colours of a zone have no gap, and are fewer than its cells.
use Rattle.std.proofs.Common.{◌≡◌, ◌≢◌, inl, inr, ⊎_elim, ℕ, ◌+◌, ◌-◌, ◌%◌, ◌<◌, ◌≤◌, List, [], ◌∷◌, length, Bool, true, false, ◌&&◌, ◌==◌, slice_index, slice_index_or, take, map, zero, suc, refl, sym, ◌∙◌, ap, arith}
use Rattle.std.specs.Prelude.{not, Contains}
use Rattle.std.specs.List.{list_any, range_with_len}
use Rattle.std.proofs.lemmas.Bool.{cases_lt, cases_eq, cases_order, eq-eqb, eqb-true, or_cases, and_parts, and_cases, and_from, not-false}
use Rattle.std.proofs.lemmas.List.{get_or-take, length-take, length-map}
use Rattle.conflict_coloring.specs.Conflict.{has, conflict}
use Rattle.conflict_coloring.specs.Colours.{Picks, IsRun, IsPick, IsColoured, AreInZones, IsShift, colours_near, is_left, cells_of, order_of, whole}
use Rattle.conflict_coloring.proofs.Members.{any_from, false_or_true}
use Rattle.conflict_coloring.proofs.Picks.{has_colours, any_map}
use Rattle.conflict_coloring.proofs.Runs.{below_short}
use Rattle.conflict_coloring.proofs.Spreads.{has_filter, has_range}
use Rattle.conflict_coloring.proofs.Counting.{order_apart, order_next, order_short}
use Rattle.conflict_coloring.proofs.Zonewise.{in_zone}

-- ---- picks by their places

pub same_default : {X : Type 0} (xs : List X) (i : ℕ) (a b : X) → i < length xs → slice_index_or xs i a ≡ slice_index_or xs i b
same_default [] i a b lt = absurd (omega arith)
same_default (x ∷ xs) zero a b lt = refl
same_default (x ∷ xs) (suc i) a b lt = same_default xs i a b (omega arith)

pub index_of : {X : Type 0} (p : X → Bool) (xs : List X) (d : X) → list_any p xs ≡ true → (i : ℕ) × (i < length xs) × (p (slice_index_or xs i d) ≡ true)
index_of p [] d h = absurd (cc)
index_of p (x ∷ xs) d h = elim (or_cases (p x) (list_any p xs) h) [
  | inl here ↦ (0, omega arith, here)
  | inr there ↦ (let at = index_of p xs d there in (suc at.0, omega (arith, at.1), at.2))
]

abbrev pub pick_at : Picks → ℕ → ℕ × ℕ
pick_at picks i = slice_index_or picks i (0, 0)

pub pick_in : (picks : Picks) (i : ℕ) → i < length picks → Contains picks (pick_at picks i)
pick_in picks i lt = (i, lt, same_default picks i (pick_at picks i) (0, 0) lt)

-- a cell of the zone has a pick
pub pick_of : (zone : List ℕ) (done : Picks) (c : ℕ) → is_left zone done c ≡ false → has zone c ≡ true → (i : ℕ) × (i < length done) × ((pick_at done i).0 ≡ c)
pick_of zone done c none here =
    let picked : has (map (λ (p : ℕ × ℕ). p.0) done) c ≡ true =
    ⊎_elim (λ off. absurd (false_or_true (has zone c) off here)) (λ off. not-false (has (map (λ (p : ℕ × ℕ). p.0) done) c) off) (and_cases (has zone c) (not (has (map (λ (p : ℕ × ℕ). p.0) done) c)) none) in
    let found = index_of (λ (p : ℕ × ℕ). p.0 == c) done (0, 0) (sym (any_map (λ (p : ℕ × ℕ). p.0) (λ y. y == c) done) ∙ picked) in
    (found.0, found.1, eqb-true (pick_at done found.0).0 c found.2)

-- a pick's cell is of the zone
pub pick_inside : (cells : List (List ℕ)) (zone : List ℕ) (done : Picks) (i : ℕ) → IsRun cells zone done → i < length done → has zone (pick_at done i).0 ≡ true
pick_inside cells zone done i run lt =
    (and_parts (has zone (pick_at done i).0) (not (has (map (λ (p : ℕ × ℕ). p.0) (take i done)) (pick_at done i).0)) (run i lt).left).0

-- each lesser colour has an earlier pick
pub lower_pick : (cells : List (List ℕ)) (zone : List ℕ) (done : Picks) (i j : ℕ) → IsRun cells zone done → i < length done → j < (pick_at done i).1 → (m : ℕ) × (m < length done) × ((pick_at done m).1 ≡ j)
lower_pick cells zone done i j run lt low =
    let c : ℕ = (pick_at done i).0 in
    let one : IsPick cells zone (take i done) c (pick_at done i).1 = run i lt in
    let used : has (colours_near cells (take i done) c) j ≡ true = one.least_free.least j low in
    let test : ℕ × ℕ → Bool = λ p. conflict cells c p.0 && (p.1 == j) in
    let found = index_of test (take i done) (0, 0) (sym (has_colours cells (take i done) c j) ∙ used) in
    let n = length-take i done in
    let below : found.0 < i = omega (arith, found.1) in
    let at : ◌≡◌ {A = ℕ × ℕ} (slice_index_or (take i done) found.0 (0, 0)) (pick_at done found.0) = get_or-take i done found.0 (0, 0) below in
    let both = and_parts (conflict cells c (slice_index_or (take i done) found.0 (0, 0)).0) ((slice_index_or (take i done) found.0 (0, 0)).1 == j) found.2 in
    (found.0, omega arith, ap (λ (p : ℕ × ℕ). p.1) (sym at) ∙ eqb-true (slice_index_or (take i done) found.0 (0, 0)).1 j both.1)

-- ---- cells by their colours

pub has_cell : (zones : List ℕ) (z c : ℕ) → slice_index zones c ≡ z → c < length zones → has (cells_of zones z) c ≡ true
has_cell zones z c is lt =
    has_filter (λ x. slice_index zones x == z) (range_with_len 0 (length zones)) c
    ∙ and_from (has (range_with_len 0 (length zones)) c) (slice_index zones c == z) (has_range 0 (length zones) c (omega arith) (omega arith)) (eq-eqb (slice_index zones c) z is)

-- the pick of a cell
pub cell_pick : (cells : List (List ℕ)) (zones inside : List ℕ) (c : ℕ) (done : Picks) → IsColoured cells (cells_of zones (slice_index zones c)) done → ((p : ℕ × ℕ) → Contains done p → slice_index inside p.0 ≡ p.1) → c < length zones →
    (i : ℕ) × (i < length done) × ((pick_at done i).0 ≡ c) × ((pick_at done i).1 ≡ slice_index inside c)
cell_pick cells zones inside c done coloured link lt =
    let at = pick_of (cells_of zones (slice_index zones c)) done c (coloured.1 c) (has_cell zones (slice_index zones c) c refl lt) in
    (at.0, at.1, at.2, sym (link (pick_at done at.0) (pick_in done at.0 at.1)) ∙ ap (slice_index inside) at.2)

-- a colour below that of a cell is that of another cell of its zone
pub lower_cell : (cells : List (List ℕ)) (zones inside : List ℕ) (c j : ℕ) → AreInZones cells zones inside → c < length zones → j < slice_index inside c →
    (d : ℕ) × (has (cells_of zones (slice_index zones c)) d ≡ true) × (slice_index inside d ≡ j)
lower_cell cells zones inside c j are lt low =
    let z : ℕ = slice_index zones c in
    let done : Picks = (are z).0 in
    let coloured : IsColoured cells (cells_of zones z) done = (are z).1 in
    let at = cell_pick cells zones inside c done coloured (are z).2 lt in
    let m = lower_pick cells (cells_of zones z) done at.0 j coloured.0 at.1 (let e = at.3 in omega arith) in
    ((pick_at done m.0).0, pick_inside cells (cells_of zones z) done m.0 coloured.0 m.1, (are z).2 (pick_at done m.0) (pick_in done m.0 m.1) ∙ m.2)

-- the colour of a cell is below the number of cells of its zone
pub colour_short : (cells : List (List ℕ)) (zones inside : List ℕ) (c : ℕ) → AreInZones cells zones inside → c < length zones → slice_index inside c < length (cells_of zones (slice_index zones c))
colour_short cells zones inside c are lt =
    let k : ℕ = slice_index inside c in
    let zone : List ℕ = cells_of zones (slice_index zones c) in
    let xs : List ℕ = map (slice_index inside) zone in
    let by_cell : (d j : ℕ) → has zone d ≡ true → slice_index inside d ≡ j → has xs j ≡ true = λ d j here is.
    any_map (slice_index inside) (λ y. y == j) zone ∙ any_from (λ x. slice_index inside x == j) zone d here (eq-eqb (slice_index inside d) j is) in
    let each : (j : ℕ) → j < k + 1 → has xs j ≡ true = λ j below. elim (cases_lt j k) [
      | inl low ↦ (let d = lower_cell cells zones inside c j are lt low in by_cell d.0 j d.1 d.2)
      | inr top ↦ by_cell c j (has_cell zones (slice_index zones c) c refl lt) (omega arith)
    ] in
    let short = below_short xs (k + 1) each in
    let n = length-map zone (slice_index inside) in
    omega arith

-- ---- two zones

zone_short : (zones : List ℕ) (z : ℕ) → length (cells_of zones z) ≤ length zones
zone_short zones z =
    let a : length (order_of zones (z + 1)) ≡ length (order_of zones z) + length (cells_of zones z) = order_next zones z in
    let b = order_short zones (z + 1) in
    omega arith

zones_below : (zones : List ℕ) (y z : ℕ) → y < z → length (cells_of zones y) + length (cells_of zones z) ≤ length zones
zones_below zones y z lt =
    let a : length (order_of zones y) + length (cells_of zones y) ≤ length (order_of zones z) = order_apart zones y z lt in
    let b : length (order_of zones (z + 1)) ≡ length (order_of zones z) + length (cells_of zones z) = order_next zones z in
    let c = order_short zones (z + 1) in
    omega arith

-- two zones have at most all cells
pub two_zones : (zones : List ℕ) (y z : ℕ) → y ≢ z → length (cells_of zones y) + length (cells_of zones z) ≤ length zones
two_zones zones y z apart = elim (cases_order y z) [
  | inl same ↦ absurd (apart same)
  | inr o ↦ elim o [
    | inl lt ↦ zones_below zones y z lt
    | inr gt ↦ (let a = zones_below zones z y gt in omega arith)
  ]
]

pub inside_short : (cells : List (List ℕ)) (zones inside : List ℕ) (c : ℕ) → AreInZones cells zones inside → c < length zones → slice_index inside c < length zones
inside_short cells zones inside c are lt =
    let a = colour_short cells zones inside c are lt in let b = zone_short zones (slice_index zones c) in omega arith

pub whole_even : (e z k : ℕ) → z % 2 ≡ 0 → whole e z k ≡ k
whole_even e z k h = grind arith

pub whole_odd : (e z k : ℕ) → z % 2 ≢ 0 → whole e z k ≡ e + k
whole_odd e z k h = grind arith

-- the colour of the whole is below the number of cells
pub whole_short : (cells : List (List ℕ)) (zones inside : List ℕ) (shift c : ℕ) → AreInZones cells zones inside → IsShift zones inside shift → c < length zones → whole shift (slice_index zones c) (slice_index inside c) < length zones
whole_short cells zones inside shift c are is lt = elim (cases_eq (slice_index zones c % 2) 0) [
  | inl even ↦ (let a = inside_short cells zones inside c are lt in let w = whole_even shift (slice_index zones c) (slice_index inside c) even in omega arith)
  | inr odd ↦ (let w = whole_odd shift (slice_index zones c) (slice_index inside c) odd in
      elim (cases_eq shift 0) [
        | inl none ↦ (let a = inside_short cells zones inside c are lt in omega arith)
        | inr some ↦ (let top = is.least (omega arith) in
            let there = top.1 in
            let d : ℕ = there.0 in
            let apart : slice_index zones d ≢ slice_index zones c = λ e. odd (ap (λ z. z % 2) (sym e) ∙ there.2) in
            let a = colour_short cells zones inside c are lt in
            let b = colour_short cells zones inside d are there.1 in
            let both = two_zones zones (slice_index zones d) (slice_index zones c) apart in
            let colour = there.3 in
            let last = top.2 in
            omega arith)
      ])
]

-- a colour of the whole below that of a cell is that of a cell
pub lower_whole : (cells : List (List ℕ)) (zones inside : List ℕ) (shift c j : ℕ) → AreInZones cells zones inside → IsShift zones inside shift → c < length zones → j < whole shift (slice_index zones c) (slice_index inside c) →
    (d : ℕ) × (d < length zones) × (whole shift (slice_index zones d) (slice_index inside d) ≡ j)
lower_whole cells zones inside shift c j are is lt low =
    let even_cell : (e k : ℕ) → e < length zones → slice_index zones e % 2 ≡ 0 → k < slice_index inside e → (d : ℕ) × (d < length zones) × (whole shift (slice_index zones d) (slice_index inside d) ≡ k) = λ e k here even below.
    (let d = lower_cell cells zones inside e k are here below in
    let z = in_zone zones (slice_index zones e) d.0 d.1 in
    (d.0, z.1, whole_even shift (slice_index zones d.0) (slice_index inside d.0) (ap (λ y. y % 2) z.0 ∙ even) ∙ d.2)) in
    elim (cases_eq (slice_index zones c % 2) 0) [
      | inl even ↦ even_cell c j lt even (let w = whole_even shift (slice_index zones c) (slice_index inside c) even in omega arith)
      | inr odd ↦ (let w = whole_odd shift (slice_index zones c) (slice_index inside c) odd in
          elim (cases_lt j shift) [
            | inr above ↦ (let d = lower_cell cells zones inside c (j - shift) are lt (omega arith) in
                let z = in_zone zones (slice_index zones c) d.0 d.1 in
                let is_odd : slice_index zones d.0 % 2 ≢ 0 = λ e. odd (ap (λ y. y % 2) (sym z.0) ∙ e) in
                let v = whole_odd shift (slice_index zones d.0) (slice_index inside d.0) is_odd in
                let k = d.2 in
                (d.0, z.1, omega arith))
            | inl below ↦ (let top = is.least (omega arith) in
                let there = top.1 in
                elim (cases_eq (slice_index inside there.0) j) [
                  | inl same ↦ (there.0, there.1, whole_even shift (slice_index zones there.0) (slice_index inside there.0) there.2 ∙ same)
                  | inr other ↦ even_cell there.0 j there.1 there.2 (let colour = there.3 in let last = top.2 in omega arith)
                ])
          ])
    ]
