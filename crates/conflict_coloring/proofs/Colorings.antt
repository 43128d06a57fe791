-- What the colours of the whole have: cells of one are apart, none is left out, each cell stands once.
use Rattle.std.proofs.Common.{◌≡◌, ◌≢◌, inl, inr, ℕ, ◌+◌, ◌-◌, ◌%◌, ◌<◌, ◌≤◌, List, [], ◌∷◌, ◌++◌, length, Bool, true, cond, ◌==◌, slice_index, slice_index_or, zero, suc, refl, sym, ◌∙◌, ap, arith, subst}
use Rattle.std.specs.Prelude.{All, Contains, filter}
use Rattle.std.specs.List.{range_with_len}
use Rattle.std.proofs.lemmas.Bool.{cases_lt, cases_eq, cases_order, cases_Bool, eq-eqb, eqb-true, both_ways}
use Rattle.std.proofs.lemmas.List.{append-nil, get_or_append_left, get_or-append_right}
use Rattle.std.proofs.lemmas.List.Elements.{All-filter, All-append, All-nil, Contains-append_left, Contains-append_right}
use Rattle.std.proofs.lemmas.List.Folds.{list_any_at}
use Rattle.std.proofs.Math.Seq.{get_or-append_seam}
use Rattle.std.proofs.Math.ListN.{length-append}
use Rattle.conflict_coloring.specs.Conflict.{has, conflict}
use Rattle.conflict_coloring.specs.Zones.{IsZones}
use Rattle.conflict_coloring.specs.Colours.{Picks, IsColoured, AreInZones, IsShift, cells_of, coloured, order_of, whole}
use Rattle.conflict_coloring.specs.Coloring.{AreColours, AreApart, AreNumbered, StandOnce, AreStarts, IsColoring}
use Rattle.conflict_coloring.proofs.Law.{apart_in_zone, same_zone, whole_parity}
use Rattle.conflict_coloring.proofs.Runs.{conflict_sym, conflict_self}
use Rattle.conflict_coloring.proofs.Ranges.{order_more, filter_one_more}
use Rattle.conflict_coloring.proofs.RowTables.{order_split}
use Rattle.conflict_coloring.proofs.Zonewise.{in_zone}
use Rattle.conflict_coloring.proofs.Spreads.{range_below}
use Rattle.conflict_coloring.proofs.Counting.{order_next, order_short, order_full}
use Rattle.conflict_coloring.proofs.Whole.{part_plain}
use Rattle.conflict_coloring.proofs.Used.{pick_at, cell_pick, same_default, index_of, lower_whole, inside_short, whole_short, has_cell}

-- ---- cells of one colour are apart

-- two cells of one zone that conflict have different colours
zone_apart : (cells : List (List ℕ)) (zones inside : List ℕ) (a b : ℕ) → AreInZones cells zones inside → a < length zones → b < length zones → slice_index zones a ≡ slice_index zones b → conflict cells a b ≡ true → slice_index inside a ≢ slice_index inside b
zone_apart cells zones inside a b are in_a in_b same meets equal =
    let z : ℕ = slice_index zones b in
    let done : Picks = (are z).0 in
    let coloured_b : IsColoured cells (cells_of zones z) done = (are z).1 in
    let link = (are z).2 in
    let coloured_a : IsColoured cells (cells_of zones (slice_index zones a)) done = subst (λ (y : ℕ). IsColoured cells (cells_of zones y) done) (sym same) coloured_b in
    let p = cell_pick cells zones inside a done coloured_a link in_a in
    let q = cell_pick cells zones inside b done coloured_b link in_b in
    let one : (pick_at done p.0).1 ≡ (pick_at done q.0).1 = p.3 ∙ equal ∙ sym q.3 in
    let forth : conflict cells (pick_at done p.0).0 (pick_at done q.0).0 ≡ true = ap (λ x. conflict cells x (pick_at done q.0).0) p.2 ∙ ap (conflict cells a) q.2 ∙ meets in
    elim (cases_order p.0 q.0) [
      | inl e ↦ both_ways (conflict cells (pick_at done p.0).0 (pick_at done q.0).0) (ap (λ i. conflict cells (pick_at done i).0 (pick_at done q.0).0) e ∙ conflict_self cells (pick_at done q.0).0) forth
      | inr o ↦ elim o [
        | inl lt ↦ apart_in_zone cells (cells_of zones z) done p.0 q.0 coloured_b.0 lt q.1 (conflict_sym cells (pick_at done q.0).0 (pick_at done p.0).0 ∙ forth) one
        | inr gt ↦ apart_in_zone cells (cells_of zones z) done q.0 p.0 coloured_b.0 gt p.1 forth (sym one)
      ]
    ]

even_below : (zones inside : List ℕ) (shift c : ℕ) → IsShift zones inside shift → c < length zones → slice_index zones c % 2 ≡ 0 → slice_index inside c < shift
even_below zones inside shift c is lt even = is.above (slice_index inside c) (c, lt, even, refl)

pub are_apart : (cells : List (List ℕ)) (zones colours : List ℕ) → IsZones cells zones → AreColours cells zones colours → AreApart cells colours
are_apart cells zones colours is are a b in_a in_b same = elim (cases_Bool (conflict cells a b)) [
  | inr off ↦ off
  | inl meets ↦ absurd (let here : a < length zones = (let n = is.one_each in omega arith) in
      let there : b < length zones = (let n = is.one_each in omega arith) in
      let equal : whole are.shift (slice_index zones a) (slice_index are.inside a) ≡ whole are.shift (slice_index zones b) (slice_index are.inside b) = sym (are.joined a in_a) ∙ same ∙ are.joined b in_b in
      let split = whole_parity are.shift (slice_index zones a) (slice_index zones b) (slice_index are.inside a) (slice_index are.inside b)
      (even_below zones are.inside are.shift a are.is_shift here) (even_below zones are.inside are.shift b are.is_shift there) equal in
      let zone : slice_index zones a ≡ slice_index zones b = same_zone cells zones a b is in_a in_b (conflict_sym cells b a ∙ meets) split.0 in
      zone_apart cells zones are.inside a b are.in_zones here there zone meets split.1)
]

-- ---- the colours are numbered without a gap

contains_has : (xs : List ℕ) (k : ℕ) → has xs k ≡ true → Contains xs k
contains_has xs k h = let at = index_of (λ y. y == k) xs k h in (at.0, at.1, eqb-true (slice_index_or xs at.0 k) k at.2)

contains_at : (xs : List ℕ) (i : ℕ) → i < length xs → Contains xs (slice_index xs i)
contains_at xs i lt = (i, lt, same_default xs i (slice_index xs i) 0 lt)

pub are_numbered : (cells : List (List ℕ)) (zones colours : List ℕ) (n : ℕ) → IsZones cells zones → AreColours cells zones colours → All (λ k. k < n) colours → ((k : ℕ) → k + 1 ≡ n → has colours k ≡ true) → AreNumbered colours n
are_numbered cells zones colours n is are below top k = (
  (λ (found : Contains colours k).
      (let at : slice_index_or colours found.0 k ≡ k = found.2 in
      let low = below found.0 k found.1 in
      subst (λ (x : ℕ). x < n) at low)),
  (λ (lt : k < n).
      (let last : (n - 1) + 1 ≡ n = omega arith in
      let found = index_of (λ y. y == (n - 1)) colours 0 (top (n - 1) last) in
      let c : ℕ = found.0 in
      let is_top : slice_index colours c ≡ n - 1 = eqb-true (slice_index colours c) (n - 1) found.2 in
      let in_cells : c < length cells = (let e = are.one_each in omega (arith, found.1)) in
      let in_zones : c < length zones = (let e = is.one_each in omega arith) in
      elim (cases_eq k (n - 1)) [
        | inl same ↦ subst (λ (x : ℕ). Contains colours x) (is_top ∙ sym same) (contains_at colours c found.1)
        | inr other ↦ (let whole_is = are.joined c in_cells in
            let low : k < whole are.shift (slice_index zones c) (slice_index are.inside c) = omega arith in
            let d = lower_whole cells zones are.inside are.shift c k are.in_zones are.is_shift in_zones low in
            let d_cells : d.0 < length cells = (let e = is.one_each in omega (arith, d.1)) in
            let d_colours : d.0 < length colours = (let e = are.one_each in omega arith) in
            subst (λ (x : ℕ). Contains colours x) (are.joined d.0 d_cells ∙ d.2) (contains_at colours d.0 d_colours))
      ])),
)

-- ---- each cell stands once in the order

member_at : (xs : List ℕ) (i : ℕ) → i < length xs → has xs (slice_index xs i) ≡ true
member_at xs i lt = list_any_at (λ y. y == slice_index xs i) xs i 0 lt (eq-eqb (slice_index xs i) (slice_index xs i) refl)

in_colour : (colours : List ℕ) (k i : ℕ) → i < length (coloured colours k) → (slice_index colours (slice_index (coloured colours k) i) ≡ k) × (slice_index (coloured colours k) i < length colours)
in_colour colours k i lt = in_zone colours k (slice_index (coloured colours k) i) (member_at (coloured colours k) i lt)

rising_more : (p : ℕ → Bool) (n i j : ℕ) → i < j → j < length (filter p (range_with_len 0 (n + 1))) → (j < length (filter p (range_with_len 0 n)) → slice_index (filter p (range_with_len 0 n)) i < slice_index (filter p (range_with_len 0 n)) j) →
    slice_index (filter p (range_with_len 0 (n + 1))) i < slice_index (filter p (range_with_len 0 (n + 1))) j
rising_more p n i j lt inside before =
    let ys : List ℕ = filter p (range_with_len 0 n) in
    let Q : List ℕ → Type 0 = λ xs. j < length xs → slice_index xs i < slice_index xs j in
    let low : All (λ c. c < n) ys = All-filter p (λ c. c < n) (range_with_len 0 n) (range_below 0 n n (omega arith)) in
    elim (cases_Bool (p n)) [
      | inr off ↦ (let same : filter p (range_with_len 0 (n + 1)) ≡ ys = filter_one_more p n ∙ ap (λ b. ys ++ cond b (n ∷ []) []) off ∙ append-nil ys in subst Q (sym same) before inside)
      | inl on ↦ (let same : filter p (range_with_len 0 (n + 1)) ≡ ys ++ n ∷ [] = filter_one_more p n ∙ ap (λ b. ys ++ cond b (n ∷ []) []) on in
          let all : j < length (ys ++ n ∷ []) → slice_index (ys ++ n ∷ []) i < slice_index (ys ++ n ∷ []) j = λ there.
          (let len = length-append ys (n ∷ []) in
          let short : i < length ys = omega arith in
          let at_i : slice_index (ys ++ n ∷ []) i ≡ slice_index ys i = get_or_append_left ys (n ∷ []) 0 i short in
          elim (cases_lt j (length ys)) [
            | inl less ↦ (let at_j : slice_index (ys ++ n ∷ []) j ≡ slice_index ys j = get_or_append_left ys (n ∷ []) 0 j less in
                let r = before less in omega arith)
            | inr past ↦ (let e : j ≡ length ys = omega arith in
                let at_j : slice_index (ys ++ n ∷ []) j ≡ n = ap (slice_index (ys ++ n ∷ [])) e ∙ get_or-append_seam ys n [] 0 in
                let r = low i 0 short in omega arith)
          ]) in
          subst Q (sym same) all inside)
    ]

-- what a test picks of a range rises
rising_filter : (p : ℕ → Bool) (n i j : ℕ) → i < j → j < length (filter p (range_with_len 0 n)) → slice_index (filter p (range_with_len 0 n)) i < slice_index (filter p (range_with_len 0 n)) j
rising_filter p zero i j lt below = absurd (omega arith)
rising_filter p (suc n) i j lt below =
    let s : n + 1 ≡ suc n = omega arith in
    let P : ℕ → Type 0 = λ m. j < length (filter p (range_with_len 0 m)) → slice_index (filter p (range_with_len 0 m)) i < slice_index (filter p (range_with_len 0 m)) j in
    subst P s (λ inside. rising_more p n i j lt inside (λ b. rising_filter p n i j lt b)) below

-- a cell of the first k colours has one of them
colour_before : (colours : List ℕ) (k i : ℕ) → i < length (order_of colours k) → slice_index colours (slice_index (order_of colours k) i) < k
colour_before colours zero i lt = absurd (omega arith)
colour_before colours (suc k) i lt =
    let s : k + 1 ≡ suc k = omega arith in
    let Q : List ℕ → Type 0 = λ xs. i < length xs → slice_index colours (slice_index xs i) < suc k in
    let both : i < length (order_of colours k ++ coloured colours k) → slice_index colours (slice_index (order_of colours k ++ coloured colours k) i) < suc k = λ inside.
    elim (cases_lt i (length (order_of colours k))) [
      | inl less ↦ (let at : slice_index (order_of colours k ++ coloured colours k) i ≡ slice_index (order_of colours k) i = get_or_append_left (order_of colours k) (coloured colours k) 0 i less in
          let r = colour_before colours k i less in
          let e = ap (slice_index colours) at in omega arith)
      | inr past ↦ (let n : ℕ = length (order_of colours k) in
          let at : slice_index (order_of colours k ++ coloured colours k) i ≡ slice_index (coloured colours k) (i - n) = get_or-append_right (order_of colours k) (coloured colours k) n i 0 refl past in
          let len = length-append (order_of colours k) (coloured colours k) in
          let r = in_colour colours k (i - n) (omega arith) in
          let e = ap (slice_index colours) at in
          let f = r.0 in omega arith)
    ] in
    subst (λ (m : ℕ). i < length (order_of colours m) → slice_index colours (slice_index (order_of colours m) i) < suc k) s (subst Q (sym (order_more colours k)) both) lt

order_within : (colours : List ℕ) (k : ℕ) → All (λ c. c < length colours) (order_of colours k)
order_within colours zero = All-nil (λ c. c < length colours)
order_within colours (suc k) =
    let s : k + 1 ≡ suc k = omega arith in
    let P : List ℕ → Type 0 = λ xs. All (λ c. c < length colours) xs in
    let those : All (λ c. c < length colours) (coloured colours k) =
    All-filter (λ c. slice_index colours c == k) (λ c. c < length colours) (range_with_len 0 (length colours)) (range_below 0 (length colours) (length colours) (omega arith)) in
    subst (λ (m : ℕ). All (λ c. c < length colours) (order_of colours m)) s
    (subst P (sym (order_more colours k)) (All-append (λ c. c < length colours) (order_of colours k) (coloured colours k) (order_within colours k) those))

order_apart_at : (colours : List ℕ) (k i j : ℕ) → i < j → j < length (order_of colours k) → slice_index (order_of colours k) i ≢ slice_index (order_of colours k) j
order_apart_at colours zero i j lt below = absurd (omega arith)
order_apart_at colours (suc k) i j lt below =
    let s : k + 1 ≡ suc k = omega arith in
    let o : List ℕ = order_of colours k in
    let w : List ℕ = coloured colours k in
    let n : ℕ = length o in
    let Q : List ℕ → Type 0 = λ xs. j < length xs → slice_index xs i ≢ slice_index xs j in
    let both : j < length (o ++ w) → slice_index (o ++ w) i ≢ slice_index (o ++ w) j = λ inside equal.
    (let len = length-append o w in
    elim (cases_lt j n) [
      | inl less ↦ (let at_i : slice_index (o ++ w) i ≡ slice_index o i = get_or_append_left o w 0 i (omega arith) in
          let at_j : slice_index (o ++ w) j ≡ slice_index o j = get_or_append_left o w 0 j less in
          order_apart_at colours k i j lt less (sym at_i ∙ equal ∙ at_j))
      | inr past ↦ (let at_j : slice_index (o ++ w) j ≡ slice_index w (j - n) = get_or-append_right o w n j 0 refl past in
          let last = in_colour colours k (j - n) (omega arith) in
          elim (cases_lt i n) [
            | inl less ↦ (let at_i : slice_index (o ++ w) i ≡ slice_index o i = get_or_append_left o w 0 i less in
                let before = colour_before colours k i less in
                let e = ap (slice_index colours) (sym at_i ∙ equal ∙ at_j) in
                let f = last.0 in
                omega arith)
            | inr later ↦ (let at_i : slice_index (o ++ w) i ≡ slice_index w (i - n) = get_or-append_right o w n i 0 refl later in
                let up = rising_filter (λ c. slice_index colours c == k) (length colours) (i - n) (j - n) (omega arith) (omega arith) in
                omega arith)
          ])
    ]) in
    subst (λ (m : ℕ). j < length (order_of colours m) → slice_index (order_of colours m) i ≢ slice_index (order_of colours m) j) s (subst Q (sym (order_more colours k)) both) below

order_has : (colours : List ℕ) (n c : ℕ) → c < length colours → slice_index colours c < n → Contains (order_of colours n) c
order_has colours n c lt low =
    let k : ℕ = slice_index colours c in
    let split = order_split colours k n low in
    subst (λ (xs : List ℕ). Contains xs c) (sym split.1)
    (Contains-append_left (order_of colours k ++ coloured colours k) split.0 c (Contains-append_right (order_of colours k) (coloured colours k) c (contains_has (coloured colours k) c (has_cell colours k c refl lt))))

pub stand_once : (colours order : List ℕ) (count n : ℕ) → length colours ≡ count → order ≡ order_of colours n → All (λ k. k < n) colours → StandOnce count order
stand_once colours order count n len is below =
    let all : StandOnce (length colours) (order_of colours n) = record {
      within = order_within colours n;
      each = λ c lt. order_has colours n c lt (below c 0 lt);
      once = λ i j lt inside. order_apart_at colours n i j lt inside;
    } in
    subst (λ (m : ℕ). StandOnce m order) len (subst (λ (xs : List ℕ). StandOnce (length colours) xs) (sym is) all)

-- ---- where the colours start

pub are_starts : (colours order starts : List ℕ) (n : ℕ) → order ≡ order_of colours n → All (λ k. k < n) colours → length starts ≡ n + 1 → ((k : ℕ) → k ≤ n → slice_index starts k ≡ length (order_of colours k)) → AreStarts colours order starts n
are_starts colours order starts n is below len at =
    let whole_len : length order ≡ length colours = ap length is ∙ order_full colours n below in
    record {
      one_more = len;
      first = at 0 (omega arith);
      rising = λ k lt. (let a = at k (omega arith) in let b = at (k + 1) (omega arith) in let c = order_next colours k in omega arith);
      within = λ k le. (let a = at k le in let b = order_short colours k in omega arith);
      last = at n (omega arith) ∙ sym (ap length is);
      each = λ k lt. part_plain colours order k n (slice_index starts k) (slice_index starts (k + 1)) lt is (at k (omega arith)) (at (k + 1) (omega arith));
    }

-- ---- a colouring

pub is_coloring : (cells : List (List ℕ)) (zones inside colours order starts : List ℕ) (shift n : ℕ) → IsZones cells zones → AreInZones cells zones inside → IsShift zones inside shift → length colours ≡ length cells →
    ((k : ℕ) → k < length cells → slice_index colours k ≡ whole shift (slice_index zones k) (slice_index inside k)) → All (λ k. k < n) colours → ((k : ℕ) → k + 1 ≡ n → has colours k ≡ true) → order ≡ order_of colours n →
    length starts ≡ n + 1 → ((k : ℕ) → k ≤ n → slice_index starts k ≡ length (order_of colours k)) → IsColoring cells (record { zones = zones; colors = colours; order = order; starts = starts })
is_coloring cells zones inside colours order starts shift n is in_zones is_shift one_each joined below top order_is len at =
    let are : AreColours cells zones colours = record { one_each = one_each; inside = inside; shift = shift; in_zones = in_zones; is_shift = is_shift; joined = joined } in
    let count : n ≡ length starts - 1 = omega arith in
    record {
      zones = is;
      colours = are;
      apart = are_apart cells zones colours is are;
      numbered = subst (λ (m : ℕ). AreNumbered colours m) count (are_numbered cells zones colours n is are below top);
      order = order_is ∙ ap (order_of colours) count;
      once = stand_once colours order (length cells) n one_each order_is below;
      starts = subst (λ (m : ℕ). AreStarts colours order starts m) count (are_starts colours order starts n order_is below len at);
    }

-- an element of a list by its place
all_at : (P : ℕ → Type 0) (xs : List ℕ) → ((i : ℕ) → i < length xs → P (slice_index xs i)) → All P xs
all_at P xs each = λ i d lt. subst P (same_default xs i 0 d lt) (each i lt)

-- the colours inside zones are below the number of cells
pub inside_few : (cells : List (List ℕ)) (zones inside : List ℕ) (n : ℕ) → AreInZones cells zones inside → length zones ≤ n → length inside ≡ length zones → All (λ k. k < n) inside
inside_few cells zones inside n are le len = all_at (λ k. k < n) inside (λ i lt. (let s = inside_short cells zones inside i are (omega arith) in omega arith))

-- and those of the whole
pub whole_few : (cells : List (List ℕ)) (zones inside : List ℕ) (shift n k : ℕ) → AreInZones cells zones inside → IsShift zones inside shift → length zones ≤ n → k < length zones → whole shift (slice_index zones k) (slice_index inside k) < n
whole_few cells zones inside shift n k are is le lt = let s = whole_short cells zones inside shift k are is lt in omega arith

-- each start is at most the number of cells
pub starts_few : (colours starts : List ℕ) (n m : ℕ) → length starts ≡ n + 1 → ((k : ℕ) → k ≤ n → slice_index starts k ≡ length (order_of colours k)) → length colours < m → All (λ s. s < m) starts
starts_few colours starts n m len at few = all_at (λ s. s < m) starts (λ i lt. (let a = at i (omega arith) in let b = order_short colours i in omega arith))
