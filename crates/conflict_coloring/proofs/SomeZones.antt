-- Cells have zones.
use Rattle.std.proofs.Common.{◌≡◌, ◌≢◌, ◌⊎◌, inl, inr, ⊎_elim, ℕ, ◌+◌, ◌<◌, ◌≤◌, List, length, Bool, true, false, cond, ◌&&◌, ◌==◌, slice_index, map, replicate, refl, sym, ◌∙◌, ap, arith, zero, suc}
use Rattle.std.specs.List.{list_any, range_with_len}
use Rattle.std.proofs.lemmas.Bool.{eqb-true, eq-eqb, cases_eq, cases_lt}
use Rattle.std.proofs.lemmas.List.{length-replicate, get_or-replicate, length-map}
use Rattle.std.proofs.lemmas.List.FromFn.{length-range_with_len, get_or-map-range_with_len}
use Rattle.conflict_coloring.specs.Conflict.{conflict}
use Rattle.conflict_coloring.specs.Zones.{IsZones}
use Rattle.conflict_coloring.proofs.Members.{any_from, any_split, bool_cases, false_or_true, has_all}
use Rattle.conflict_coloring.proofs.Picks.{and_left, and_right, and_both}
use Rattle.conflict_coloring.proofs.Spreads.{has_range, range_below, without, without-replicate, count_falls}
use Rattle.conflict_coloring.proofs.Layers.{IsLayered, TouchesLast, IsFresh, GivesZone, layered_more, layered_all}
use Rattle.conflict_coloring.proofs.Least.{IsLeast, least_below}

abbrev no_zones : ℕ → List ℕ
no_zones n = replicate n (suc n)

layered_none : (cells : List (List ℕ)) → IsLayered cells (no_zones (length cells)) (suc (length cells)) 0
layered_none cells =
    let n : ℕ = length cells in
    let bare : (c : ℕ) → c < n → slice_index (no_zones n) c ≡ suc n = λ c lt. get_or-replicate n c (suc n) 0 lt in
    record {
      one_each = length-replicate n (suc n);
      values = λ c lt. inr (bare c lt);
      first = λ c lt e. absurd (let b = bare c lt in omega arith);
      zero = λ lt some. absurd (omega arith);
      next = λ z c lt low. absurd (omega arith);
    }

-- the cell conflicts with one of the zone before k
touches : List (List ℕ) → List ℕ → ℕ → ℕ → Bool
touches cells zones k c = list_any (λ d. (slice_index zones d + 1 == k) && conflict cells d c) (range_with_len 0 (length cells))

touches_from : (cells : List (List ℕ)) (zones : List ℕ) (k c : ℕ) → TouchesLast cells zones k c → touches cells zones k c ≡ true
unfolding touches
touches_from cells zones k c (d, lt, at, meets) =
    any_from (λ e. (slice_index zones e + 1 == k) && conflict cells e c) (range_with_len 0 (length cells)) d (has_range 0 (length cells) d (omega arith) (omega arith))
    (and_both (slice_index zones d + 1 == k) (conflict cells d c) (eq-eqb (slice_index zones d + 1) k at) meets)

touches_split : (cells : List (List ℕ)) (zones : List ℕ) (k c : ℕ) → touches cells zones k c ≡ true → TouchesLast cells zones k c
unfolding touches
touches_split cells zones k c h =
    let f = any_split (λ e. (slice_index zones e + 1 == k) && conflict cells e c) (range_with_len 0 (length cells)) h in
    let at = eqb-true (slice_index zones f.0 + 1) k (and_left (slice_index zones f.0 + 1 == k) (conflict cells f.0 c) f.2) in
    (f.0, has_all (λ x. x < length cells) (range_with_len 0 (length cells)) f.0 (range_below 0 (length cells) (length cells) (omega arith)) f.1, at, and_right (slice_index zones f.0 + 1 == k) (conflict cells f.0 c) f.2)

abbrev is_none : List ℕ → ℕ → ℕ → Bool
is_none zones none c = slice_index zones c == none

-- what decides the next zone: some cell left conflicts with the last zone, or none does
abbrev Frontier : List (List ℕ) → List ℕ → ℕ → ℕ → Type 0
Frontier cells zones none k =
    ((c : ℕ) × (c < length cells) × (slice_index zones c ≡ none) × TouchesLast cells zones k c)
    ⊎ ((c : ℕ) → c < length cells → slice_index zones c ≡ none → ¬ TouchesLast cells zones k c)

frontier : (cells : List (List ℕ)) (zones : List ℕ) (none k : ℕ) → Frontier cells zones none k
frontier cells zones none k = elim (least_below (λ c. is_none zones none c && touches cells zones k c) (length cells)) [
  | inl found ↦ (let c : ℕ = found.0 in
      inl (
        c,
        found.1,
        eqb-true (slice_index zones c) none (and_left (is_none zones none c) (touches cells zones k c) found.2.passes),
        touches_split cells zones k c (and_right (is_none zones none c) (touches cells zones k c) found.2.passes),
      ))
  | inr nobody ↦ inr (λ c lt is meets. false_or_true (is_none zones none c && touches cells zones k c) (nobody c lt)
      (and_both (is_none zones none c) (touches cells zones k c) (eq-eqb (slice_index zones c) none is) (touches_from cells zones k c meets)))
]

-- a test of the cells that get zone k
record IsTest (cells : List (List ℕ)) (zones : List ℕ) (none k : ℕ) (test : ℕ → Bool) : Type 0 where
  to : (c : ℕ) → c < length cells → slice_index zones c ≡ none → test c ≡ true → IsFresh cells zones none k c
  from : (c : ℕ) → c < length cells → slice_index zones c ≡ none → IsFresh cells zones none k c → test c ≡ true
  some : (c : ℕ) × (c < length cells) × (slice_index zones c ≡ none) × (test c ≡ true)

test_by : (cells : List (List ℕ)) (zones : List ℕ) (none k left : ℕ) → left < length cells → IsLeast (is_none zones none) left → Frontier cells zones none k → (test : ℕ → Bool) × IsTest cells zones none k test
test_by cells zones none k left lt is (inl (d, within, bare, meets)) = (
  touches cells zones k,
  record {
    to = λ c below none_yet t. inl (touches_split cells zones k c t);
    from = λ c below none_yet fresh.
        ⊎_elim (λ (t : TouchesLast cells zones k c). touches_from cells zones k c t) (λ n. absurd (n.0 d within bare meets)) fresh;
    some = (d, within, bare, touches_from cells zones k d meets);
  },
)
test_by cells zones none k left lt is (inr nobody) =
    let at : slice_index zones left ≡ none = eqb-true (slice_index zones left) none is.passes in (
      λ c. c == left,
      record {
        to = λ c below none_yet t. (let same : c ≡ left = eqb-true c left t in
            inr (
              nobody,
              λ d inside bare. elim (cases_lt d left) [
                | inl low ↦ absurd (false_or_true (is_none zones none d) (is.least d low) (eq-eqb (slice_index zones d) none bare))
                | inr high ↦ omega arith
              ],
            ));
        from = λ c below none_yet fresh. ⊎_elim (λ t. absurd (nobody c below none_yet t))
            (λ n. eq-eqb c left (let a = n.1 left lt at in elim (cases_lt c left) [
              | inl low ↦ absurd (false_or_true (is_none zones none c) (is.least c low) (eq-eqb (slice_index zones c) none none_yet))
              | inr high ↦ omega arith
            ])) fresh;
        some = (left, lt, at, eq-eqb left left refl);
      },
    )

-- the cells that pass get zone k
given : List (List ℕ) → List ℕ → ℕ → ℕ → (ℕ → Bool) → List ℕ
given cells zones none k test = map (λ c. cond (is_none zones none c && test c) k (slice_index zones c)) (range_with_len 0 (length cells))

length_given : (cells : List (List ℕ)) (zones : List ℕ) (none k : ℕ) (test : ℕ → Bool) → length (given cells zones none k test) ≡ length cells
unfolding given
length_given cells zones none k test =
    length-map (range_with_len 0 (length cells)) (λ c. cond (is_none zones none c && test c) k (slice_index zones c)) ∙ length-range_with_len 0 (length cells)

given_at : (cells : List (List ℕ)) (zones : List ℕ) (none k : ℕ) (test : ℕ → Bool) (c : ℕ) → c < length cells →
    slice_index (given cells zones none k test) c ≡ cond (is_none zones none c && test c) k (slice_index zones c)
unfolding given
given_at cells zones none k test c lt =
    get_or-map-range_with_len (λ d. cond (is_none zones none d && test d) k (slice_index zones d)) 0 (length cells) c c 0 lt (omega arith)

given_kept : (cells : List (List ℕ)) (zones : List ℕ) (none k : ℕ) (test : ℕ → Bool) (c : ℕ) → c < length cells → (is_none zones none c && test c) ≡ false → slice_index (given cells zones none k test) c ≡ slice_index zones c
given_kept cells zones none k test c lt f = given_at cells zones none k test c lt ∙ ap (λ (b : Bool). cond b k (slice_index zones c)) f

given_new : (cells : List (List ℕ)) (zones : List ℕ) (none k : ℕ) (test : ℕ → Bool) (c : ℕ) → c < length cells → slice_index zones c ≡ none → test c ≡ true → slice_index (given cells zones none k test) c ≡ k
given_new cells zones none k test c lt is t =
    given_at cells zones none k test c lt ∙ ap (λ (b : Bool). cond b k (slice_index zones c)) (and_both (is_none zones none c) (test c) (eq-eqb (slice_index zones c) none is) t)

not_bare : (zones : List ℕ) (none c : ℕ) (b : Bool) → slice_index zones c ≢ none → (is_none zones none c && b) ≡ false
not_bare zones none c b is = ⊎_elim (λ t. absurd (is (eqb-true (slice_index zones c) none t))) (λ f. ap (λ x. x && b) f) (bool_cases (is_none zones none c))

not_fresh : (zones : List ℕ) (none c : ℕ) (a b : Bool) → b ≡ false → (a && b) ≡ false
not_fresh zones none c true b f = f
not_fresh zones none c false b f = refl

gives : (cells : List (List ℕ)) (zones : List ℕ) (none k : ℕ) (test : ℕ → Bool) → k < none → IsTest cells zones none k test → GivesZone cells zones (given cells zones none k test) none k
gives cells zones none k test real is = record {
  one_each = length_given cells zones none k test;
  kept = λ c lt isnt. given_kept cells zones none k test c lt (not_bare zones none c (test c) isnt);
  fresh = λ c lt bare. ⊎_elim (λ t. inl (given_new cells zones none k test c lt bare t))
      (λ f. inr (given_kept cells zones none k test c lt (not_fresh zones none c (is_none zones none c) (test c) f) ∙ bare)) (bool_cases (test c));
  is_fresh = λ c lt at bare. ⊎_elim (λ t. is.to c lt bare t)
      (λ f. absurd (let e = given_kept cells zones none k test c lt (not_fresh zones none c (is_none zones none c) (test c) f) in omega arith)) (bool_cases (test c));
  from_fresh = λ c lt bare fresh. given_new cells zones none k test c lt bare (is.from c lt bare fresh);
}

fewer : (cells : List (List ℕ)) (zones : List ℕ) (none k : ℕ) (test : ℕ → Bool) → k < none → length zones ≡ length cells → IsTest cells zones none k test →
    without none (given cells zones none k test) + 1 ≤ without none zones
fewer cells zones none k test real len is =
    let g = gives cells zones none k test real is in
    let new : List ℕ = given cells zones none k test in
    let (i, lt, bare, passes) = is.some in
    let now : slice_index new i ≡ k = given_new cells zones none k test i lt bare passes in
    count_falls none zones new i (len ∙ sym g.one_each)
    (λ c within e. (let inside : c < length cells = omega arith in
    ⊎_elim (λ s. s) (λ apart. sym (g.kept c inside apart) ∙ e) (cases_eq (slice_index zones c) none)))
    (omega arith) bare (omega arith)

-- all cells have a zone, or zone k is given to some
step : (cells : List (List ℕ)) (zones : List ℕ) (none k : ℕ) → IsLayered cells zones none k → k < none →
    IsZones cells zones ⊎ ((new : List ℕ) × IsLayered cells new none (k + 1) × (without none new + 1 ≤ without none zones))
step cells zones none k h real = elim (least_below (is_none zones none) (length cells)) [
  | inr full ↦ inl (layered_all cells zones none k h (λ c lt e. false_or_true (is_none zones none c) (full c lt) (eq-eqb (slice_index zones c) none e)))
  | inl left ↦ (let t = test_by cells zones none k left.0 left.1 left.2 (frontier cells zones none k) in
      inr (given cells zones none k t.0, layered_more cells zones (given cells zones none k t.0) none k real h (gives cells zones none k t.0 real t.1), fewer cells zones none k t.0 real h.one_each t.1))
]

zones_from : (fuel : ℕ) (cells : List (List ℕ)) (zones : List ℕ) (none k : ℕ) → IsLayered cells zones none k → without none zones ≤ fuel → k + without none zones < none → (all : List ℕ) × IsZones cells all
zones_from zero cells zones none k h few real = elim (step cells zones none k h (omega arith)) [
  | inl done ↦ (zones, done)
  | inr more ↦ absurd (let less = more.2 in omega arith)
]
zones_from (suc fuel) cells zones none k h few real = elim (step cells zones none k h (omega arith)) [
  | inl done ↦ (zones, done)
  | inr more ↦ (let less = more.2 in zones_from fuel cells more.0 none (k + 1) more.1 (omega arith) (omega arith))
]

pub some_zones : (cells : List (List ℕ)) → (zones : List ℕ) × IsZones cells zones
some_zones cells =
    let n : ℕ = length cells in
    let count = without-replicate (suc n) n in
    zones_from n cells (no_zones n) (suc n) 0 (layered_none cells) (omega arith) (omega arith)
