-- Cells have one colouring at most.
use Rattle.std.proofs.Common.{◌≡◌, ◌≢◌, ◌⊎◌, inl, inr, ⊎_elim, ℕ, ◌+◌, ◌-◌, ◌<◌, ◌≤◌, List, length, Bool, true, false, ◌&&◌, slice_index, take, drop, ◌++◌, ◌∷◌, [], map, zero, suc, refl, sym, ◌∙◌, ap, ap₂, arith, subst}
use Rattle.std.specs.Prelude.{not, Contains, ◌↔◌}
use Rattle.std.proofs.lemmas.Bool.{cases_lt, cases_eq, cases_order, both_ways}
use Rattle.std.proofs.lemmas.List.{ext_get_or, take_more, take_all, length-take, length-drop}
use Rattle.conflict_coloring.specs.Conflict.{has, conflict}
use Rattle.conflict_coloring.specs.Cut.{part}
use Rattle.conflict_coloring.specs.Zones.{IsZones, Touches, NoneTouches, IsLeastAfter, IsNext}
use Rattle.conflict_coloring.specs.Colours.{Picks, IsPick, IsRun, IsColoured, IsLeastFree, IsBefore, IsShift, IsEvenColour, AreInZones, cells_of, coloured, order_of, whole, is_left, saturation, degree, colours_near}
use Rattle.conflict_coloring.specs.Coloring.{Coloring, IsColoring, AreColours, AreNumbered, AreStarts, color_count}
use Rattle.conflict_coloring.proofs.Used.{pick_at, cell_pick, same_default}

-- ---- zones

-- the zones agree where one of them is below k
record Agree (cells : List (List ℕ)) (z w : List ℕ) (k : ℕ) : Type 0 where
  left : (c : ℕ) → c < length cells → slice_index z c < k → slice_index w c ≡ slice_index z c
  right : (c : ℕ) → c < length cells → slice_index w c < k → slice_index z c ≡ slice_index w c

turned : (cells : List (List ℕ)) (z w : List ℕ) (k : ℕ) → Agree cells z w k → Agree cells w z k
turned cells z w k a = record { left = a.right; right = a.left }

touches_same : (cells : List (List ℕ)) (z w : List ℕ) (j c : ℕ) → Agree cells z w (suc j) → Touches cells z j c → Touches cells w j c
touches_same cells z w j c a t = (t.0, t.1, a.left t.0 t.1 (let e = t.2 in omega arith) ∙ t.2, t.3)

after_same : (cells : List (List ℕ)) (z w : List ℕ) (j c : ℕ) → Agree cells z w (suc j) → c < length cells → j < slice_index w c → j < slice_index z c
after_same cells z w j c a lt after = elim (cases_lt (slice_index z c) (suc j)) [
  | inl low ↦ absurd (let e = a.left c lt low in omega arith)
  | inr high ↦ omega arith
]

next_same : (cells : List (List ℕ)) (z w : List ℕ) (j c : ℕ) → Agree cells z w (suc j) → IsNext cells z j c → IsNext cells w j c
next_same cells z w j c a h = ⊎_elim (λ (t : Touches cells z j c). inl (touches_same cells z w j c a t))
    (λ (n : NoneTouches cells z j × IsLeastAfter cells z j c). inr (
      (λ d lt after t. n.0 d lt (after_same cells z w j d a lt after) (touches_same cells w z j d (turned cells z w (suc j) a) t)),
      (λ d lt after. n.1 d lt (after_same cells z w j d a lt after)),
    )) h

-- a cell of zone k of the one is of zone k of the other
here_same : (cells : List (List ℕ)) (z w : List ℕ) (k c : ℕ) → IsZones cells z → IsZones cells w → Agree cells z w k → c < length cells → slice_index z c ≡ k → slice_index w c ≡ k
here_same cells z w zero c hz hw a lt is = (hw.first c lt).1 ((hz.first c lt).0 is)
here_same cells z w (suc j) c hz hw a lt is =
    let after : j < slice_index w c = after_same cells w z j c (turned cells z w (suc j) a) lt (omega arith) in
    let next : IsNext cells z j c = (hz.next j c lt (omega arith)).0 (is ∙ omega arith) in
    let r = (hw.next j c lt after).1 (next_same cells z w j c a next) in
    omega arith

agree : (cells : List (List ℕ)) (z w : List ℕ) (k : ℕ) → IsZones cells z → IsZones cells w → Agree cells z w k
agree cells z w zero hz hw = record { left = λ c lt low. absurd (omega arith); right = λ c lt low. absurd (omega arith) }
agree cells z w (suc k) hz hw =
    let a = agree cells z w k hz hw in
    record {
      left = λ c lt low. elim (cases_lt (slice_index z c) k) [
        | inl less ↦ a.left c lt less
        | inr same ↦ (let e : slice_index z c ≡ k = omega arith in here_same cells z w k c hz hw a lt e ∙ sym e)
      ];
      right = λ c lt low. elim (cases_lt (slice_index w c) k) [
        | inl less ↦ a.right c lt less
        | inr same ↦ (let e : slice_index w c ≡ k = omega arith in here_same cells w z k c hw hz (turned cells z w k a) lt e ∙ sym e)
      ];
    }

one_zones : (cells : List (List ℕ)) (z w : List ℕ) → IsZones cells z → IsZones cells w → z ≡ w
one_zones cells z w hz hw = ext_get_or 0 z w (hz.one_each ∙ sym hw.one_each) (λ c lt.
    sym ((agree cells z w (suc (slice_index z c)) hz hw).left c (let n = hz.one_each in omega arith) (omega arith)))

-- ---- colours of a zone

one_before : (s t m n c d : ℕ) → ((s < t) ⊎ ((s ≡ t) × ((m < n) ⊎ ((m ≡ n) × (c < d))))) → ((t < s) ⊎ ((t ≡ s) × ((n < m) ⊎ ((n ≡ m) × (d < c))))) → ⊥
one_before s t m n c d (inl a) (inl b) = absurd (omega arith)
one_before s t m n c d (inl a) (inr b) = absurd (let e = b.0 in omega arith)
one_before s t m n c d (inr a) (inl b) = absurd (let e = a.0 in omega arith)
one_before s t m n c d (inr (e, inl a)) (inr (f, inl b)) = absurd (omega arith)
one_before s t m n c d (inr (e, inl a)) (inr (f, inr b)) = absurd (let g = b.0 in omega arith)
one_before s t m n c d (inr (e, inr a)) (inr (f, inl b)) = absurd (let g = a.0 in omega arith)
one_before s t m n c d (inr (e, inr a)) (inr (f, inr b)) = absurd (let g = a.1 in let i = b.1 in omega arith)

one_pick : (cells : List (List ℕ)) (zone : List ℕ) (done : Picks) (c k d j : ℕ) → IsPick cells zone done c k → IsPick cells zone done d j → c ≡ d
one_pick cells zone done c k d j a b = elim (cases_eq c d) [
  | inl same ↦ same
  | inr apart ↦ absurd (one_before (saturation cells done d) (saturation cells done c) (degree cells zone d) (degree cells zone c) c d (a.greatest d b.left (λ e. apart (sym e))) (b.greatest c a.left apart))
]

one_free : (used : List ℕ) (k j : ℕ) → IsLeastFree used k → IsLeastFree used j → k ≡ j
one_free used k j a b = elim (cases_order k j) [
  | inl same ↦ same
  | inr o ↦ elim o [
    | inl lt ↦ absurd (both_ways (has used k) a.free (b.least k lt))
    | inr gt ↦ absurd (both_ways (has used j) b.free (a.least j gt))
  ]
]

pair_same : (p q : ℕ × ℕ) → p.0 ≡ q.0 → p.1 ≡ q.1 → ◌≡◌ {A = ℕ × ℕ} p q
pair_same p q e f = ap₂ {C = ℕ × ℕ} (λ (x : ℕ) (y : ℕ). (x, y)) e f

-- as far as both go, two runs are the same
runs_same : (cells : List (List ℕ)) (zone : List ℕ) (a b : Picks) (i : ℕ) → IsRun cells zone a → IsRun cells zone b → i ≤ length a → i ≤ length b → ◌≡◌ {A = List (ℕ × ℕ)} (take i a) (take i b)
runs_same cells zone a b zero ra rb la lb = refl
runs_same cells zone a b (suc i) ra rb la lb =
    let before : ◌≡◌ {A = List (ℕ × ℕ)} (take i a) (take i b) = runs_same cells zone a b i ra rb (omega arith) (omega arith) in
    let pa : IsPick cells zone (take i a) (pick_at a i).0 (pick_at a i).1 = ra i (omega arith) in
    let pb : IsPick cells zone (take i a) (pick_at b i).0 (pick_at b i).1 = subst (λ (done : Picks). IsPick cells zone done (pick_at b i).0 (pick_at b i).1) (sym before) (rb i (omega arith)) in
    let cell : (pick_at a i).0 ≡ (pick_at b i).0 = one_pick cells zone (take i a) (pick_at a i).0 (pick_at a i).1 (pick_at b i).0 (pick_at b i).1 pa pb in
    let free_b : IsLeastFree (colours_near cells (take i a) (pick_at a i).0) (pick_at b i).1 = subst (λ (c : ℕ). IsLeastFree (colours_near cells (take i a) c) (pick_at b i).1) (sym cell) pb.least_free in
    let colour : (pick_at a i).1 ≡ (pick_at b i).1 = one_free (colours_near cells (take i a) (pick_at a i).0) (pick_at a i).1 (pick_at b i).1 pa.least_free free_b in
    let pick : ◌≡◌ {A = ℕ × ℕ} (pick_at a i) (pick_at b i) = pair_same (pick_at a i) (pick_at b i) cell colour in
    let P : ℕ → Type 0 = λ n. ◌≡◌ {A = List (ℕ × ℕ)} (take n a) (take n b) in
    let s : i + 1 ≡ suc i = omega arith in
    let below_a : i < length a = omega arith in
    let below_b : i < length b = omega arith in
    subst P s (take_more a i (0, 0) below_a ∙ ap₂ (λ (xs : List (ℕ × ℕ)) (p : ℕ × ℕ). xs ++ p ∷ []) before pick ∙ sym (take_more b i (0, 0) below_b))

-- a coloured zone has no shorter run
not_longer : (cells : List (List ℕ)) (zone : List ℕ) (a b : Picks) → IsColoured cells zone a → IsRun cells zone b → length a < length b → ⊥
not_longer cells zone a b done rb lt =
    let n : ℕ = length a in
    let same : ◌≡◌ {A = List (ℕ × ℕ)} (take n a) (take n b) = runs_same cells zone a b n done.0 rb (omega arith) (omega arith) in
    let all : ◌≡◌ {A = List (ℕ × ℕ)} (take n a) a = take_all n a (omega arith) in
    let left : is_left zone (take n b) (pick_at b n).0 ≡ true = (rb n lt).left in
    let none : is_left zone a (pick_at b n).0 ≡ false = done.1 (pick_at b n).0 in
    both_ways (is_left zone a (pick_at b n).0) none (ap (λ (xs : Picks). is_left zone xs (pick_at b n).0) (sym all ∙ same) ∙ left)

one_run : (cells : List (List ℕ)) (zone : List ℕ) (a b : Picks) → IsColoured cells zone a → IsColoured cells zone b → ◌≡◌ {A = List (ℕ × ℕ)} a b
one_run cells zone a b da db = elim (cases_order (length a) (length b)) [
  | inl same ↦ sym (take_all (length a) a (omega arith)) ∙ runs_same cells zone a b (length a) da.0 db.0 (omega arith) (omega arith) ∙ take_all (length a) b (omega arith)
  | inr o ↦ elim o [
    | inl lt ↦ absurd (not_longer cells zone a b da db.0 lt)
    | inr gt ↦ absurd (not_longer cells zone b a db da.0 gt)
  ]
]

inside_same : (cells : List (List ℕ)) (zones a b : List ℕ) (c : ℕ) → AreInZones cells zones a → AreInZones cells zones b → c < length zones → slice_index a c ≡ slice_index b c
inside_same cells zones a b c ha hb lt =
    let z : ℕ = slice_index zones c in
    let done : Picks = (ha z).0 in
    let same : ◌≡◌ {A = List (ℕ × ℕ)} done (hb z).0 = one_run cells (cells_of zones z) done (hb z).0 (ha z).1 (hb z).1 in
    let link : (p : ℕ × ℕ) → Contains done p → slice_index b p.0 ≡ p.1 = subst (λ (xs : Picks). (p : ℕ × ℕ) → Contains xs p → slice_index b p.0 ≡ p.1) (sym same) (hb z).2 in
    let p = cell_pick cells zones a c done (ha z).1 (ha z).2 lt in
    sym p.3 ∙ sym (link (pick_at done p.0) (p.0, p.1, same_default done p.0 (pick_at done p.0) (0, 0) p.1)) ∙ ap (slice_index b) p.2

shift_below : (zones a b : List ℕ) (e f : ℕ) → ((c : ℕ) → c < length zones → slice_index a c ≡ slice_index b c) → IsShift zones a e → IsShift zones b f → e ≤ f
shift_below zones a b e f same ha hb = elim (cases_eq e 0) [
  | inl none ↦ omega arith
  | inr some ↦ (let top = ha.least (omega arith) in
      let there = top.1 in
      let low = hb.above top.0 (there.0, there.1, there.2, sym (same there.0 there.1) ∙ there.3) in
      let last = top.2 in
      omega arith)
]

one_colours : (cells : List (List ℕ)) (zones a b : List ℕ) → IsZones cells zones → AreColours cells zones a → AreColours cells zones b → a ≡ b
one_colours cells zones a b is ha hb =
    let n = is.one_each in
    let same : (c : ℕ) → c < length zones → slice_index ha.inside c ≡ slice_index hb.inside c = λ c lt. inside_same cells zones ha.inside hb.inside c ha.in_zones hb.in_zones lt in
    let low = shift_below zones ha.inside hb.inside ha.shift hb.shift same ha.is_shift hb.is_shift in
    let high = shift_below zones hb.inside ha.inside hb.shift ha.shift (λ c lt. sym (same c lt)) hb.is_shift ha.is_shift in
    let shift : ha.shift ≡ hb.shift = omega arith in
    ext_get_or 0 a b (ha.one_each ∙ sym hb.one_each) (λ c lt.
    (let below : c < length cells = (let e = ha.one_each in omega arith) in
    let inside : slice_index ha.inside c ≡ slice_index hb.inside c = same c (omega arith) in
    ha.joined c below ∙ ap₂ (λ (e : ℕ) (k : ℕ). whole e (slice_index zones c) k) shift inside ∙ sym (hb.joined c below)))

-- ---- the order

count_below : (colours : List ℕ) (n m : ℕ) → AreNumbered colours n → AreNumbered colours m → n ≤ m
count_below colours n m a b = elim (cases_lt m n) [
  | inl less ↦ absurd (let low = (b m).0 ((a m).1 less) in omega arith)
  | inr le ↦ le
]

part_length : (xs : List ℕ) (s t : ℕ) → s ≤ t → t ≤ length xs → length (part xs s t) ≡ t - s
part_length xs s t le inside = length-take (t - s) (drop s xs) ∙ (let n = length-drop s xs in omega arith)

start_same : (colours order a b : List ℕ) (n k : ℕ) → AreStarts colours order a n → AreStarts colours order b n → k ≤ n → slice_index a k ≡ slice_index b k
start_same colours order a b n zero ha hb le = ha.first ∙ sym hb.first
start_same colours order a b n (suc k) ha hb le =
    let before = start_same colours order a b n k ha hb (omega arith) in
    let s : k + 1 ≡ suc k = omega arith in
    let pa = ap length (ha.each k (omega arith)) in
    let pb = ap length (hb.each k (omega arith)) in
    let la = part_length order (slice_index a k) (slice_index a (k + 1)) (ha.rising k (omega arith)) (ha.within (k + 1) (omega arith)) in
    let lb = part_length order (slice_index b k) (slice_index b (k + 1)) (hb.rising k (omega arith)) (hb.within (k + 1) (omega arith)) in
    let ra = ha.rising k (omega arith) in
    let rb = hb.rising k (omega arith) in
    let next : slice_index a (k + 1) ≡ slice_index b (k + 1) = omega arith in
    subst (λ (m : ℕ). slice_index a m ≡ slice_index b m) s next

one_starts : (colours order a b : List ℕ) (n : ℕ) → AreStarts colours order a n → AreStarts colours order b n → a ≡ b
one_starts colours order a b n ha hb =
    ext_get_or 0 a b (ha.one_more ∙ sym hb.one_more) (λ k lt. start_same colours order a b n k ha hb (let e = ha.one_more in omega arith))

abbrev coloring_of : List ℕ → List ℕ → List ℕ → List ℕ → Coloring
coloring_of zones colors order starts = record { zones = zones; colors = colors; order = order; starts = starts }

coloring_same : (a b : Coloring) → a.zones ≡ b.zones → a.colors ≡ b.colors → a.order ≡ b.order → a.starts ≡ b.starts → a ≡ b
coloring_same a b e f g h =
    ap₂ (λ (z : List ℕ) (c : List ℕ). coloring_of z c a.order a.starts) e f ∙ ap₂ (λ (o : List ℕ) (s : List ℕ). coloring_of b.zones b.colors o s) g h

pub one_coloring : (cells : List (List ℕ)) (a b : Coloring) → IsColoring cells a → IsColoring cells b → a ≡ b
one_coloring cells a b ha hb =
    let zones : a.zones ≡ b.zones = one_zones cells a.zones b.zones ha.zones hb.zones in
    let colours_b : AreColours cells a.zones b.colors = subst (λ (zs : List ℕ). AreColours cells zs b.colors) (sym zones) hb.colours in
    let colours : a.colors ≡ b.colors = one_colours cells a.zones a.colors b.colors ha.zones ha.colours colours_b in
    let numbered_b : AreNumbered a.colors (color_count b) = subst (λ (cs : List ℕ). AreNumbered cs (color_count b)) (sym colours) hb.numbered in
    let low = count_below a.colors (color_count a) (color_count b) ha.numbered numbered_b in
    let high = count_below a.colors (color_count b) (color_count a) numbered_b ha.numbered in
    let count : color_count a ≡ color_count b = omega arith in
    let order : a.order ≡ b.order = ha.order ∙ ap₂ (λ (cs : List ℕ) (n : ℕ). order_of cs n) colours count ∙ sym hb.order in
    let starts_b : AreStarts a.colors a.order b.starts (color_count a) =
    subst (λ (n : ℕ). AreStarts a.colors a.order b.starts n) (sym count) (subst (λ (cs : List ℕ). AreStarts cs a.order b.starts (color_count b)) (sym colours) (subst (λ (xs : List ℕ). AreStarts b.colors xs b.starts (color_count b)) (sym order) hb.starts)) in
    coloring_same a b zones colours order (one_starts a.colors a.order a.starts b.starts (color_count a) ha.starts starts_b)
