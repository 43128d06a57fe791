-- The colouring of a zone, with what is noted.
use Rattle.std.proofs.Common.{◌≡◌, ◌≢◌, inl, inr, ⊎_elim, ℕ, ◌+◌, ◌-◌, ◌<◌, ◌≤◌, List, [], ◌∷◌, ◌++◌, length, Bool, true, false, cond, ◌||◌, ◌&&◌, ◌==◌, slice_index, slice_set, take, map, sym, ◌∙◌, ap, arith, nat_eq}
use Rattle.std.specs.Prelude.{not, filter}
use Rattle.std.specs.List.{list_any, IsDistinct, range_with_len}
use Rattle.std.specs.Ordering.{is_eq}
use Rattle.std.specs.BTreeSet.{BTreeSet, contains, Updates}
use Rattle.std.proofs.lemmas.Bool.{eqb-true, eq-eqb, cases_eq, or_cases}
use Rattle.std.proofs.lemmas.Cmp.{nat_eq_equiv}
use Rattle.std.proofs.lemmas.Map.Made.{length-from_keys, length-le_from_is_member}
use Rattle.std.proofs.lemmas.List.FromFn.{length-range_with_len}
use Rattle.std.proofs.lemmas.List.Sums.{length-filter, count_by-le-length}
use Rattle.std.proofs.lemmas.List.{length-map}
use Rattle.std.proofs.lemmas.List.Elements.{All-filter}
use Rattle.std.proofs.lemmas.List.Folds.{list_any-append, list_any_more}
use Rattle.conflict_coloring.specs.Conflict.{has, conflict}
use Rattle.conflict_coloring.specs.Colours.{Picks, IsLeastFree, cells_of, degree, saturation, colours_near}
use Rattle.conflict_coloring.specs.Near.{near_of}
use Rattle.conflict_coloring.specs.Links.{Keys, key_cmp, AreKeys, IsLinked, is_bare}
use Rattle.conflict_coloring.specs.Board.{pair_cmp, IsCount, IsBoard, AreNoted, IsShort}
use Rattle.conflict_coloring.proofs.Members.{bool_cases, false_or_true, has_all}
use Rattle.conflict_coloring.proofs.Picks.{eq_turned, and_left, and_right, any_map, used_is, has_colours}
use Rattle.conflict_coloring.proofs.Spreads.{has_filter, has_range, range_below}
use Rattle.conflict_coloring.proofs.Table.{any_agree}
use Rattle.conflict_coloring.proofs.Keys.{key_same, put_more}
use Rattle.conflict_coloring.proofs.Runs.{below_short, conflict_self, conflict_sym}
use Rattle.conflict_coloring.proofs.Nears.{has_near_of}
use Rattle.conflict_coloring.proofs.Boards.{bare_set}

pub in_zone : (zones : List ℕ) (z x : ℕ) → has (cells_of zones z) x ≡ true → (slice_index zones x ≡ z) × (x < length zones)
in_zone zones z x h =
    let t : (slice_index zones x == z) ≡ true = and_right (has (range_with_len 0 (length zones)) x) (slice_index zones x == z) (sym (has_filter (λ d. slice_index zones d == z) (range_with_len 0 (length zones)) x) ∙ h) in (
      eqb-true (slice_index zones x) z t,
      has_all (λ y. y < length zones) (cells_of zones z) x
          (All-filter (λ d. slice_index zones d == z) (λ y. y < length zones) (range_with_len 0 (length zones)) (range_below 0 (length zones) (length zones) (omega arith))) h,
    )

-- one more key at the start
pub key_put : (cells : List (List ℕ)) (zone counts xs : List ℕ) (old new : BTreeSet Keys) (i a b : ℕ) → i < length xs → slice_index xs i ≤ 4294967295 → a ≡ slice_index counts (slice_index xs i) → b ≡ degree cells zone (slice_index xs i) →
    Updates key_cmp old new (a, b, 4294967295 - slice_index xs i) true →
    ((s m d : ℕ) → d ≤ 4294967295 → contains key_cmp old (s, m, 4294967295 - d) ≡ (has (take i xs) d && (s == slice_index counts d && m == degree cells zone d))) → (s m d : ℕ) → d ≤ 4294967295 →
    contains key_cmp new (s, m, 4294967295 - d) ≡ (has (take (i + 1) xs) d && (s == slice_index counts d && m == degree cells zone d))
key_put cells zone counts xs old new i a b inside small ea eb put h s m d le =
    let x : ℕ = slice_index xs i in
    put.0 (s, m, 4294967295 - d) ∙ ap (λ t. cond t true (contains key_cmp old (s, m, 4294967295 - d))) (key_same 4294967295 a b x s m d small le)
    ∙ ap (λ t. cond (a == s && (b == m && x == d)) true t) (h s m d le)
    ∙ put_more a b (slice_index counts d) (degree cells zone d) x d s m false (has (take i xs) d) (λ e. ea ∙ ap (slice_index counts) e) (λ e. eb ∙ ap (degree cells zone) e)
    ∙ ap (λ t. t && (s == slice_index counts d && m == degree cells zone d)) (sym (list_any_more (λ y. y == d) xs i 0 inside))

none_distinct : IsDistinct nat_eq []
unfolding IsDistinct
none_distinct = tt

pub board_start : (cells : List (List ℕ)) (zone colours counts : List ℕ) (used : BTreeSet (ℕ × ℕ)) (keys : BTreeSet Keys) → used.keys ≡ [] → ((d : ℕ) → has zone d ≡ is_bare zone colours 4294967295 d) → ((d : ℕ) → has zone d ≡ true → slice_index counts d ≡ 0) →
    ((s m d : ℕ) → d ≤ 4294967295 → contains key_cmp keys (s, m, 4294967295 - d) ≡ (has zone d && (s == slice_index counts d && m == degree cells zone d))) → IsBoard cells zone (is_bare zone colours 4294967295) counts used keys
board_start cells zone colours counts used keys empty bare zero h = record {
  keyed = λ s m d le. h s m d le ∙ ap (λ b. b && (s == slice_index counts d && m == degree cells zone d)) (bare d);
  counted = λ d t. let z = zero d (bare d ∙ t) in ([], none_distinct, (λ k. ap (λ ks. list_any (λ q. is_eq (pair_cmp (d, k) q)) ks) empty), sym z);
  real = λ d k t. absurd (false_or_true (contains pair_cmp used (d, k)) (ap (λ ks. list_any (λ q. is_eq (pair_cmp (d, k) q)) ks) empty) t);
}

pub noted_start : (cells : List (List ℕ)) (present : ℕ → Bool) (used : BTreeSet (ℕ × ℕ)) → used.keys ≡ [] → AreNoted cells [] present used
noted_start cells present used empty = λ d k t. ap (λ ks. list_any (λ q. is_eq (pair_cmp (d, k) q)) ks) empty

pub count_is : (cells : List (List ℕ)) (picks : Picks) (used : BTreeSet (ℕ × ℕ)) (d n : ℕ) → IsCount used d n → ((k : ℕ) → contains pair_cmp used (d, k) ≡ has (colours_near cells picks d) k) → n ≡ saturation cells picks d
unfolding saturation
count_is cells picks used d n c h =
    sym c.3
    ∙ length-from_keys nat_eq_equiv c.0 (colours_near cells picks d) c.1
    (λ q. any_agree (nat_eq q) (λ y. y == q) c.0 (eq_turned q) ∙ sym (c.2 q) ∙ h q ∙ sym (any_agree (nat_eq q) (λ y. y == q) (colours_near cells picks d) (eq_turned q)))

-- the keys by saturation
pub keys_from : (cells : List (List ℕ)) (zone counts : List ℕ) (present : ℕ → Bool) (picks : Picks) (used : BTreeSet (ℕ × ℕ)) (keys : BTreeSet Keys) → IsBoard cells zone present counts used keys → AreNoted cells picks present used → AreKeys cells zone picks present keys
keys_from cells zone counts present picks used keys h noted = λ s m d le.
    h.keyed s m d le
    ∙ ⊎_elim (λ (t : present d ≡ true). ap (λ y. present d && (s == y && m == degree cells zone d)) (count_is cells picks used d (slice_index counts d) (h.counted d t) (λ k. noted d k t)))
    (λ (f : present d ≡ false). ap (λ b. b && (s == slice_index counts d && m == degree cells zone d)) f ∙ sym (ap (λ b. b && (s == saturation cells picks d && m == degree cells zone d)) f)) (bool_cases (present d))

out_here : (p r t : Bool) (u : Bool) → t ≡ true → u ≡ r → cond u false (p && r) ≡ ((p && not (t || false)) && r)
out_here p r t u et e = grind arith

out_there : (p r t : Bool) (u : Bool) → t ≡ false → u ≡ false → cond u false (p && r) ≡ ((p && not (t || false)) && r)
out_there p r t u et e = grind arith

test_same : (a b s m x d : ℕ) → x ≡ d → (a == s && (b == m && x == d)) ≡ (s == a && m == b)
test_same a b s m x d e = grind arith

test_apart : (a b s m x d : ℕ) → x ≢ d → (a == s && (b == m && x == d)) ≡ false
test_apart a b s m x d e = grind arith

-- the greatest key is out
pub board_out : (cells : List (List ℕ)) (zone counts : List ℕ) (present : ℕ → Bool) (used : BTreeSet (ℕ × ℕ)) (old new : BTreeSet Keys) (a b r x : ℕ) → IsBoard cells zone present counts used old → r ≤ 4294967295 → x ≡ 4294967295 - r →
    contains key_cmp old (a, b, r) ≡ true → Updates key_cmp old new (a, b, r) false → IsBoard cells zone (λ d. present d && not (has (x ∷ []) d)) counts used new
board_out cells zone counts present used old new a b r x h small is there out = record {
  keyed = λ s m d le.
      let back : r ≡ 4294967295 - x = omega arith in
      let low : x ≤ 4294967295 = omega arith in
      let t : (present x && (a == slice_index counts x && b == degree cells zone x)) ≡ true = sym (h.keyed a b x low) ∙ ap (λ y. contains key_cmp old (a, b, y)) (sym back) ∙ there in
      let u = and_right (present x) (a == slice_index counts x && b == degree cells zone x) t in
      let ea : a ≡ slice_index counts x = eqb-true a (slice_index counts x) (and_left (a == slice_index counts x) (b == degree cells zone x) u) in
      let eb : b ≡ degree cells zone x = eqb-true b (degree cells zone x) (and_right (a == slice_index counts x) (b == degree cells zone x) u) in
      out.0 (s, m, 4294967295 - d) ∙ ap (λ y. cond (is_eq (key_cmp (a, b, y) (s, m, 4294967295 - d))) false (contains key_cmp old (s, m, 4294967295 - d))) back
      ∙ ap (λ y. cond y false (contains key_cmp old (s, m, 4294967295 - d))) (key_same 4294967295 a b x s m d low le)
      ∙ ap (λ y. cond (a == s && (b == m && x == d)) false y) (h.keyed s m d le)
      ∙ ⊎_elim
      (λ (e : x ≡ d).
      out_here (present d) (s == slice_index counts d && m == degree cells zone d) (x == d) (a == s && (b == m && x == d)) (eq-eqb x d e)
      (test_same a b s m x d e ∙ ap (λ y. s == y && m == b) (ea ∙ ap (slice_index counts) e) ∙ ap (λ y. s == slice_index counts d && m == y) (eb ∙ ap (degree cells zone) e)))
      (λ (e : x ≢ d). let f : (x == d) ≡ false = grind arith in out_there (present d) (s == slice_index counts d && m == degree cells zone d) (x == d) (a == s && (b == m && x == d)) f (test_apart a b s m x d e))
      (cases_eq x d);
  counted = λ d t. h.counted d (and_left (present d) (not (has (x ∷ []) d)) t);
  real = h.real;
}

zone_length : (zones : List ℕ) (z : ℕ) → length (cells_of zones z) ≤ length zones
zone_length zones z =
    let p : ℕ → Bool = λ c. slice_index zones c == z in
    let n = length-range_with_len 0 (length zones) in
    omega (arith, length-filter p (range_with_len 0 (length zones)), count_by-le-length p (range_with_len 0 (length zones)))

-- different numbers below n are at most n
distinct_short : (ns : List ℕ) (n : ℕ) → IsDistinct nat_eq ns → ((k : ℕ) → has ns k ≡ true → k < n) → length ns ≤ n
distinct_short ns n distinct below =
    let le : length ns ≤ length (range_with_len 0 n) =
    length-le_from_is_member nat_eq_equiv ns (range_with_len 0 n) distinct
    (λ q m.
    (let in_list : has ns q ≡ true = sym (any_agree (nat_eq q) (λ y. y == q) ns (eq_turned q)) ∙ m in
    let low = below q in_list in
    any_agree (nat_eq q) (λ y. y == q) (range_with_len 0 n) (eq_turned q) ∙ has_range 0 n q (omega arith) (omega arith))) in
    let l = length-range_with_len 0 n in
    omega arith

-- how many colours are noted for a cell
pub count_short : (cells : List (List ℕ)) (zone counts : List ℕ) (present : ℕ → Bool) (used : BTreeSet (ℕ × ℕ)) (keys : BTreeSet Keys) (d : ℕ) → IsBoard cells zone present counts used keys → present d ≡ true → slice_index counts d ≤ 4294967295
count_short cells zone counts present used keys d h here =
    let count = h.counted d here in
    let short = distinct_short count.0 4294967295 count.1 (λ k m. h.real d k (count.2 k ∙ m)) in
    let l = count.3 in
    omega arith

filter_less : (p : ℕ → Bool) (xs : List ℕ) (c : ℕ) → has xs c ≡ true → p c ≡ false → length (filter p xs) < length xs
filter_less p [] c h off = absurd (cc)
filter_less p (x ∷ xs) c h off =
    let short : length (filter p xs) ≤ length xs = omega (arith, length-filter p xs, count_by-le-length p xs) in
    elim (or_cases (x == c) (has xs c) h) [
      | inl here ↦ (let f : p x ≡ false = ap p (eqb-true x c here) ∙ off in
          let e : filter p (x ∷ xs) ≡ filter p xs = ap (λ b. cond b (x ∷ filter p xs) (filter p xs)) f in
          let l = ap length e in omega arith)
      | inr there ↦ (let less = filter_less p xs c there off in
          elim (bool_cases (p x)) [
            | inl t ↦ (let e : filter p (x ∷ xs) ≡ x ∷ filter p xs = ap (λ b. cond b (x ∷ filter p xs) (filter p xs)) t in
                let l = ap length e in omega arith)
            | inr f ↦ (let e : filter p (x ∷ xs) ≡ filter p xs = ap (λ b. cond b (x ∷ filter p xs) (filter p xs)) f in
                let l = ap length e in omega arith)
          ])
    ]

pub short_from : (cells : List (List ℕ)) (zones colours : List ℕ) (z none : ℕ) (picks : Picks) (used : BTreeSet (ℕ × ℕ)) (c : ℕ) → IsLinked (cells_of zones z) colours none picks → ((k : ℕ) → contains pair_cmp used (c, k) ≡ has (colours_near cells picks c) k) →
    length zones ≤ none → has (cells_of zones z) c ≡ true → IsShort used c none
short_from cells zones colours z none picks used c link noted few inside = λ k all.
    let near : List ℕ = filter (λ d. conflict cells c d) (cells_of zones z) in
    let le : k ≤ length (map (slice_index colours) near) =
    below_short (map (slice_index colours) near) k
    (λ j lt. any_map (slice_index colours) (λ y. y == j) near
    ∙ and_right (not (j == none)) (list_any (λ e. slice_index colours e == j) near) (used_is cells (cells_of zones z) colours none picks c j link ∙ sym (noted j) ∙ all j lt)) in
    let m = length-map near (slice_index colours) in
    let n = filter_less (λ d. conflict cells c d) (cells_of zones z) c inside (conflict_self cells c) in
    let s = zone_length zones z in
    omega arith

pub least_from : (cells : List (List ℕ)) (picks : Picks) (used : BTreeSet (ℕ × ℕ)) (c k : ℕ) → ((j : ℕ) → contains pair_cmp used (c, j) ≡ has (colours_near cells picks c) j) → contains pair_cmp used (c, k) ≡ false → ((j : ℕ) → j < k → contains pair_cmp used (c, j) ≡ true) →
    IsLeastFree (colours_near cells picks c) k
least_from cells picks used c k noted free least = record { free = sym (noted k) ∙ free; least = λ j lt. sym (noted j) ∙ least j lt }

join : (old a b z p : Bool) → z ≡ true → p ≡ true → (old || ((a && z) && (p && b))) ≡ (old || ((a && b) || false))
join old a b z p ez ep = grind arith

pub noted_more : (cells : List (List ℕ)) (zones old : List ℕ) (z : ℕ) (picks : Picks) (used new : BTreeSet (ℕ × ℕ)) (c colour : ℕ) → length zones ≡ length cells → slice_index zones c ≡ z → colour < 4294967295 → c < length old →
    AreNoted cells picks (is_bare (cells_of zones z) old 4294967295) used →
    ((d k : ℕ) → contains pair_cmp new (d, k) ≡ (contains pair_cmp used (d, k) || (has (near_of cells zones c) d && (is_bare (cells_of zones z) (slice_set old c colour) 4294967295 d && colour == k)))) →
    AreNoted cells (picks ++ (c, colour) ∷ []) (is_bare (cells_of zones z) (slice_set old c colour) 4294967295) new
noted_more cells zones old z picks used new c colour len ez real room noted step = λ d k t.
    let zone : List ℕ = cells_of zones z in
    let was : is_bare zone old 4294967295 d ≡ true = and_left (is_bare zone old 4294967295 d) (not (has (c ∷ []) d)) (bare_set zone old 4294967295 c colour d real room ∙ t) in
    let inside = in_zone zones z d (and_left (has zone d) (slice_index (slice_set old c colour) d == 4294967295) t) in
    let same : (slice_index zones d == slice_index zones c) ≡ true = eq-eqb (slice_index zones d) (slice_index zones c) (inside.0 ∙ sym ez) in
    step d k
    ∙ ap (λ y. contains pair_cmp used (d, k) || (y && (is_bare zone (slice_set old c colour) 4294967295 d && colour == k))) (has_near_of cells zones c d len)
    ∙ join (contains pair_cmp used (d, k)) (conflict cells c d) (colour == k) (slice_index zones d == slice_index zones c) (is_bare zone (slice_set old c colour) 4294967295 d) same t
    ∙ ap (λ y. y || ((conflict cells c d && colour == k) || false)) (noted d k was ∙ has_colours cells picks d k)
    ∙ ap (λ y. list_any (λ p. conflict cells d p.0 && (p.1 == k)) picks || ((y && colour == k) || false)) (conflict_sym cells c d)
    ∙ sym (has_colours cells (picks ++ (c, colour) ∷ []) d k ∙ list_any-append (λ p. conflict cells d p.0 && (p.1 == k)) picks ((c, colour) ∷ []))
