-- One pick more.
use Rattle.std.proofs.Common.{◌≡◌, ◌≢◌, ⊎_elim, ℕ, ◌<◌, ◌≤◌, List, [], ◌∷◌, ◌++◌, length, Bool, true, false, cond, ◌||◌, ◌&&◌, ◌==◌, slice_index, slice_set, map, refl, sym, ◌∙◌, ap, arith, subst, nat_eq}
use Rattle.std.specs.Prelude.{All, not, filter}
use Rattle.std.specs.List.{list_any, range_with_len, IsDistinct}
use Rattle.std.specs.Set.{distinct_count}
use Rattle.std.specs.BTreeSet.{BTreeSet, contains}
use Rattle.std.proofs.lemmas.Bool.{eqb-true, eq-eqb, cases_eq}
use Rattle.std.proofs.lemmas.List.{append-nil, length-map}
use Rattle.std.proofs.lemmas.List.FromFn.{length-range_with_len}
use Rattle.std.proofs.lemmas.List.Sums.{length-filter, count_by-le-length}
use Rattle.std.proofs.lemmas.Cmp.{nat_eq_equiv}
use Rattle.std.proofs.lemmas.Map.Keys.{IsDistinct-from_sorted}
use Rattle.std.proofs.lemmas.Map.Made.{length-le_from_is_member}
use Rattle.std.specs.Ordering.{nat_cmp}
use Rattle.std.proofs.lemmas.List.Folds.{list_any-append}
use Rattle.std.proofs.lemmas.List.Elements.{All-filter, filter-append}
use Rattle.std.proofs.lemmas.Grind.{common_steps}
use Rattle.conflict_coloring.specs.Conflict.{has, share, rows_of, conflict}
use Rattle.conflict_coloring.specs.Links.{IsLinked, AreKeys, Keys, is_bare}
use Rattle.conflict_coloring.proofs.Members.{any_from, any_split, bool_cases, has_all}
use Rattle.conflict_coloring.proofs.Picks.{bool_iff, and_left, and_right, eq_turned, eq_is, any_map}
use Rattle.conflict_coloring.proofs.Table.{any_agree, range_rising}
use Rattle.conflict_coloring.specs.Colours.{Picks, saturation, degree, cells_of}
use Rattle.conflict_coloring.proofs.Spreads.{has_filter, range_below}

pub in_zone_within : (zones near : List ℕ) (zone : ℕ) (p : ℕ → Bool) → near ≡ filter p (cells_of zones zone) → All (λ x. x < length zones) near
in_zone_within zones near zone p e =
    let P : List ℕ → Type 0 = λ xs. All (λ x. x < length zones) xs in
    subst P (sym e)
    (All-filter p (λ x. x < length zones) (cells_of zones zone)
    (All-filter (λ c. slice_index zones c == zone) (λ x. x < length zones) (range_with_len 0 (length zones)) (range_below 0 (length zones) (length zones) (omega arith))))

share_sym : (xs ys : List ℕ) → share xs ys ≡ true → share ys xs ≡ true
share_sym xs ys h = let f = any_split (has ys) xs h in any_from (has xs) ys f.0 f.2 f.1

pub conflict_sym : (cells : List (List ℕ)) (a b : ℕ) → conflict cells a b ≡ conflict cells b a
unfolding conflict
conflict_sym cells a b =
    let s : share (rows_of cells a) (rows_of cells b) ≡ share (rows_of cells b) (rows_of cells a) = bool_iff (share (rows_of cells a) (rows_of cells b)) (share (rows_of cells b) (rows_of cells a)) (share_sym (rows_of cells a) (rows_of cells b)) (share_sym (rows_of cells b) (rows_of cells a)) in
    let t : (a == b) ≡ (b == a) = eq_turned a b in
    ap (λ x. not x && share (rows_of cells a) (rows_of cells b)) t ∙ ap (λ x. not (b == a) && x) s

pub conflict_self : (cells : List (List ℕ)) (a : ℕ) → conflict cells a a ≡ false
unfolding conflict
conflict_self cells a = ap (λ x. not x && share (rows_of cells a) (rows_of cells a)) (eq-eqb a a refl)

link_same : (z : Bool) (j k none : ℕ) → z ≡ true → k < none → ((z && (not (j == none) && none == j)) || ((true && k == j) || false)) ≡ (z && (not (j == none) && k == j))
link_same z j k none h real = grind arith

link_other : (a z : Bool) (o j k : ℕ) → (a || ((false && k == j) || false)) ≡ a
link_other a z o j k = grind arith

linked_at : (zone colours : List ℕ) (none cell k j : ℕ) (picks : Picks) → IsLinked zone colours none picks → is_bare zone colours none cell ≡ true → cell < length colours → k < none →
    list_any (λ p. p.0 == cell && p.1 == j) (picks ++ (cell, k) ∷ []) ≡ (has zone cell && (not (j == none) && slice_index (slice_set colours cell k) cell == j))
linked_at zone colours none cell k j picks link free inside real =
    let z : has zone cell ≡ true = and_left (has zone cell) (slice_index colours cell == none) free in
    let was : slice_index colours cell ≡ none = eqb-true (slice_index colours cell) none (and_right (has zone cell) (slice_index colours cell == none) free) in
    let now : slice_index (slice_set colours cell k) cell ≡ k = grind (arith, common_steps) in
    list_any-append (λ p. p.0 == cell && p.1 == j) picks ((cell, k) ∷ [])
    ∙ ap (λ b. b || ((cell == cell && k == j) || false)) (link cell j)
    ∙ ap (λ b. (has zone cell && (not (j == none) && slice_index colours cell == j)) || ((b && k == j) || false)) (eq-eqb cell cell refl)
    ∙ ap (λ o. (has zone cell && (not (j == none) && o == j)) || ((true && k == j) || false)) was
    ∙ link_same (has zone cell) j k none z real
    ∙ ap (λ o. has zone cell && (not (j == none) && o == j)) (sym now)

linked_apart : (zone colours : List ℕ) (none cell k e j : ℕ) (picks : Picks) → IsLinked zone colours none picks → e ≢ cell →
    list_any (λ p. p.0 == e && p.1 == j) (picks ++ (cell, k) ∷ []) ≡ (has zone e && (not (j == none) && slice_index (slice_set colours cell k) e == j))
linked_apart zone colours none cell k e j picks link apart =
    let f : (cell == e) ≡ false = grind arith in
    let same : slice_index (slice_set colours cell k) e ≡ slice_index colours e = grind (arith, common_steps) in
    list_any-append (λ p. p.0 == e && p.1 == j) picks ((cell, k) ∷ [])
    ∙ ap (λ b. list_any (λ p. p.0 == e && p.1 == j) picks || ((b && k == j) || false)) f
    ∙ link_other (list_any (λ p. p.0 == e && p.1 == j) picks) true 0 j k
    ∙ link e j
    ∙ ap (λ o. has zone e && (not (j == none) && o == j)) (sym same)

pub linked_more : (zone colours : List ℕ) (none cell k : ℕ) (picks : Picks) → IsLinked zone colours none picks → is_bare zone colours none cell ≡ true → cell < length colours → k < none →
    IsLinked zone (slice_set colours cell k) none (picks ++ (cell, k) ∷ [])
linked_more zone colours none cell k picks link free inside real e j =
    ⊎_elim
    (λ (same : e ≡ cell).
    let P : ℕ → Type 0 = λ x. list_any (λ p. p.0 == x && p.1 == j) (picks ++ (cell, k) ∷ []) ≡ (has zone x && (not (j == none) && slice_index (slice_set colours cell k) x == j)) in
    subst P (sym same) (linked_at zone colours none cell k j picks link free inside real))
    (λ apart. linked_apart zone colours none cell k e j picks link apart) (cases_eq e cell)

sat_same : (cells : List (List ℕ)) (picks : Picks) (cell k d : ℕ) → conflict cells d cell ≡ false → saturation cells (picks ++ (cell, k) ∷ []) d ≡ saturation cells picks d
unfolding saturation
sat_same cells picks cell k d apart =
    ap (λ ps. distinct_count nat_eq (map (λ p. p.1) ps))
    (filter-append (λ p. conflict cells d p.0) picks ((cell, k) ∷ []) ∙ ap (λ b. filter (λ p. conflict cells d p.0) picks ++ cond b ((cell, k) ∷ []) []) apart ∙ append-nil (filter (λ p. conflict cells d p.0) picks))

keys_moved : (cells : List (List ℕ)) (zone : List ℕ) (picks : Picks) (present : ℕ → Bool) (keys : BTreeSet Keys) (cell k : ℕ) → ((d : ℕ) → present d ≡ true → conflict cells d cell ≡ false) →
    AreKeys cells zone picks present keys → AreKeys cells zone (picks ++ (cell, k) ∷ []) present keys
keys_moved cells zone picks present keys cell k apart h s m d le =
    h s m d le
    ∙ ⊎_elim (λ (t : present d ≡ true). ap (λ x. present d && (s == x && m == degree cells zone d)) (sym (sat_same cells picks cell k d (apart d t))))
    (λ (f : present d ≡ false). ap (λ b. b && (s == saturation cells picks d && m == degree cells zone d)) f ∙ sym (ap (λ b. b && (s == saturation cells (picks ++ (cell, k) ∷ []) d && m == degree cells zone d)) f)) (bool_cases (present d))

pub keys_agree : (cells : List (List ℕ)) (zone : List ℕ) (picks : Picks) (p q : ℕ → Bool) (keys : BTreeSet Keys) → ((d : ℕ) → p d ≡ q d) → AreKeys cells zone picks p keys → AreKeys cells zone picks q keys
keys_agree cells zone picks p q keys same h s m d le = h s m d le ∙ ap (λ b. b && (s == saturation cells picks d && m == degree cells zone d)) (same d)

has_loose : (cells : List (List ℕ)) (zone colours : List ℕ) (none cell d : ℕ) →
    has (filter (λ x. slice_index colours x == none) (filter (λ x. conflict cells cell x) zone)) d ≡ ((has zone d && conflict cells cell d) && slice_index colours d == none)
has_loose cells zone colours none cell d =
    has_filter (λ x. slice_index colours x == none) (filter (λ x. conflict cells cell x) zone) d ∙ ap (λ b. b && slice_index colours d == none) (has_filter (λ x. conflict cells cell x) zone d)

loose_apart : (z m o x : Bool) → (((z && o) && x) && not ((z && m) && o)) ≡ true → m ≡ false
loose_apart z m o x h = grind arith

done_same : (z o m a n : Bool) → a ≡ true → m ≡ false → n ≡ false → ((((z && o) && not (a || false)) && not ((z && m) && o)) || ((z && m) && o)) ≡ (z && n)
done_same z o m a n ea em en = grind arith

done_apart : (z o m a : Bool) → a ≡ false → ((((z && o) && not (a || false)) && not ((z && m) && o)) || ((z && m) && o)) ≡ (z && o)
done_apart z o m a ea = grind arith

pub keys_done : (cells : List (List ℕ)) (zone colours : List ℕ) (none cell k : ℕ) (picks : Picks) (mid new : BTreeSet Keys) (loose : List ℕ) → cell < length colours → k < none →
    loose ≡ filter (λ x. slice_index colours x == none) (filter (λ x. conflict cells cell x) zone) →
    AreKeys cells zone picks (λ d. (is_bare zone colours none d && not (has (cell ∷ []) d)) && not (has loose d)) mid →
    ((present : ℕ → Bool) → AreKeys cells zone (picks ++ (cell, k) ∷ []) present mid → AreKeys cells zone (picks ++ (cell, k) ∷ []) (λ d. present d || has loose d) new) →
    AreKeys cells zone (picks ++ (cell, k) ∷ []) (is_bare zone (slice_set colours cell k) none) new
keys_done cells zone colours none cell k picks mid new loose inside real is h more =
    let present : ℕ → Bool = λ d. (is_bare zone colours none d && not (has (cell ∷ []) d)) && not (has loose d) in
    let loose_is : (d : ℕ) → has loose d ≡ ((has zone d && conflict cells cell d) && slice_index colours d == none) = λ d. ap (λ xs. has xs d) is ∙ has_loose cells zone colours none cell d in
    let moved : AreKeys cells zone (picks ++ (cell, k) ∷ []) present mid = keys_moved cells zone picks present mid cell k
    (λ d t. conflict_sym cells d cell
    ∙ loose_apart (has zone d) (conflict cells cell d) (slice_index colours d == none) (not (has (cell ∷ []) d))
    (sym (ap (λ b. (is_bare zone colours none d && not (has (cell ∷ []) d)) && not b) (loose_is d)) ∙ t)) h in
    keys_agree cells zone (picks ++ (cell, k) ∷ []) (λ d. present d || has loose d) (is_bare zone (slice_set colours cell k) none) new
    (λ d.
    ap (λ b. ((is_bare zone colours none d && not (has (cell ∷ []) d)) && not b) || b) (loose_is d)
    ∙ ⊎_elim
    (λ (e : cell ≡ d).
    let now : slice_index (slice_set colours cell k) d ≡ k = grind (arith, common_steps) in
    let a : (cell == d) ≡ true = eq-eqb cell d e in
    let b : conflict cells cell d ≡ false = ap (λ x. conflict cells cell x) (sym e) ∙ conflict_self cells cell in
    let f : (slice_index (slice_set colours cell k) d == none) ≡ false = grind arith in
    done_same (has zone d) (slice_index colours d == none) (conflict cells cell d) (cell == d) (slice_index (slice_set colours cell k) d == none) a b f)
    (λ (apart : cell ≢ d).
    let now : slice_index (slice_set colours cell k) d ≡ slice_index colours d = grind (arith, common_steps) in
    let a : (cell == d) ≡ false = grind arith in
    done_apart (has zone d) (slice_index colours d == none) (conflict cells cell d) (cell == d) a ∙ ap (λ o. has zone d && o == none) (sym now)) (cases_eq cell d))
    (more present moved)

filter_short : (p : ℕ → Bool) (xs : List ℕ) → length (filter p xs) ≤ length xs
filter_short p xs = omega (arith, length-filter p xs, count_by-le-length p xs)

pub near_short : (zones near : List ℕ) (zone : ℕ) (p : ℕ → Bool) → near ≡ filter p (cells_of zones zone) → length near ≤ length zones
near_short zones near zone p e =
    let a = filter_short p (cells_of zones zone) in
    let b = filter_short (λ c. slice_index zones c == zone) (range_with_len 0 (length zones)) in
    let n = length-range_with_len 0 (length zones) in
    let l = ap length e in
    omega arith

-- numbers below k that are all in a list are no more than it has
pub below_short : (xs : List ℕ) (k : ℕ) → ((j : ℕ) → j < k → has xs j ≡ true) → k ≤ length xs
below_short xs k all =
    let le : length (range_with_len 0 k) ≤ length xs =
    length-le_from_is_member nat_eq_equiv (range_with_len 0 k) xs (subst (λ (e : ℕ → ℕ → Bool). IsDistinct e (range_with_len 0 k)) eq_is (IsDistinct-from_sorted nat_cmp (range_with_len 0 k) (range_rising 0 k)))
    (λ q h.
    any_agree (nat_eq q) (λ y. y == q) xs (eq_turned q)
    ∙ all q (has_all (λ c. c < k) (range_with_len 0 k) q (range_below 0 k k (omega arith)) (sym (any_agree (nat_eq q) (λ y. y == q) (range_with_len 0 k) (eq_turned q)) ∙ h))) in
    let n = length-range_with_len 0 k in
    omega arith

pub real_colour : (near colours : List ℕ) (used : BTreeSet ℕ) (none k n : ℕ) → ((j : ℕ) → contains nat_cmp used j ≡ (not (j == none) && list_any (λ e. slice_index colours e == j) near)) →
    ((j : ℕ) → j < k → contains nat_cmp used j ≡ true) → length near ≤ n → n < none → k < none
real_colour near colours used none k n members least short few =
    let le : k ≤ length (map (slice_index colours) near) =
    below_short (map (slice_index colours) near) k
    (λ j lt. any_map (slice_index colours) (λ y. y == j) near ∙ and_right (not (j == none)) (list_any (λ e. slice_index colours e == j) near) (sym (members j) ∙ least j lt)) in
    let m = length-map near (slice_index colours) in
    omega arith

pub loose_within : (zones loose : List ℕ) (zone : ℕ) (p q : ℕ → Bool) → loose ≡ filter q (filter p (cells_of zones zone)) → All (λ x. x < length zones) loose
loose_within zones loose zone p q e =
    let P : List ℕ → Type 0 = λ xs. All (λ x. x < length zones) xs in
    subst P (sym e) (All-filter q (λ x. x < length zones) (filter p (cells_of zones zone)) (in_zone_within zones (filter p (cells_of zones zone)) zone p refl))
