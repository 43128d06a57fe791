-- The greatest key is the next pick.
use Rattle.std.proofs.Common.{◌≡◌, ◌≢◌, ◌⊎◌, ⊎_elim, ℕ, ◌-◌, ◌<◌, ◌≤◌, List, [], ◌∷◌, ◌++◌, length, Bool, true, false, ◌||◌, ◌&&◌, ◌==◌, slice_index, slice_index_or, slice_set, take, map, refl, sym, ◌∙◌, ap, arith, subst}
use Rattle.std.specs.Prelude.{All, not}
use Rattle.std.specs.List.{list_any, range_with_len}
use Rattle.std.specs.Ordering.{is_lt, is_eq}
use Rattle.std.specs.BTreeSet.{BTreeSet, contains, Updates, IsUpperBound}
use Rattle.std.proofs.lemmas.Bool.{eqb-true, eq-eqb, cases_eq, cases_lt}
use Rattle.std.proofs.lemmas.List.{take-append-le, take_all, get_or_append_left, get_or_push}
use Rattle.std.proofs.lemmas.List.Elements.{All-filter}
use Rattle.std.proofs.Math.ListN.{length-set, length-append}
use Rattle.std.proofs.Math.Bool.{and-true}
use Rattle.std.proofs.lemmas.Grind.{common_steps}
use Rattle.conflict_coloring.specs.Conflict.{has}
use Rattle.conflict_coloring.specs.Colours.{Picks, IsPick, IsRun, IsBefore, IsLeastFree, is_left, saturation, degree, colours_near, cells_of}
use Rattle.conflict_coloring.specs.Links.{IsLinked, AreKeys, Keys, key_of, key_cmp, is_bare}
use Rattle.conflict_coloring.proofs.Members.{bool_cases, has_all, false_or_true}
use Rattle.conflict_coloring.proofs.Picks.{any_pick, any_map, and_left, and_right, and_both, bool_iff}
use Rattle.conflict_coloring.proofs.Spreads.{without, count_falls, range_below}
use Rattle.conflict_coloring.proofs.Runs.{keys_agree}
use Rattle.conflict_coloring.proofs.Keys.{take_key}

coloured_not : (o k none : ℕ) → (not (k == none) && o == k) ≡ true → not (o == none) ≡ true
coloured_not o k none h = grind arith

not_twice : (a b : Bool) → (a && not (not b)) ≡ (a && b)
not_twice a b = grind arith

pub all_within : (zones : List ℕ) (zone : ℕ) → All (λ x. x < length zones) (cells_of zones zone)
all_within zones zone = All-filter (λ c. slice_index zones c == zone) (λ x. x < length zones) (range_with_len 0 (length zones)) (range_below 0 (length zones) (length zones) (omega arith))

picked_has : (zone colours : List ℕ) (none d : ℕ) (picks : Picks) → IsLinked zone colours none picks → has zone d ≡ true → has (map (λ p. p.0) picks) d ≡ not (slice_index colours d == none)
picked_has zone colours none d picks link inside =
    bool_iff (has (map (λ p. p.0) picks) d) (not (slice_index colours d == none))
    (λ h.
    let f = any_pick (λ p. p.0 == d) picks (sym (any_map (λ p. p.0) (λ y. y == d) picks) ∙ h) in
    let t = sym (link d f.0.1) ∙ f.2 (λ p. p.0 == d && p.1 == f.0.1) (and_both (f.0.0 == d) (f.0.1 == f.0.1) f.1 (eq-eqb f.0.1 f.0.1 refl)) in
    let r = and_right (has zone d) (not (f.0.1 == none) && slice_index colours d == f.0.1) t in
    coloured_not (slice_index colours d) f.0.1 none r)
    (λ h.
    let t = link d (slice_index colours d) ∙ and_both (has zone d) (not (slice_index colours d == none) && slice_index colours d == slice_index colours d) inside
    (and_both (not (slice_index colours d == none)) (slice_index colours d == slice_index colours d) h (eq-eqb (slice_index colours d) (slice_index colours d) refl)) in
    let f = any_pick (λ p. p.0 == d && p.1 == slice_index colours d) picks t in
    any_map (λ p. p.0) (λ y. y == d) picks ∙ f.2 (λ p. p.0 == d) (and_left (f.0.0 == d) (f.0.1 == slice_index colours d) f.1))

pub left_is : (zone colours : List ℕ) (none d : ℕ) (picks : Picks) → IsLinked zone colours none picks → is_left zone picks d ≡ is_bare zone colours none d
left_is zone colours none d picks link =
    ⊎_elim (λ (t : has zone d ≡ true). ap (λ b. has zone d && not b) (picked_has zone colours none d picks link t) ∙ not_twice (has zone d) (slice_index colours d == none))
    (λ (f : has zone d ≡ false). ap (λ b. b && not (has (map (λ p. p.0) picks) d)) f ∙ sym (ap (λ b. b && slice_index colours d == none) f)) (bool_cases (has zone d))

pub popped : (cells : List (List ℕ)) (zone : List ℕ) (picks : Picks) (present : ℕ → Bool) (keys : BTreeSet Keys) (s m r : ℕ) → AreKeys cells zone picks present keys → r ≤ 4294967295 → contains key_cmp keys (s, m, r) ≡ true →
    (present (4294967295 - r) ≡ true) × (s ≡ saturation cells picks (4294967295 - r)) × (m ≡ degree cells zone (4294967295 - r))
popped cells zone picks present keys s m r h small in' =
    let d : ℕ = 4294967295 - r in
    let back : 4294967295 - d ≡ r = omega arith in
    let t : (present d && (s == saturation cells picks d && m == degree cells zone d)) ≡ true = sym (h s m d (omega arith)) ∙ ap (λ x. contains key_cmp keys (s, m, x)) back ∙ in' in
    let u = and_right (present d) (s == saturation cells picks d && m == degree cells zone d) t in (
      and_left (present d) (s == saturation cells picks d && m == degree cells zone d) t,
      eqb-true s (saturation cells picks d) (and_left (s == saturation cells picks d) (m == degree cells zone d) u),
      eqb-true m (degree cells zone d) (and_right (s == saturation cells picks d) (m == degree cells zone d) u),
    )

before_is : (top s m s2 m2 c d : ℕ) → c ≤ top → d ≤ top → d ≢ c → is_lt (key_cmp (s, m, top - c) (s2, m2, top - d)) ≡ false → (s2 < s) ⊎ ((s2 ≡ s) × ((m2 < m) ⊎ ((m2 ≡ m) × (c < d))))
before_is top s m s2 m2 c d h k apart e = grind arith

pub stands_before : (cells : List (List ℕ)) (zone : List ℕ) (picks : Picks) (present : ℕ → Bool) (keys : BTreeSet Keys) (c d : ℕ) → AreKeys cells zone picks present keys → c ≤ 4294967295 → d ≤ 4294967295 →
    IsUpperBound key_cmp keys (key_of cells zone picks c) → present d ≡ true → d ≢ c → IsBefore cells zone picks c d
stands_before cells zone picks present keys c d h small low upper here apart =
    before_is 4294967295 (saturation cells picks c) (degree cells zone c) (saturation cells picks d) (degree cells zone d) c d small low apart
    (upper (key_of cells zone picks d)
    (h (saturation cells picks d) (degree cells zone d) d low
    ∙ and_both (present d) (saturation cells picks d == saturation cells picks d && degree cells zone d == degree cells zone d) here
    (and_both (saturation cells picks d == saturation cells picks d) (degree cells zone d == degree cells zone d) (eq-eqb (saturation cells picks d) (saturation cells picks d) refl) (eq-eqb (degree cells zone d) (degree cells zone d) refl))))

pub zone_within : (zones : List ℕ) (zone d : ℕ) → has (cells_of zones zone) d ≡ true → d < length zones
zone_within zones zone d h = has_all (λ x. x < length zones) (cells_of zones zone) d (all_within zones zone) h

pub run_more : (cells : List (List ℕ)) (zone : List ℕ) (picks : Picks) (c k : ℕ) → IsRun cells zone picks → IsPick cells zone picks c k → IsRun cells zone (picks ++ (c, k) ∷ [])
run_more cells zone picks c k run one i inside =
    ⊎_elim
    (λ (lt : i < length picks).
    let a : take i (picks ++ (c, k) ∷ []) ≡ take i picks = take-append-le i picks ((c, k) ∷ []) (omega arith) in
    let b : ◌≡◌ {A = ℕ × ℕ} (slice_index_or (picks ++ (c, k) ∷ []) i (0, 0)) (slice_index_or picks i (0, 0)) = get_or_append_left picks ((c, k) ∷ []) (0, 0) i lt in
    let P : Picks → Type 0 = λ t. IsPick cells zone t (slice_index_or (picks ++ (c, k) ∷ []) i (0, 0)).0 (slice_index_or (picks ++ (c, k) ∷ []) i (0, 0)).1 in
    let Q : ℕ × ℕ → Type 0 = λ p. IsPick cells zone (take i picks) p.0 p.1 in
    subst P (sym a) (subst Q (sym b) (run i lt)))
    (λ (le : length picks ≤ i).
    let e : i ≡ length picks = let n = length-append picks ((c, k) ∷ []) in omega arith in
    let a : take i (picks ++ (c, k) ∷ []) ≡ picks = take-append-le i picks ((c, k) ∷ []) (omega arith) ∙ take_all i picks (omega arith) in
    let b : ◌≡◌ {A = ℕ × ℕ} (slice_index_or (picks ++ (c, k) ∷ []) i (0, 0)) (c, k) = get_or_push picks (c, k) (0, 0) i (sym e) in
    let P : Picks → Type 0 = λ t. IsPick cells zone t (slice_index_or (picks ++ (c, k) ∷ []) i (0, 0)).0 (slice_index_or (picks ++ (c, k) ∷ []) i (0, 0)).1 in
    let Q : ℕ × ℕ → Type 0 = λ p. IsPick cells zone picks p.0 p.1 in
    subst P (sym a) (subst Q (sym b) one)) (cases_lt i (length picks))

pub falls_at : (colours : List ℕ) (none cell k : ℕ) → cell < length colours → slice_index colours cell ≡ none → k < none → without none (slice_set colours cell k) < without none colours
falls_at colours none cell k inside was real =
    let now : slice_index (slice_set colours cell k) cell ≡ k = grind (arith, common_steps) in
    let fewer = count_falls none colours (slice_set colours cell k) cell (sym (length-set colours cell k))
    (λ c w e. ⊎_elim (λ (same : c ≡ cell). ap (slice_index colours) same ∙ was) (λ (apart : c ≢ cell). let o : slice_index (slice_set colours cell k) c ≡ slice_index colours c = grind (arith, common_steps) in sym o ∙ e) (cases_eq c cell))
    inside was (omega arith) in
    omega arith

pub none_bare : (cells : List (List ℕ)) (zone : List ℕ) (picks : Picks) (present : ℕ → Bool) (keys : BTreeSet Keys) (d : ℕ) → AreKeys cells zone picks present keys → keys.keys ≡ [] → d ≤ 4294967295 → present d ≡ false
none_bare cells zone picks present keys d h empty low =
    ⊎_elim
    (λ (t : present d ≡ true). absurd (
    let yes = h (saturation cells picks d) (degree cells zone d) d low
    ∙ and_both (present d) (saturation cells picks d == saturation cells picks d && degree cells zone d == degree cells zone d) t
    (and_both (saturation cells picks d == saturation cells picks d) (degree cells zone d == degree cells zone d) (eq-eqb (saturation cells picks d) (saturation cells picks d) refl) (eq-eqb (degree cells zone d) (degree cells zone d) refl)) in
    let no : contains key_cmp keys (key_of cells zone picks d) ≡ false = ap (λ ks. list_any (λ k. is_eq (key_cmp (key_of cells zone picks d) k)) ks) empty in
    false_or_true (contains key_cmp keys (key_of cells zone picks d)) no yes))
    (λ f. f) (bool_cases (present d))

pub linked_start : (zone colours : List ℕ) (none : ℕ) → ((d : ℕ) → has zone d ≡ true → slice_index colours d ≡ none) → IsLinked zone colours none []
linked_start zone colours none bare e k =
    ⊎_elim (λ (t : has zone e ≡ true). let o = bare e t in grind arith) (λ (f : has zone e ≡ false). sym (ap (λ b. b && (not (k == none) && slice_index colours e == k)) f)) (bool_cases (has zone e))

pub bare_start : (zone colours : List ℕ) (none d : ℕ) → ((d : ℕ) → has zone d ≡ true → slice_index colours d ≡ none) → (false || has zone d) ≡ is_bare zone colours none d
bare_start zone colours none d bare =
    ⊎_elim (λ (t : has zone d ≡ true). let o = eq-eqb (slice_index colours d) none (bare d t) in t ∙ sym (and_both (has zone d) (slice_index colours d == none) t o))
    (λ (f : has zone d ≡ false). f ∙ sym (ap (λ b. b && slice_index colours d == none) f)) (bool_cases (has zone d))

pub same_key : (s m r s2 m2 r2 : ℕ) → s ≡ s2 → m ≡ m2 → r ≡ r2 → ◌≡◌ {A = Keys} (s, m, r) (s2, m2, r2)
same_key s m r s2 m2 r2 a b c = rw (a, b, c) refl

-- the greatest key is taken out
pub key_out : (cells : List (List ℕ)) (zone colours : List ℕ) (picks : Picks) (old new : BTreeSet Keys) (key : Keys) (cell : ℕ) → cell ≤ 4294967295 → ◌≡◌ {A = Keys} key (key_of cells zone picks cell) → Updates key_cmp old new key false →
    AreKeys cells zone picks (is_bare zone colours 4294967295) old → AreKeys cells zone picks (λ d. is_bare zone colours 4294967295 d && not (has (cell ∷ []) d)) new
key_out cells zone colours picks old new key cell small is update h =
    take_key cells zone picks (is_bare zone colours 4294967295) old new (cell ∷ []) 0 key (omega arith) small is update
    (keys_agree cells zone picks (is_bare zone colours 4294967295) (λ d. is_bare zone colours 4294967295 d && not (has (take 0 (cell ∷ [])) d)) old (λ d. sym (and-true (is_bare zone colours 4294967295 d))) h)

-- the cell of the greatest key is the pick
pub is_pick : (cells : List (List ℕ)) (zone colours : List ℕ) (picks : Picks) (old : BTreeSet Keys) (cell k : ℕ) → cell ≤ 4294967295 → ((d : ℕ) → has zone d ≡ true → d ≤ 4294967295) → IsLinked zone colours 4294967295 picks →
    AreKeys cells zone picks (is_bare zone colours 4294967295) old → IsUpperBound key_cmp old (key_of cells zone picks cell) → is_bare zone colours 4294967295 cell ≡ true → IsLeastFree (colours_near cells picks cell) k →
    IsPick cells zone picks cell k
is_pick cells zone colours picks old cell k small low link h upper here least = record {
  left = left_is zone colours 4294967295 cell picks link ∙ here;
  greatest = λ d left apart.
      stands_before cells zone picks (is_bare zone colours 4294967295) old cell d h small (low d (and_left (has zone d) (not (has (map (λ p. p.0) picks) d)) left)) upper
      (sym (left_is zone colours 4294967295 d picks link) ∙ left) apart;
  least_free = least;
}

pub none_left : (cells : List (List ℕ)) (zone colours : List ℕ) (picks : Picks) (keys : BTreeSet Keys) (d : ℕ) → ((d : ℕ) → has zone d ≡ true → d ≤ 4294967295) → IsLinked zone colours 4294967295 picks →
    AreKeys cells zone picks (is_bare zone colours 4294967295) keys → keys.keys ≡ [] → is_left zone picks d ≡ false
none_left cells zone colours picks keys d low link h empty =
    ⊎_elim
    (λ (t : is_left zone picks d ≡ true).
    left_is zone colours 4294967295 d picks link
    ∙ none_bare cells zone picks (is_bare zone colours 4294967295) keys d h empty (low d (and_left (has zone d) (not (has (map (λ p. p.0) picks) d)) t)))
    (λ f. f) (bool_cases (is_left zone picks d))

pub empty_list : {X : Type 0} (xs : List X) → (0 < length xs → false ≡ true) → xs ≡ []
empty_list [] h = refl
empty_list (x ∷ xs) h = let e : false ≡ true = h (omega arith) in absurd (cc)
