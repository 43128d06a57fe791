-- One note more, and one pick more.
use Rattle.std.proofs.Common.{◌≡◌, ◌≢◌, ⊎_elim, ℕ, ◌+◌, ◌-◌, ◌<◌, ◌≤◌, List, [], ◌∷◌, ◌++◌, length, Bool, true, false, cond, ◌||◌, ◌&&◌, ◌==◌, slice_index, slice_set, sym, ◌∙◌, ap, arith, subst, nat_eq}
use Rattle.std.specs.Prelude.{not}
use Rattle.std.specs.List.{range_with_len}
use Rattle.std.specs.Ordering.{is_eq}
use Rattle.std.specs.BTreeSet.{BTreeSet, contains, Updates}
use Rattle.std.proofs.lemmas.Bool.{eqb-true, eq-eqb, cases_eq, or_cases}
use Rattle.std.proofs.lemmas.Cmp.{nat_eq_equiv}
use Rattle.std.proofs.lemmas.Map.Keys.{IsDistinct-push}
use Rattle.std.proofs.lemmas.List.Folds.{list_any-append}
use Rattle.std.proofs.Math.ListN.{length-append}
use Rattle.std.proofs.lemmas.Grind.{common_steps, get_or-set_at}
use Rattle.conflict_coloring.specs.Conflict.{has, conflict}
use Rattle.conflict_coloring.specs.Colours.{degree, cells_of}
use Rattle.conflict_coloring.specs.Near.{near_of}
use Rattle.conflict_coloring.specs.Links.{Keys, key_cmp, is_bare}
use Rattle.conflict_coloring.specs.Board.{pair_cmp, IsCount, IsBoard}
use Rattle.conflict_coloring.proofs.Members.{bool_cases, has_all}
use Rattle.conflict_coloring.proofs.Picks.{eq_turned, and_left, and_right}
use Rattle.conflict_coloring.proofs.Spreads.{has_filter, range_below}
use Rattle.std.proofs.lemmas.List.Elements.{All-filter}
use Rattle.conflict_coloring.proofs.Table.{any_agree}
use Rattle.conflict_coloring.proofs.Keys.{key_same}

pair_same : (x c d k : ℕ) → is_eq (pair_cmp (x, c) (d, k)) ≡ (x == d && c == k)
pair_same x c d k = grind arith

key_here : (a a2 b s m : ℕ) (p t : Bool) → p ≡ true → t ≡ true → cond (a2 == s && (b == m && t)) true (cond (a == s && (b == m && t)) false (p && (s == a && m == b))) ≡ (p && (s == a2 && m == b))
key_here a a2 b s m p t ep et = grind arith

key_there : (a a2 b s m : ℕ) (t r : Bool) → t ≡ false → cond (a2 == s && (b == m && t)) true (cond (a == s && (b == m && t)) false r) ≡ r
key_there a a2 b s m t r et = grind arith

keyed_noted : (cells : List (List ℕ)) (zone counts : List ℕ) (present : ℕ → Bool) (used : BTreeSet (ℕ × ℕ)) (k0 k1 k2 : BTreeSet Keys) (x more s m d : ℕ) → IsBoard cells zone present counts used k0 → present x ≡ true → x ≤ 4294967295 → x < length counts →
    Updates key_cmp k0 k1 (slice_index counts x, degree cells zone x, 4294967295 - x) false → Updates key_cmp k1 k2 (more, degree cells zone x, 4294967295 - x) true → d ≤ 4294967295 →
    contains key_cmp k2 (s, m, 4294967295 - d) ≡ (present d && (s == slice_index (slice_set counts x more) d && m == degree cells zone d))
keyed_noted cells zone counts present used k0 k1 k2 x more s m d h here small room out put le =
    let q : Keys = (s, m, 4294967295 - d) in
    let a : ℕ = slice_index counts x in
    let b : ℕ = degree cells zone x in
    let e1 = key_same 4294967295 more b x s m d small le in
    let e0 = key_same 4294967295 a b x s m d small le in
    put.0 q ∙ ap (λ t. cond t true (contains key_cmp k1 q)) e1 ∙ ap (λ t. cond (more == s && (b == m && x == d)) true t) (out.0 q ∙ ap (λ t. cond t false (contains key_cmp k0 q)) e0 ∙ ap (λ t. cond (a == s && (b == m && x == d)) false t) (h.keyed s m d le))
    ∙ ⊎_elim
    (λ (e : d ≡ x).
    let c0 : slice_index counts d ≡ a = ap (slice_index counts) e in
    let c1 : slice_index (slice_set counts x more) d ≡ more = get_or-set_at counts x d more 0 e room in
    let b1 : degree cells zone d ≡ b = ap (degree cells zone) e in
    let p1 : present d ≡ true = ap present e ∙ here in
    ap (λ y. cond (more == s && (b == m && x == d)) true (cond (a == s && (b == m && x == d)) false (present d && (s == y && m == degree cells zone d)))) c0
    ∙ ap (λ y. cond (more == s && (b == m && x == d)) true (cond (a == s && (b == m && x == d)) false (present d && (s == a && m == y)))) b1
    ∙ key_here a more b s m (present d) (x == d) p1 (eq-eqb x d (sym e))
    ∙ sym (ap (λ y. present d && (s == y && m == degree cells zone d)) c1 ∙ ap (λ y. present d && (s == more && m == y)) b1))
    (λ (e : d ≢ x).
    let f : (x == d) ≡ false = grind arith in
    let c1 : slice_index (slice_set counts x more) d ≡ slice_index counts d = grind (arith, common_steps) in
    key_there a more b s m (x == d) (present d && (s == slice_index counts d && m == degree cells zone d)) f ∙ ap (λ y. present d && (s == y && m == degree cells zone d)) (sym c1)) (cases_eq d x)

cond_or : (a b : Bool) → cond a true b ≡ (b || a)
cond_or a b = grind arith

used_put : (u0 u1 : BTreeSet (ℕ × ℕ)) (x colour d k : ℕ) → Updates pair_cmp u0 u1 (x, colour) true → contains pair_cmp u1 (d, k) ≡ (contains pair_cmp u0 (d, k) || (x == d && colour == k))
used_put u0 u1 x colour d k put = put.0 (d, k) ∙ ap (λ t. cond t true (contains pair_cmp u0 (d, k))) (pair_same x colour d k) ∙ cond_or (x == d && colour == k) (contains pair_cmp u0 (d, k))

or_no : (a b c : Bool) → b ≡ false → (a || (b && c)) ≡ a
or_no a b c e = grind arith

or_tail : (a b c : Bool) → b ≡ true → (a || (b && c)) ≡ (a || (c || false))
or_tail a b c e = grind arith

counted_noted : (u0 u1 : BTreeSet (ℕ × ℕ)) (counts : List ℕ) (x colour more d : ℕ) → IsCount u0 d (slice_index counts d) → contains pair_cmp u0 (x, colour) ≡ false → Updates pair_cmp u0 u1 (x, colour) true → more ≡ slice_index counts x + 1 → x < length counts →
    IsCount u1 d (slice_index (slice_set counts x more) d)
counted_noted u0 u1 counts x colour more d was fresh put is room =
    ⊎_elim
    (λ (e : d ≡ x).
    let c1 : slice_index (slice_set counts x more) d ≡ more = get_or-set_at counts x d more 0 e room in
    let c0 : slice_index counts d ≡ slice_index counts x = ap (slice_index counts) e in
    let none : has was.0 colour ≡ false = sym (was.2 colour) ∙ ap (λ y. contains pair_cmp u0 (y, colour)) e ∙ fresh in
    let n = length-append was.0 (colour ∷ []) in
    let l = was.3 in (
      was.0 ++ colour ∷ [],
      IsDistinct-push nat_eq_equiv was.0 colour was.1 (any_agree (nat_eq colour) (λ y. y == colour) was.0 (eq_turned colour) ∙ none),
      (λ k. used_put u0 u1 x colour d k put ∙ or_tail (contains pair_cmp u0 (d, k)) (x == d) (colour == k) (eq-eqb x d (sym e)) ∙ ap (λ b. b || (colour == k || false)) (was.2 k) ∙ sym (list_any-append (λ y. y == k) was.0 (colour ∷ []))),
      omega arith,
    ))
    (λ (e : d ≢ x).
    let f : (x == d) ≡ false = grind arith in
    let c1 : slice_index (slice_set counts x more) d ≡ slice_index counts d = grind (arith, common_steps) in
    let l = was.3 in (was.0, was.1, (λ k. used_put u0 u1 x colour d k put ∙ or_no (contains pair_cmp u0 (d, k)) (x == d) (colour == k) f ∙ was.2 k), omega arith)) (cases_eq d x)

pub board_noted : (cells : List (List ℕ)) (zone counts : List ℕ) (present : ℕ → Bool) (u0 u1 : BTreeSet (ℕ × ℕ)) (k0 k1 k2 : BTreeSet Keys) (x colour more : ℕ) → IsBoard cells zone present counts u0 k0 → present x ≡ true → x ≤ 4294967295 → x < length counts →
    more ≡ slice_index counts x + 1 → contains pair_cmp u0 (x, colour) ≡ false → Updates key_cmp k0 k1 (slice_index counts x, degree cells zone x, 4294967295 - x) false → Updates pair_cmp u0 u1 (x, colour) true →
    Updates key_cmp k1 k2 (more, degree cells zone x, 4294967295 - x) true → colour < 4294967295 → IsBoard cells zone present (slice_set counts x more) u1 k2
board_noted cells zone counts present u0 u1 k0 k1 k2 x colour more h here small room is fresh out put in' low = record {
  keyed = λ s m d le. keyed_noted cells zone counts present u0 k0 k1 k2 x more s m d h here small room out in' le;
  counted = λ d t. counted_noted u0 u1 counts x colour more d (h.counted d t) fresh put is room;
  real = λ d k t.
      ⊎_elim (λ was. h.real d k was) (λ (now : (x == d && colour == k) ≡ true). subst (λ (n : ℕ). n < 4294967295) (eqb-true colour k (and_right (x == d) (colour == k) now)) low)
      (or_cases (contains pair_cmp u0 (d, k)) (x == d && colour == k) (sym (used_put u0 u1 x colour d k put) ∙ t));
}

or_in : (a p b : Bool) → p ≡ true → (a || b) ≡ (a || (p && b))
or_in a p b e = grind arith

left_of : (a b : Bool) → (a && b) ≡ true → a ≡ true
left_of a b h = grind arith

right_of : (a b : Bool) → (a && b) ≡ true → b ≡ true
right_of a b h = grind arith

true_or : (a b : Bool) → a ≡ true → a ≡ (a || b)
true_or a b e = grind arith

or_none : (a p : Bool) → (a || (p && false)) ≡ a
or_none a p = grind arith

pub used_noted : (u0 u1 : BTreeSet (ℕ × ℕ)) (p : Bool) (x colour d k : ℕ) → p ≡ true → Updates pair_cmp u0 u1 (x, colour) true → contains pair_cmp u1 (d, k) ≡ (contains pair_cmp u0 (d, k) || (p && (x == d && colour == k)))
used_noted u0 u1 p x colour d k e put = used_put u0 u1 x colour d k put ∙ or_in (contains pair_cmp u0 (d, k)) p (x == d && colour == k) e

pub used_absent : (u : BTreeSet (ℕ × ℕ)) (p : Bool) (x colour d k : ℕ) → p ≡ false → contains pair_cmp u (d, k) ≡ (contains pair_cmp u (d, k) || (p && (x == d && colour == k)))
used_absent u p x colour d k e = sym (or_no (contains pair_cmp u (d, k)) p (x == d && colour == k) e)

pub used_again : (u : BTreeSet (ℕ × ℕ)) (p : Bool) (x colour d k : ℕ) → contains pair_cmp u (x, colour) ≡ true → contains pair_cmp u (d, k) ≡ (contains pair_cmp u (d, k) || (p && (x == d && colour == k)))
used_again u p x colour d k h =
    ⊎_elim
    (λ (t : (x == d && colour == k) ≡ true).
    let a : x ≡ d = eqb-true x d (left_of (x == d) (colour == k) t) in
    let b : colour ≡ k = eqb-true colour k (right_of (x == d) (colour == k) t) in
    let c : contains pair_cmp u (d, k) ≡ true = sym (ap (λ y. contains pair_cmp u (y, colour)) a ∙ ap (λ y. contains pair_cmp u (d, y)) b) ∙ h in
    true_or (contains pair_cmp u (d, k)) (p && (x == d && colour == k)) c)
    (λ (f : (x == d && colour == k) ≡ false). sym (ap (λ y. contains pair_cmp u (d, k) || (p && y)) f ∙ or_none (contains pair_cmp u (d, k)) p)) (bool_cases (x == d && colour == k))

pub board_agree : (cells : List (List ℕ)) (zone counts : List ℕ) (p q : ℕ → Bool) (used : BTreeSet (ℕ × ℕ)) (keys : BTreeSet Keys) → ((d : ℕ) → p d ≡ q d) → IsBoard cells zone p counts used keys → IsBoard cells zone q counts used keys
board_agree cells zone counts p q used keys same h = record {
  keyed = λ s m d le. h.keyed s m d le ∙ ap (λ b. b && (s == slice_index counts d && m == degree cells zone d)) (same d);
  counted = λ d t. h.counted d (same d ∙ t);
  real = h.real;
}

bare_gone : (z o t n : Bool) → t ≡ true → n ≡ false → ((z && o) && not (t || false)) ≡ (z && n)
bare_gone z o t n et en = grind arith

bare_kept : (z o t : Bool) → t ≡ false → ((z && o) && not (t || false)) ≡ (z && o)
bare_kept z o t et = grind arith

-- the cell that got a colour is bare no more
pub bare_set : (zone colours : List ℕ) (none cell colour d : ℕ) → colour < none → cell < length colours → (is_bare zone colours none d && not (has (cell ∷ []) d)) ≡ is_bare zone (slice_set colours cell colour) none d
bare_set zone colours none cell colour d real room =
    ⊎_elim
    (λ (e : d ≡ cell).
    let c1 : slice_index (slice_set colours cell colour) d ≡ colour = get_or-set_at colours cell d colour 0 e room in
    let f : (slice_index (slice_set colours cell colour) d == none) ≡ false = grind arith in
    bare_gone (has zone d) (slice_index colours d == none) (cell == d) (slice_index (slice_set colours cell colour) d == none) (eq-eqb cell d (sym e)) f)
    (λ (e : d ≢ cell).
    let c1 : slice_index (slice_set colours cell colour) d ≡ slice_index colours d = grind (arith, common_steps) in
    let f : (cell == d) ≡ false = grind arith in
    bare_kept (has zone d) (slice_index colours d == none) (cell == d) f ∙ ap (λ y. has zone d && y == none) (sym c1)) (cases_eq d cell)

note_yes : (new mid old a ab bx bd k : Bool) → bx ≡ bd → new ≡ (mid || (bx && (true && k))) → mid ≡ (old || (a && (bd && k))) → ab ≡ (a || true) → new ≡ (old || (ab && (bd && k)))
note_yes new mid old a ab bx bd k e f g h = grind arith

note_no : (new mid old a ab bx bd k : Bool) → new ≡ (mid || (bx && (false && k))) → mid ≡ (old || (a && (bd && k))) → ab ≡ (a || false) → new ≡ (old || (ab && (bd && k)))
note_no new mid old a ab bx bd k f g h = grind arith

pub note_more : (new mid old a ab k : Bool) (bare : ℕ → Bool) (x d : ℕ) → new ≡ (mid || (bare x && (x == d && k))) → mid ≡ (old || (a && (bare d && k))) → ab ≡ (a || (x == d)) → new ≡ (old || (ab && (bare d && k)))
note_more new mid old a ab k bare x d f g h =
    ⊎_elim
    (λ (e : x ≡ d).
    let t : (x == d) ≡ true = eq-eqb x d e in
    note_yes new mid old a ab (bare x) (bare d) k (ap bare e) (f ∙ ap (λ y. mid || (bare x && (y && k))) t) g (h ∙ ap (λ y. a || y) t))
    (λ (e : x ≢ d). let t : (x == d) ≡ false = grind arith in note_no new mid old a ab (bare x) (bare d) k (f ∙ ap (λ y. mid || (bare x && (y && k))) t) g (h ∙ ap (λ y. a || y) t)) (cases_eq x d)

pub note_start : (old b : Bool) → old ≡ (old || (false && b))
note_start old b = grind arith

pub in_near : (cells : List (List ℕ)) (zones : List ℕ) (c z x : ℕ) → slice_index zones c ≡ z → has (near_of cells zones c) x ≡ true → (has (cells_of zones z) x ≡ true) × (slice_index zones x ≡ z) × (x < length zones)
in_near cells zones c z x ez h =
    let a : has (cells_of zones (slice_index zones c)) x ≡ true = and_left (has (cells_of zones (slice_index zones c)) x) (conflict cells c x) (sym (has_filter (λ d. conflict cells c d) (cells_of zones (slice_index zones c)) x) ∙ h) in
    let b : has (cells_of zones z) x ≡ true = ap (λ y. has (cells_of zones y) x) (sym ez) ∙ a in
    let t : (slice_index zones x == z) ≡ true = and_right (has (range_with_len 0 (length zones)) x) (slice_index zones x == z) (sym (has_filter (λ d. slice_index zones d == z) (range_with_len 0 (length zones)) x) ∙ b) in (
      b,
      eqb-true (slice_index zones x) z t,
      has_all (λ y. y < length zones) (cells_of zones z) x
          (All-filter (λ d. slice_index zones d == z) (λ y. y < length zones) (range_with_len 0 (length zones)) (range_below 0 (length zones) (length zones) (omega arith))) b,
    )
