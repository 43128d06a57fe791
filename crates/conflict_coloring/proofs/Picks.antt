-- The picks of a zone, read from the array of colours.
use Rattle.std.proofs.Common.{◌≡◌, ⊎_elim, ℕ, List, [], ◌∷◌, length, Bool, true, false, ◌||◌, ◌&&◌, ◌==◌, slice_index, map, refl, sym, ◌∙◌, ap, arith, subst, nat_eq}
use Rattle.std.specs.Prelude.{not, filter}
use Rattle.std.specs.List.{list_any, IsDistinct}
use Rattle.std.specs.Set.{distinct_count}
use Rattle.std.specs.Ordering.{nat_cmp, is_eq, eq_by_cmp}
use Rattle.std.specs.BTreeSet.{BTreeSet, contains, IsOrdered, btree_set_len}
use Rattle.std.proofs.lemmas.Bool.{eqb-true, eq-eqb, or_cases}
use Rattle.std.proofs.lemmas.Cmp.{nat_eq_equiv}
use Rattle.std.proofs.lemmas.Map.Keys.{IsDistinct-from_sorted}
use Rattle.std.proofs.lemmas.Map.Made.{length-from_keys}
use Rattle.std.proofs.lemmas.List.Sums.{length-filter}
use mathlib.Core.Path.{fun_ext}
use Rattle.conflict_coloring.specs.Conflict.{has, conflict}
use Rattle.conflict_coloring.specs.Colours.{Picks, saturation, degree, colours_near}
use Rattle.conflict_coloring.specs.Links.{IsLinked}
use Rattle.conflict_coloring.proofs.Members.{any_from, any_split, bool_cases, or_left, or_right}
use Rattle.conflict_coloring.proofs.Spreads.{has_filter}
use Rattle.conflict_coloring.proofs.Table.{any_filter, any_agree}

pub bool_iff : (a b : Bool) → (a ≡ true → b ≡ true) → (b ≡ true → a ≡ true) → a ≡ b
bool_iff true true f g = refl
bool_iff true false f g = sym (f refl)
bool_iff false true f g = g refl
bool_iff false false f g = refl

pub and_left : (a b : Bool) → (a && b) ≡ true → a ≡ true
and_left true b h = refl
and_left false b h = h

pub and_right : (a b : Bool) → (a && b) ≡ true → b ≡ true
and_right true b h = h
and_right false b h = absurd (cc)

pub and_both : (a b : Bool) → a ≡ true → b ≡ true → (a && b) ≡ true
and_both a b h k = rw (h, k) refl

pub filter_swap : (p q : ℕ → Bool) (xs : List ℕ) → filter p (filter q xs) ≡ filter q (filter p xs)
filter_swap p q [] = refl
filter_swap p q (x ∷ xs) =
    let rest = filter_swap p q xs in
    ⊎_elim
    (λ (s : p x ≡ true). ⊎_elim (λ (t : q x ≡ true). rw (t, s, t) (ap (λ ys. x ∷ ys) rest)) (λ (t : q x ≡ false). rw (t, s) (rw t rest)) (bool_cases (q x)))
    (λ (s : p x ≡ false). ⊎_elim (λ (t : q x ≡ true). rw (t, s) rest) (λ (t : q x ≡ false). rw (t, s) rest) (bool_cases (q x))) (bool_cases (p x))

pub any_pick : {X : Type 0} (p : X → Bool) (xs : List X) → list_any p xs ≡ true → (x : X) × (p x ≡ true) × ((q : X → Bool) → q x ≡ true → list_any q xs ≡ true)
any_pick p [] h = absurd (cc)
any_pick p (y ∷ ys) h =
    ⊎_elim (λ e. (y, e, (λ q t. or_left (q y) (list_any q ys) t)))
    (λ r. let found = any_pick p ys r in (found.0, found.1, (λ q t. or_right (q y) (list_any q ys) (found.2 q t)))) (or_cases (p y) (list_any p ys) h)

pub any_map : {X : Type 0} (f : X → ℕ) (p : ℕ → Bool) (xs : List X) → list_any p (map f xs) ≡ list_any (λ x. p (f x)) xs
any_map f p [] = refl
any_map f p (x ∷ xs) = ap (λ b. p (f x) || b) (any_map f p xs)

pub has_colours : (cells : List (List ℕ)) (picks : Picks) (c k : ℕ) → has (colours_near cells picks c) k ≡ list_any (λ p. conflict cells c p.0 && (p.1 == k)) picks
has_colours cells picks c k =
    any_map (λ p. p.1) (λ y. y == k) (filter (λ p. conflict cells c p.0) picks) ∙ any_filter (λ p. conflict cells c p.0) (λ p. p.1 == k) picks

link_to : (cells : List (List ℕ)) (zone colours : List ℕ) (none : ℕ) (picks : Picks) (c k : ℕ) → IsLinked zone colours none picks →
    list_any (λ p. conflict cells c p.0 && (p.1 == k)) picks ≡ true → (not (k == none) && list_any (λ e. slice_index colours e == k) (filter (λ d. conflict cells c d) zone)) ≡ true
link_to cells zone colours none picks c k link h =
    let f = any_pick (λ p. conflict cells c p.0 && (p.1 == k)) picks h in
    let meets = and_left (conflict cells c f.0.0) (f.0.1 == k) f.1 in
    let at = and_right (conflict cells c f.0.0) (f.0.1 == k) f.1 in
    let here = sym (link f.0.0 k) ∙ f.2 (λ q. q.0 == f.0.0 && q.1 == k) (and_both (f.0.0 == f.0.0) (f.0.1 == k) (eq-eqb f.0.0 f.0.0 refl) at) in
    let inside = and_left (has zone f.0.0) (not (k == none) && slice_index colours f.0.0 == k) here in
    let rest = and_right (has zone f.0.0) (not (k == none) && slice_index colours f.0.0 == k) here in
    and_both (not (k == none)) (list_any (λ e. slice_index colours e == k) (filter (λ d. conflict cells c d) zone)) (and_left (not (k == none)) (slice_index colours f.0.0 == k) rest)
    (any_from (λ e. slice_index colours e == k) (filter (λ d. conflict cells c d) zone) f.0.0
    (has_filter (λ d. conflict cells c d) zone f.0.0 ∙ and_both (has zone f.0.0) (conflict cells c f.0.0) inside meets) (and_right (not (k == none)) (slice_index colours f.0.0 == k) rest))

link_from : (cells : List (List ℕ)) (zone colours : List ℕ) (none : ℕ) (picks : Picks) (c k : ℕ) → IsLinked zone colours none picks →
    (not (k == none) && list_any (λ e. slice_index colours e == k) (filter (λ d. conflict cells c d) zone)) ≡ true → list_any (λ p. conflict cells c p.0 && (p.1 == k)) picks ≡ true
link_from cells zone colours none picks c k link h =
    let real = and_left (not (k == none)) (list_any (λ e. slice_index colours e == k) (filter (λ d. conflict cells c d) zone)) h in
    let f = any_split (λ e. slice_index colours e == k) (filter (λ d. conflict cells c d) zone) (and_right (not (k == none)) (list_any (λ e. slice_index colours e == k) (filter (λ d. conflict cells c d) zone)) h) in
    let both = sym (has_filter (λ d. conflict cells c d) zone f.0) ∙ f.1 in
    let inside = and_left (has zone f.0) (conflict cells c f.0) both in
    let meets = and_right (has zone f.0) (conflict cells c f.0) both in
    let g = any_pick (λ p. p.0 == f.0 && p.1 == k) picks
    (link f.0 k ∙ and_both (has zone f.0) (not (k == none) && slice_index colours f.0 == k) inside (and_both (not (k == none)) (slice_index colours f.0 == k) real f.2)) in
    let same : g.0.0 ≡ f.0 = eqb-true g.0.0 f.0 (and_left (g.0.0 == f.0) (g.0.1 == k) g.1) in
    g.2 (λ p. conflict cells c p.0 && (p.1 == k)) (and_both (conflict cells c g.0.0) (g.0.1 == k) (ap (conflict cells c) same ∙ meets) (and_right (g.0.0 == f.0) (g.0.1 == k) g.1))

-- the set of the colours near a cell
pub used_is : (cells : List (List ℕ)) (zone colours : List ℕ) (none : ℕ) (picks : Picks) (c k : ℕ) → IsLinked zone colours none picks →
    (not (k == none) && list_any (λ e. slice_index colours e == k) (filter (λ d. conflict cells c d) zone)) ≡ has (colours_near cells picks c) k
used_is cells zone colours none picks c k link =
    bool_iff (not (k == none) && list_any (λ e. slice_index colours e == k) (filter (λ d. conflict cells c d) zone)) (list_any (λ p. conflict cells c p.0 && (p.1 == k)) picks)
    (link_from cells zone colours none picks c k link) (link_to cells zone colours none picks c k link)
    ∙ sym (has_colours cells picks c k)

eq_at : (a b : ℕ) → eq_by_cmp nat_cmp a b ≡ nat_eq a b
eq_at a b = grind arith

pub eq_turned : (a b : ℕ) → nat_eq a b ≡ (b == a)
eq_turned a b = grind arith

pub eq_is : eq_by_cmp nat_cmp ≡ nat_eq
eq_is = fun_ext (λ a. fun_ext (λ b. eq_at a b))

pub set_count : (used : BTreeSet ℕ) (xs : List ℕ) → IsOrdered nat_cmp used → ((k : ℕ) → contains nat_cmp used k ≡ has xs k) → btree_set_len used ≡ distinct_count nat_eq xs
set_count used xs rising same =
    length-from_keys nat_eq_equiv used.keys xs (subst (λ (e : ℕ → ℕ → Bool). IsDistinct e used.keys) eq_is (IsDistinct-from_sorted nat_cmp used.keys rising))
    (λ q. sym (any_agree (λ y. is_eq (nat_cmp q y)) (nat_eq q) used.keys (λ y. eq_at q y)) ∙ same q ∙ sym (any_agree (nat_eq q) (λ y. y == q) xs (eq_turned q)))

pub key_is : (cells : List (List ℕ)) (zone colours near : List ℕ) (none : ℕ) (picks : Picks) (c : ℕ) (used : BTreeSet ℕ) → near ≡ filter (λ d. conflict cells c d) zone → IsOrdered nat_cmp used →
    ((k : ℕ) → contains nat_cmp used k ≡ (not (k == none) && list_any (λ e. slice_index colours e == k) near)) → IsLinked zone colours none picks →
    (btree_set_len used ≡ saturation cells picks c) × (length near ≡ degree cells zone c)
unfolding saturation degree
key_is cells zone colours near none picks c used is rising members link = (
  set_count used (colours_near cells picks c) rising
      (λ k. members k ∙ ap (λ ns. not (k == none) && list_any (λ e. slice_index colours e == k) ns) is ∙ used_is cells zone colours none picks c k link),
  ap length is ∙ length-filter (λ d. conflict cells c d) zone,
)
