-- One step of the zones, as the code takes it.
use Rattle.std.proofs.Common.{◌≡◌, ◌≢◌, ◌⊎◌, inl, inr, ⊎_elim, ℕ, ◌+◌, ◌<◌, ◌≤◌, List, [], ◌∷◌, length, Bool, true, false, cond, ◌||◌, ◌&&◌, ◌==◌, slice_index, slice_set, replicate, take, refl, sym, ◌∙◌, ap, arith, subst, zero, suc, if◌then◌else◌}
use Rattle.std.specs.Prelude.{All, filter}
use Rattle.std.specs.List.{list_any, range_with_len}
use Rattle.std.proofs.lemmas.Bool.{eqb-true, eq-eqb, cases_lt, cases_eq}
use Rattle.std.proofs.lemmas.List.Elements.{All-cons, All-nil, All-filter}
use Rattle.std.proofs.lemmas.List.Folds.{list_any_more}
use Rattle.std.proofs.Math.Bool.{and-false}
use Rattle.std.proofs.Math.ListN.{length-set, length-replicate}
use Rattle.std.proofs.lemmas.Grind.{common_steps, same_number_lists}
use Rattle.conflict_coloring.specs.Conflict.{has, conflict}
use Rattle.conflict_coloring.specs.Zones.{IsZones}
use Rattle.conflict_coloring.specs.Steps.{near_last, Spreads}
use Rattle.conflict_coloring.proofs.Members.{any_from, any_split, has_all, bool_cases, false_or_true, or_left, or_right}
use Rattle.conflict_coloring.proofs.Layers.{IsLayered, GivesZone, TouchesLast, layered_more, layered_all}

-- `last` has the cells of the zone before k
pub record IsLast (cells : List (List ℕ)) (zones last : List ℕ) (k : ℕ) : Type 0 where
  pub within : All (λ c. c < length cells) last
  pub each : (d : ℕ) → d < length cells → has last d ≡ (slice_index zones d + 1 == k)

touch_from_any : (cells : List (List ℕ)) (zones last : List ℕ) (k d : ℕ) → IsLast cells zones last k → list_any (λ c. conflict cells c d) last ≡ true → TouchesLast cells zones k d
touch_from_any cells zones last k d h any =
    let found = any_split (λ c. conflict cells c d) last any in
    let inside = has_all (λ c. c < length cells) last found.0 h.within found.1 in
    (found.0, inside, eqb-true (slice_index zones found.0 + 1) k (sym (h.each found.0 inside) ∙ found.1), found.2)

any_from_touch : (cells : List (List ℕ)) (zones last : List ℕ) (k d : ℕ) → IsLast cells zones last k → TouchesLast cells zones k d → list_any (λ c. conflict cells c d) last ≡ true
any_from_touch cells zones last k d h t =
    any_from (λ c. conflict cells c d) last t.0 (h.each t.0 t.1 ∙ eq-eqb (slice_index zones t.0 + 1) k t.2) t.3

spread_yes : (cells : List (List ℕ)) (old new last next : List ℕ) (none k d : ℕ) → Spreads cells old new last next none k → d < length cells → slice_index old d ≡ none →
    list_any (λ c. conflict cells c d) last ≡ true → slice_index new d ≡ k
spread_yes cells old new last next none k d s inside is any = let e = s.zones d inside in let f = eq-eqb (slice_index old d) none is in grind arith

spread_no : (cells : List (List ℕ)) (old new last next : List ℕ) (none k d : ℕ) → Spreads cells old new last next none k → d < length cells →
    list_any (λ c. conflict cells c d) last ≡ false → slice_index new d ≡ slice_index old d
spread_no cells old new last next none k d s inside any = let e = s.zones d inside in grind arith

spread_kept : (cells : List (List ℕ)) (old new last next : List ℕ) (none k d : ℕ) → Spreads cells old new last next none k → d < length cells → slice_index old d ≢ none →
    slice_index new d ≡ slice_index old d
spread_kept cells old new last next none k d s inside apart = let e = s.zones d inside in grind arith

spread_fresh : (cells : List (List ℕ)) (old new last next : List ℕ) (none k d : ℕ) → Spreads cells old new last next none k → d < length cells → slice_index old d ≡ none →
    (slice_index new d ≡ k) ⊎ (slice_index new d ≡ none)
spread_fresh cells old new last next none k d s inside is =
    ⊎_elim (λ t. inl (spread_yes cells old new last next none k d s inside is t)) (λ f. inr (spread_no cells old new last next none k d s inside f ∙ is)) (bool_cases (list_any (λ c. conflict cells c d) last))

noted_touches : (cells : List (List ℕ)) (old new last next : List ℕ) (none k d : ℕ) → Spreads cells old new last next none k → d < length cells → has next d ≡ true →
    (slice_index old d ≡ none) × (list_any (λ c. conflict cells c d) last ≡ true)
noted_touches cells old new last next none k d s inside h =
    let e : near_last cells old last none d ≡ true = sym (s.noted d inside) ∙ h in (eqb-true (slice_index old d) none (grind arith), grind arith)

-- where some cell is next to the last zone, those cells are the next one
pub gives_near : (cells : List (List ℕ)) (old new last next : List ℕ) (none k x : ℕ) → k < none → length old ≡ length cells → IsLast cells old last k → Spreads cells old new last next none k → has next x ≡ true →
    GivesZone cells old new none k
gives_near cells old new last next none k x real len l s some =
    let inside = has_all (λ c. c < length cells) next x s.within some in
    let here = noted_touches cells old new last next none k x s inside some in
    record {
      one_each = s.one_each ∙ len;
      kept = λ c within apart. spread_kept cells old new last next none k c s within apart;
      fresh = λ c within is. spread_fresh cells old new last next none k c s within is;
      is_fresh = λ c within at was.
          ⊎_elim (λ t. inl (touch_from_any cells old last k c l t))
          (λ f. let e : slice_index new c ≡ slice_index old c = spread_no cells old new last next none k c s within f in absurd (omega arith)) (bool_cases (list_any (λ y. conflict cells y c) last));
      from_fresh = λ c within was fresh.
          ⊎_elim (λ t. spread_yes cells old new last next none k c s within was (any_from_touch cells old last k c l t))
          (λ n. absurd (n.0 x inside here.0 (touch_from_any cells old last k x l here.1))) fresh;
    }

-- where no cell is next to it, nothing changed
spread_none : (cells : List (List ℕ)) (old new last : List ℕ) (none k : ℕ) → length old ≡ length cells → Spreads cells old new last [] none k → new ≡ old
spread_none cells old new last none k len s =
    same_number_lists new old s.one_each
    (λ d inside. let within : d < length cells = omega arith in let e = s.zones d within in let f = s.noted d within in grind arith)

any_when_none : (cells : List (List ℕ)) (old new last : List ℕ) (none k d : ℕ) → Spreads cells old new last [] none k → d < length cells → slice_index old d ≡ none →
    list_any (λ c. conflict cells c d) last ≡ true → ⊥
any_when_none cells old new last none k d s inside is any = let f = s.noted d inside in let e = eq-eqb (slice_index old d) none is in grind arith

not_before : (zones : List ℕ) (least none d : ℕ) → ((c : ℕ) → c < least → (slice_index zones c == none) ≡ false) → slice_index zones d ≡ none → least ≤ d
not_before zones least none d before is = ⊎_elim (λ lt. absurd (false_or_true (slice_index zones d == none) (before d lt) (eq-eqb (slice_index zones d) none is))) (λ le. le) (cases_lt d least)

-- then the least cell without a zone is the next one
pub gives_least : (cells : List (List ℕ)) (old last : List ℕ) (none k least : ℕ) → k < none → length old ≡ length cells → IsLast cells old last k → Spreads cells old old last [] none k →
    least < length cells → slice_index old least ≡ none → ((c : ℕ) → c < least → (slice_index old c == none) ≡ false) → GivesZone cells old (slice_set old least k) none k
gives_least cells old last none k least real len l s inside is before =
    let within : least < length old = omega arith in
    let new_is : slice_index (slice_set old least k) least ≡ k = grind (arith, common_steps) in
    let other : (c : ℕ) → c ≢ least → slice_index (slice_set old least k) c ≡ slice_index old c = λ c apart. grind (arith, common_steps) in
    record {
      one_each = length-set old least k ∙ len;
      kept = λ c at apart. other c (λ e. apart (ap (slice_index old) e ∙ is));
      fresh = λ c at was. ⊎_elim (λ e. inl (ap (slice_index (slice_set old least k)) e ∙ new_is)) (λ apart. inr (other c apart ∙ was)) (cases_eq c least);
      is_fresh = λ c at now was.
          let same : c ≡ least = ⊎_elim (λ e. e) (λ apart. absurd (let o = other c apart in omega arith)) (cases_eq c least) in
          inr (
            (λ d w free t. any_when_none cells old old last none k d s w free (any_from_touch cells old last k d l t)),
            (λ d w free. let le : least ≤ d = not_before old least none d before free in omega arith),
          );
      from_fresh = λ c at was fresh.
          ⊎_elim (λ t. absurd (any_when_none cells old old last none k c s at was (any_from_touch cells old last k c l t)))
          (λ n. let up : c ≤ least = n.1 least inside is in let down : least ≤ c = not_before old least none c before was in
          let same : c ≡ least = omega arith in ap (slice_index (slice_set old least k)) same ∙ new_is) fresh;
    }

-- how many cells have no zone
abbrev pub without : ℕ → List ℕ → ℕ
without none [] = 0
without none (z ∷ zs) = cond (z == none) 1 0 + without none zs

pub without-replicate : (none n : ℕ) → without none (replicate n none) ≡ n
without-replicate none zero = refl
without-replicate none (suc n) = let e : (none == none) ≡ true = eq-eqb none none refl in rw e (omega (arith, without-replicate none n))

count_le : (none : ℕ) (xs ys : List ℕ) → length xs ≡ length ys → ((c : ℕ) → c < length xs → slice_index ys c ≡ none → slice_index xs c ≡ none) → without none ys ≤ without none xs
count_le none [] [] len h = omega arith
count_le none [] (y ∷ ys) len h = absurd (omega arith)
count_le none (x ∷ xs) [] len h = absurd (omega arith)
count_le none (x ∷ xs) (y ∷ ys) len h =
    let rest = count_le none xs ys (omega arith) (λ c inside e. h (suc c) (omega arith) e) in
    ⊎_elim (λ t. let u : (x == none) ≡ true = eq-eqb x none (h 0 (omega arith) (eqb-true y none t)) in rw (t, u) (omega arith)) (λ f. rw f (omega arith)) (bool_cases (y == none))

pub count_falls : (none : ℕ) (xs ys : List ℕ) (i : ℕ) → length xs ≡ length ys → ((c : ℕ) → c < length xs → slice_index ys c ≡ none → slice_index xs c ≡ none) → i < length xs →
    slice_index xs i ≡ none → slice_index ys i ≢ none → without none ys + 1 ≤ without none xs
count_falls none [] ys i len h inside is isnt = absurd (omega arith)
count_falls none (x ∷ xs) [] i len h inside is isnt = absurd (omega arith)
count_falls none (x ∷ xs) (y ∷ ys) zero len h inside is isnt =
    let rest = count_le none xs ys (omega arith) (λ c w e. h (suc c) (omega arith) e) in
    let u : (x == none) ≡ true = eq-eqb x none is in
    ⊎_elim (λ t. absurd (isnt (eqb-true y none t))) (λ (f : (y == none) ≡ false). rw (f, u) (omega arith)) (bool_cases (y == none))
count_falls none (x ∷ xs) (y ∷ ys) (suc i) len h inside is isnt =
    let rest = count_falls none xs ys i (omega arith) (λ c w e. h (suc c) (omega arith) e) (omega arith) is isnt in
    ⊎_elim (λ t. let u : (x == none) ≡ true = eq-eqb x none (h 0 (omega arith) (eqb-true y none t)) in rw (t, u) (omega arith)) (λ f. rw f (omega arith)) (bool_cases (y == none))

count_none : (none : ℕ) (xs : List ℕ) (c : ℕ) → without none xs ≤ 0 → c < length xs → slice_index xs c ≢ none
count_none none [] c few inside e = omega arith
count_none none (x ∷ xs) zero few inside e = let u : (x == none) ≡ true = eq-eqb x none e in let f = rw u at few in omega arith
count_none none (x ∷ xs) (suc c) few inside e = count_none none xs c (omega arith) (omega arith) e

-- what holds as zone k is to be given
pub record IsAtZone (cells : List (List ℕ)) (zones tail : List ℕ) (least none k : ℕ) : Type 0 where
  pub layered : IsLayered cells zones none k
  pub last : IsLast cells zones tail k
  pub below : least ≤ length cells
  pub before : (c : ℕ) → c < least → (slice_index zones c == none) ≡ false
  pub left : without none zones + k ≤ length cells

falls_by : (cells : List (List ℕ)) (old new : List ℕ) (none k x : ℕ) → k < none → length old ≡ length cells → GivesZone cells old new none k → x < length cells → slice_index old x ≡ none → slice_index new x ≡ k →
    without none new + 1 ≤ without none old
falls_by cells old new none k x real len g inside is now =
    let len2 : length new ≡ length cells = g.one_each in
    count_falls none old new x (len ∙ sym len2)
    (λ c w e. let u : c < length cells = omega arith in ⊎_elim (λ s. s) (λ a. sym (g.kept c u a) ∙ e) (cases_eq (slice_index old c) none))
    (omega arith) is (omega arith)

last_near : (cells : List (List ℕ)) (old new last next : List ℕ) (none k : ℕ) → k < none → IsLayered cells old none k → Spreads cells old new last next none k → IsLast cells new next (k + 1)
last_near cells old new last next none k real h s = record {
  within = s.within;
  each = λ d inside. let e = s.zones d inside in let f = s.noted d inside in let v = h.values d inside in grind arith;
}

before_near : (cells : List (List ℕ)) (old new last next : List ℕ) (none k least : ℕ) → k < none → least ≤ length cells → Spreads cells old new last next none k →
    ((c : ℕ) → c < least → (slice_index old c == none) ≡ false) → (c : ℕ) → c < least → (slice_index new c == none) ≡ false
before_near cells old new last next none k least real below s before c lt = let e = s.zones c (omega arith) in let b = before c lt in grind arith

pub at_near : (cells : List (List ℕ)) (old new last next : List ℕ) (least none k x : ℕ) → k < none → IsAtZone cells old last least none k → Spreads cells old new last next none k → has next x ≡ true →
    IsAtZone cells new next least none (k + 1)
at_near cells old new last next least none k x real h s some =
    let len : length old ≡ length cells = h.layered.one_each in
    let g = gives_near cells old new last next none k x real len h.last s some in
    let inside = has_all (λ c. c < length cells) next x s.within some in
    let here = noted_touches cells old new last next none k x s inside some in
    let fewer = falls_by cells old new none k x real len g inside here.0 (spread_yes cells old new last next none k x s inside here.0 here.1) in
    record {
      layered = layered_more cells old new none k real h.layered g;
      last = last_near cells old new last next none k real h.layered s;
      below = h.below;
      before = before_near cells old new last next none k least real h.below s h.before;
      left = omega (arith, h.left);
    }

last_least : (cells : List (List ℕ)) (old : List ℕ) (none k least : ℕ) → k < none → IsLayered cells old none k → least < length cells → slice_index old least ≡ none → IsLast cells (slice_set old least k) (least ∷ []) (k + 1)
last_least cells old none k least real h inside is =
    let len : length old ≡ length cells = h.one_each in
    let within : least < length old = omega arith in
    let new_is : slice_index (slice_set old least k) least ≡ k = grind (arith, common_steps) in
    record {
      within = All-cons (λ c. c < length cells) least [] inside (All-nil (λ c. c < length cells));
      each = λ d w.
          ⊎_elim (λ e. let a : slice_index (slice_set old least k) d ≡ k = ap (slice_index (slice_set old least k)) e ∙ new_is in grind arith)
          (λ apart. let a : slice_index (slice_set old least k) d ≡ slice_index old d = grind (arith, common_steps) in let v = h.values d w in grind arith) (cases_eq d least);
    }

pub at_least : (cells : List (List ℕ)) (old new last : List ℕ) (from least none k : ℕ) → k < none → IsAtZone cells old last from none k → Spreads cells old new last [] none k →
    least < length cells → slice_index new least ≡ none → ((c : ℕ) → c < least → (slice_index new c == none) ≡ false) → IsAtZone cells (slice_set new least k) (least ∷ []) least none (k + 1)
at_least cells old new last from least none k real h s inside is before =
    let same : new ≡ old = spread_none cells old new last none k h.layered.one_each s in
    let P : List ℕ → Type 0 = λ zs. IsAtZone cells zs last from none k in
    let Q : List ℕ → Type 0 = λ zs. Spreads cells zs new last [] none k in
    let h2 : IsAtZone cells new last from none k = subst P (sym same) h in
    let s2 : Spreads cells new new last [] none k = subst Q (sym same) s in
    let len : length new ≡ length cells = h2.layered.one_each in
    let within : least < length new = omega arith in
    let g = gives_least cells new last none k least real len h2.last s2 inside is before in
    let now : slice_index (slice_set new least k) least ≡ k = grind (arith, common_steps) in
    let fewer = falls_by cells new (slice_set new least k) none k least real len g inside is now in
    record {
      layered = layered_more cells new (slice_set new least k) none k real h2.layered g;
      last = last_least cells new none k least real h2.layered inside is;
      below = omega arith;
      before = λ c lt. let a : slice_index (slice_set new least k) c ≡ slice_index new c = grind (arith, common_steps) in rw a (before c lt);
      left = omega (arith, h2.left);
    }

pub at_end : (cells : List (List ℕ)) (zones last : List ℕ) (least none k : ℕ) → IsAtZone cells zones last least none k → length cells ≤ k → IsZones cells zones
at_end cells zones last least none k h all =
    let len : length zones ≡ length cells = h.layered.one_each in
    let left = h.left in
    layered_all cells zones none k h.layered (λ c w. count_none none zones c (omega arith) (omega arith))

pub at_return : (cells : List (List ℕ)) (old new last : List ℕ) (from none k : ℕ) → IsAtZone cells old last from none k → Spreads cells old new last [] none k →
    ((c : ℕ) → c < length cells → (slice_index new c == none) ≡ false) → IsZones cells new
at_return cells old new last from none k h s before =
    let same : new ≡ old = spread_none cells old new last none k h.layered.one_each s in
    let P : List ℕ → Type 0 = λ zs. IsLayered cells zs none k in
    layered_all cells new none k (subst P (sym same) h.layered) (λ c w e. false_or_true (slice_index new c == none) (before c w) (eq-eqb (slice_index new c) none e))

pub at_start : (cells : List (List ℕ)) (none : ℕ) → length cells ≤ none → IsAtZone cells (replicate (length cells) none) [] 0 none 0
at_start cells none few =
    let all : (c : ℕ) → c < length cells → slice_index (replicate (length cells) none) c ≡ none = λ c w. grind (arith, common_steps) in
    record {
      layered = record {
        one_each = length-replicate (length cells) none;
        values = λ c w. inr (all c w);
        first = λ c w e. absurd (let a = all c w in omega arith);
        zero = λ more some. absurd (omega arith);
        next = λ z c w less after. absurd (omega arith);
      };
      last = record { within = All-nil (λ c. c < length cells); each = λ d w. let a = all d w in grind arith };
      below = omega arith;
      before = λ c lt. absurd (omega arith);
      left = omega (arith, without-replicate none (length cells));
    }

pub has_filter : (p : ℕ → Bool) (xs : List ℕ) (d : ℕ) → has (filter p xs) d ≡ (has xs d && p d)
has_filter p [] d = refl
has_filter p (x ∷ xs) d =
    let rest = has_filter p xs d in
    ⊎_elim
    (λ (t : p x ≡ true). rw t (⊎_elim (λ (e : (x == d) ≡ true). let q : p d ≡ true = ap p (sym (eqb-true x d e)) ∙ t in rw (e, q) refl) (λ (f : (x == d) ≡ false). rw f rest) (bool_cases (x == d))))
    (λ (f : p x ≡ false). rw f (⊎_elim (λ (e : (x == d) ≡ true). let q : p d ≡ false = ap p (sym (eqb-true x d e)) ∙ f in rest ∙ rw (e, q) (and-false (has xs d))) (λ (g : (x == d) ≡ false). rw g rest) (bool_cases (x == d))))
    (bool_cases (p x))

pub has_range : (a n d : ℕ) → a ≤ d → d < a + n → has (range_with_len a n) d ≡ true
has_range a zero d low high = absurd (omega arith)
has_range a (suc n) d low high =
    ⊎_elim (λ (e : a ≡ d). or_left (a == d) (has (range_with_len (a + 1) n) d) (eq-eqb a d e)) (λ (f : a ≢ d). or_right (a == d) (has (range_with_len (a + 1) n) d) (has_range (a + 1) n d (omega arith) (omega arith)))
    (cases_eq a d)

pub has_near : (cells : List (List ℕ)) (near : List ℕ) (c d : ℕ) → near ≡ filter (λ x. conflict cells c x) (range_with_len 0 (length cells)) → d < length cells → has near d ≡ conflict cells c d
has_near cells near c d e inside =
    ap (λ xs. has xs d) e ∙ has_filter (λ x. conflict cells c x) (range_with_len 0 (length cells)) d ∙ (let h = has_range 0 (length cells) d (omega arith) (omega arith) in rw h refl)

pub range_below : (a n m : ℕ) → a + n ≤ m → All (λ c. c < m) (range_with_len a n)
range_below a zero m h = All-nil (λ c. c < m)
range_below a (suc n) m h = All-cons (λ c. c < m) a (range_with_len (a + 1) n) (omega arith) (range_below (a + 1) n m (omega arith))

pub near_within : (cells : List (List ℕ)) (near : List ℕ) (c : ℕ) → near ≡ filter (λ x. conflict cells c x) (range_with_len 0 (length cells)) → All (λ x. x < length cells) near
near_within cells near c e =
    let P : List ℕ → Type 0 = λ xs. All (λ x. x < length cells) xs in
    subst P (sym e) (All-filter (λ x. conflict cells c x) (λ x. x < length cells) (range_with_len 0 (length cells)) (range_below 0 (length cells) (length cells) (omega arith)))

pub zone_more : (none zone o z y : ℕ) (a b : Bool) → zone < none → z ≡ (if o == none && a then zone else o) → y ≡ (if z == none && b then zone else z) → y ≡ (if o == none && (a || b) then zone else o)
zone_more none zone o z y a b real e f = grind arith

pub noted_more : (none zone o z : ℕ) (a b : Bool) → zone < none → z ≡ (if o == none && a then zone else o) → (o == none && (a || b)) ≡ ((o == none && a) || (z == none && b))
noted_more none zone o z a b real e = grind arith

pub spread_more : (cells : List (List ℕ)) (old mid new last noted next near : List ℕ) (none zone i : ℕ) → zone < none → i < length last → length new ≡ length mid → length mid ≡ length cells →
    near ≡ filter (λ x. conflict cells (slice_index last i) x) (range_with_len 0 (length cells)) →
    Spreads cells old mid (take i last) noted none zone →
    ((c : ℕ) → c < length mid → slice_index new c ≡ (if slice_index mid c == none && has near c then zone else slice_index mid c)) →
    ((c : ℕ) → c < length mid → has next c ≡ (has noted c || (slice_index mid c == none && has near c))) →
    All (λ c. c < length mid) next →
    Spreads cells old new (take (i + 1) last) next none zone
spread_more cells old mid new last noted next near none zone i real inside same len is s zones notes within =
    let more : (d : ℕ) → d < length cells → list_any (λ c. conflict cells c d) (take (i + 1) last) ≡ (list_any (λ c. conflict cells c d) (take i last) || has near d) =
    λ d w. list_any_more (λ c. conflict cells c d) last i 0 inside ∙ ap (λ b. list_any (λ c. conflict cells c d) (take i last) || b) (sym (has_near cells near (slice_index last i) d is w)) in
    record {
      one_each = same ∙ s.one_each;
      zones = λ d w.
          zone_more none zone (slice_index old d) (slice_index mid d) (slice_index new d) (list_any (λ c. conflict cells c d) (take i last)) (has near d) real (s.zones d w) (zones d (omega arith))
          ∙ ap (λ b. if slice_index old d == none && b then zone else slice_index old d) (sym (more d w));
      noted = λ d w.
          notes d (omega arith) ∙ ap (λ b. b || (slice_index mid d == none && has near d)) (s.noted d w)
          ∙ sym (noted_more none zone (slice_index old d) (slice_index mid d) (list_any (λ c. conflict cells c d) (take i last)) (has near d) real (s.zones d w))
          ∙ ap (λ b. slice_index old d == none && b) (sym (more d w));
      within = let P : ℕ → Type 0 = λ n. All (λ c. c < n) next in subst P len within;
    }

pub spread_start : (cells : List (List ℕ)) (old : List ℕ) (none zone : ℕ) → Spreads cells old old [] [] none zone
spread_start cells old none zone = record {
  one_each = refl;
  zones = λ d w. let a = and-false (slice_index old d == none) in grind arith;
  noted = λ d w. sym (and-false (slice_index old d == none));
  within = All-nil (λ c. c < length cells);
}

pub some_in : (xs : List ℕ) → (length xs == 0) ≡ false → has xs (slice_index xs 0) ≡ true
some_in [] h = sym h
some_in (x ∷ xs) h = or_left (x == x) (has xs x) (eq-eqb x x refl)
