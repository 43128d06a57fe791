-- Marking by rows, each row once.
use Rattle.std.proofs.Common.{◌≡◌, ◌≢◌, ⊎_elim, ℕ, ◌+◌, ◌<◌, List, [], ◌∷◌, length, Bool, true, false, ◌||◌, ◌&&◌, ◌==◌, slice_index, slice_index_or, slice_set, replicate, refl, sym, ◌∙◌, ap, arith, subst, zero, suc, if◌then◌else◌}
use Rattle.std.specs.Prelude.{All, not}
use Rattle.std.specs.List.{list_any}
use Rattle.std.proofs.lemmas.Bool.{eqb-true, eq-eqb, cases_eq}
use Rattle.std.proofs.lemmas.List.Elements.{All-cons, All-nil}
use Rattle.std.proofs.lemmas.List.Folds.{list_any_at}
use Rattle.std.proofs.lemmas.Grind.{common_steps, get_or-set_at}
use Rattle.conflict_coloring.specs.Conflict.{has, share, rows_of, conflict}
use Rattle.conflict_coloring.specs.Cut.{part}
use Rattle.conflict_coloring.specs.Steps.{Spreads, Marks, AreSeen}
use Rattle.conflict_coloring.specs.RowTable.{IsByRow}
use Rattle.conflict_coloring.proofs.Members.{bool_cases, has_all, false_or_true, or_left, or_right}
use Rattle.conflict_coloring.proofs.RowTables.{some_row}
use Rattle.conflict_coloring.proofs.Spreads.{zone_more, noted_more, IsLast}

pub all_from : (P : ℕ → Type 0) (xs : List ℕ) → ((x : ℕ) → has xs x ≡ true → P x) → All P xs
all_from P [] h = All-nil P
all_from P (y ∷ ys) h = All-cons P y ys (h y (or_left (y == y) (has ys y) (eq-eqb y y refl))) (all_from P ys (λ x t. h x (or_right (y == x) (has ys x) t)))

-- the cells of a row are cells
pub row_within : (cells : List (List ℕ)) (starts items : List ℕ) (r : ℕ) → IsByRow cells starts items → r + 1 < length starts → All (λ c. c < length cells) (part items (slice_index starts r) (slice_index starts (r + 1)))
row_within cells starts items r h lt =
    all_from (λ c. c < length cells) (part items (slice_index starts r) (slice_index starts (r + 1))) (λ d t. some_row cells d r (sym (h.each r d lt) ∙ t))

marks_same : (test : ℕ → Bool) (n : ℕ) (old noted : List ℕ) (none k : ℕ) → ((d : ℕ) → d < n → slice_index old d ≡ none → test d ≡ false) → All (λ c. c < n) noted → Marks test n old old noted noted none k
marks_same test n old noted none k h within = record {
  one_each = refl;
  zones = λ d lt.
      ⊎_elim (λ (e : slice_index old d ≡ none). let f = h d lt e in grind arith) (λ (e : slice_index old d ≢ none). grind arith) (cases_eq (slice_index old d) none);
  noted = λ d lt.
      ⊎_elim (λ (e : slice_index old d ≡ none). let f = h d lt e in grind arith) (λ (e : slice_index old d ≢ none). grind arith) (cases_eq (slice_index old d) none);
  within = within;
}

-- a row that was seen changes nothing
pub marks_seen : (cells : List (List ℕ)) (old noted : List ℕ) (seen : List Bool) (r none k : ℕ) → AreSeen cells old none seen → slice_index_or seen r false ≡ true → All (λ c. c < length cells) noted →
    Marks (λ d. has (rows_of cells d) r) (length cells) old old noted noted none k
marks_seen cells old noted seen r none k h here within =
    marks_same (λ d. has (rows_of cells d) r) (length cells) old noted none k
    (λ d lt is. ⊎_elim (λ t. absurd (h r d lt here t is)) (λ f. f) (bool_cases (has (rows_of cells d) r))) within

-- a row that was not
pub marks_row : (cells : List (List ℕ)) (starts items old new noted_old noted_new near : List ℕ) (r none k : ℕ) → IsByRow cells starts items → r + 1 < length starts → length old ≡ length cells → length new ≡ length old →
    near ≡ part items (slice_index starts r) (slice_index starts (r + 1)) →
    ((c : ℕ) → c < length old → slice_index new c ≡ (if slice_index old c == none && has near c then k else slice_index old c)) →
    ((c : ℕ) → c < length old → has noted_new c ≡ (has noted_old c || (slice_index old c == none && has near c))) →
    All (λ c. c < length old) noted_new →
    Marks (λ d. has (rows_of cells d) r) (length cells) old new noted_old noted_new none k
marks_row cells starts items old new noted_old noted_new near r none k table lt len same is zones noted within =
    let e : (d : ℕ) → has near d ≡ has (rows_of cells d) r = λ d. ap (λ xs. has xs d) is ∙ table.each r d lt in
    record {
      one_each = same;
      zones = λ d w. zones d (omega arith) ∙ ap (λ b. if slice_index old d == none && b then k else slice_index old d) (e d);
      noted = λ d w. noted d (omega arith) ∙ ap (λ b. has noted_old d || (slice_index old d == none && b)) (e d);
      within = let P : ℕ → Type 0 = λ n. All (λ c. c < n) noted_new in subst P len within;
    }

pub marks_kept : (test : ℕ → Bool) (n : ℕ) (old new noted_old noted_new : List ℕ) (none k d : ℕ) → Marks test n old new noted_old noted_new none k → d < n → slice_index old d ≢ none → slice_index new d ≡ slice_index old d
marks_kept test n old new noted_old noted_new none k d h lt apart = let e = h.zones d lt in grind arith

marks_given : (test : ℕ → Bool) (n : ℕ) (old new noted_old noted_new : List ℕ) (none k d : ℕ) → k < none → Marks test n old new noted_old noted_new none k → d < n → test d ≡ true → slice_index new d ≢ none
marks_given test n old new noted_old noted_new none k d real h lt t = let e = h.zones d lt in grind arith

other : (seen : List Bool) (r q : ℕ) → q ≢ r → slice_index_or (slice_set seen r true) q false ≡ slice_index_or seen q false
other seen r q e = grind (arith, common_steps)

-- marking leaves a zone what it is, and the row is seen now
pub seen_row : (cells : List (List ℕ)) (old new noted_old noted_new : List ℕ) (seen : List Bool) (r none k : ℕ) → k < none → AreSeen cells old none seen → Marks (λ d. has (rows_of cells d) r) (length cells) old new noted_old noted_new none k →
    AreSeen cells new none (slice_set seen r true)
seen_row cells old new noted_old noted_new seen r none k real h m = λ q d w here row.
    ⊎_elim
    (λ (e : q ≡ r). marks_given (λ x. has (rows_of cells x) r) (length cells) old new noted_old noted_new none k d real m w (ap (λ x. has (rows_of cells d) x) (sym e) ∙ row))
    (λ (e : q ≢ r).
    let was : slice_index_or seen q false ≡ true = sym (other seen r q e) ∙ here in
    let kept = h q d w was row in
    λ x. kept (sym (marks_kept (λ y. has (rows_of cells y) r) (length cells) old new noted_old noted_new none k d m w kept) ∙ x)) (cases_eq q r)

noted_join : (new mid old a b ab : Bool) → new ≡ (mid || b) → mid ≡ (old || a) → ab ≡ (a || b) → new ≡ (old || ab)
noted_join new mid old a b ab e f g = grind arith

pub marks_more : (p q t : ℕ → Bool) (n : ℕ) (old mid new noted_old noted_mid noted_new : List ℕ) (none k : ℕ) → k < none → ((d : ℕ) → d < n → t d ≡ (p d || q d)) →
    Marks p n old mid noted_old noted_mid none k → Marks q n mid new noted_mid noted_new none k → Marks t n old new noted_old noted_new none k
marks_more p q t n old mid new noted_old noted_mid noted_new none k real is a b = record {
  one_each = b.one_each ∙ a.one_each;
  zones = λ d w.
      zone_more none k (slice_index old d) (slice_index mid d) (slice_index new d) (p d) (q d) real (a.zones d w) (b.zones d w)
      ∙ ap (λ x. if slice_index old d == none && x then k else slice_index old d) (sym (is d w));
  noted = λ d w.
      let e = noted_more none k (slice_index old d) (slice_index mid d) (p d) (q d) real (a.zones d w) in
      let f = a.noted d w in let g = b.noted d w in let i = is d w in
      noted_join (has noted_new d) (has noted_mid d) (has noted_old d) (slice_index old d == none && p d) (slice_index mid d == none && q d) (slice_index old d == none && (p d || q d)) g f e
      ∙ ap (λ x. has noted_old d || (slice_index old d == none && x)) (sym i);
  within = b.within;
}

pub marks_none : (t : ℕ → Bool) (n : ℕ) (old noted : List ℕ) (none k : ℕ) → ((d : ℕ) → t d ≡ false) → All (λ c. c < n) noted → Marks t n old old noted noted none k
marks_none t n old noted none k h within = marks_same t n old noted none k (λ d lt e. h d) within

-- where the cell has a zone, to share a row with it is to conflict
pub marks_conflict : (cells : List (List ℕ)) (old new noted_old noted_new : List ℕ) (c none k : ℕ) → slice_index old c ≢ none → Marks (λ d. share (rows_of cells c) (rows_of cells d)) (length cells) old new noted_old noted_new none k →
    Marks (λ d. conflict cells c d) (length cells) old new noted_old noted_new none k
unfolding conflict
marks_conflict cells old new noted_old noted_new c none k zoned h =
    let same : (d : ℕ) → (slice_index old d == none && share (rows_of cells c) (rows_of cells d)) ≡ (slice_index old d == none && (not (c == d) && share (rows_of cells c) (rows_of cells d))) =
    λ d. ⊎_elim (λ (e : c ≡ d). let f : slice_index old d ≢ none = λ x. zoned (ap (slice_index old) e ∙ x) in grind arith) (λ (e : c ≢ d). grind arith) (cases_eq c d) in
    record {
      one_each = h.one_each;
      zones = λ d w. h.zones d w ∙ ap (λ b. if b then k else slice_index old d) (same d);
      noted = λ d w. h.noted d w ∙ ap (λ b. has noted_old d || b) (same d);
      within = h.within;
    }

pub spreads_from : (cells : List (List ℕ)) (old new last next : List ℕ) (none k : ℕ) → Marks (λ d. list_any (λ c. conflict cells c d) last) (length cells) old new [] next none k → Spreads cells old new last next none k
spreads_from cells old new last next none k h = record {
  one_each = h.one_each;
  zones = h.zones;
  noted = h.noted;
  within = h.within;
}

never : (n r : ℕ) → slice_index_or (replicate n false) r false ≡ false
never zero r = refl
never (suc n) zero = refl
never (suc n) (suc r) = never n r

pub seen_start : (cells : List (List ℕ)) (zones : List ℕ) (none n : ℕ) → AreSeen cells zones none (replicate n false)
seen_start cells zones none n = λ r d w here row. let f : slice_index_or (replicate n false) r false ≡ false = never n r in absurd (false_or_true (slice_index_or (replicate n false) r false) f here)

pub seen_set : (cells : List (List ℕ)) (zones : List ℕ) (seen : List Bool) (least none k : ℕ) → k < none → AreSeen cells zones none seen → least < length zones → AreSeen cells (slice_set zones least k) none seen
seen_set cells zones seen least none k real h room = λ r d w here row.
    ⊎_elim (λ (e : d ≡ least). let a : slice_index (slice_set zones least k) d ≡ k = get_or-set_at zones least d k 0 e room in omega arith)
    (λ (e : d ≢ least). let a : slice_index (slice_set zones least k) d ≡ slice_index zones d = grind (arith, common_steps) in λ x. h r d w here row (sym a ∙ x)) (cases_eq d least)

pub last_zoned : (cells : List (List ℕ)) (zones last : List ℕ) (none k : ℕ) → k < none → IsLast cells zones last k → All (λ c. slice_index zones c ≢ none) last
last_zoned cells zones last none k real h =
    all_from (λ c. slice_index zones c ≢ none) last
    (λ x t. let w = has_all (λ c. c < length cells) last x h.within t in let e : slice_index zones x + 1 ≡ k = eqb-true (slice_index zones x + 1) k (sym (h.each x w) ∙ t) in omega arith)

pub has_at : (xs : List ℕ) (i : ℕ) → i < length xs → has xs (slice_index xs i) ≡ true
has_at xs i lt = list_any_at (λ y. y == slice_index xs i) xs i 0 lt (eq-eqb (slice_index xs i) (slice_index xs i) refl)
