-- What one contribution does to the rows.
use Rattle.std.proofs.Common.{◌≡◌, ◌∙◌, sym, ap, refl, ℕ, zero, suc, ◌<◌, ◌≤◌, ◌^◌, List, [], ◌∷◌, length, ℤ, pos, Bool, true, false, arith, subst, inl, inr, cond}
use Rattle.std.specs.Prelude.{slice_index_or, slice_set, Some, None, unwrap_or, unsigned_abs, ◌==◌, ◌&&◌, ◌||◌, All}
use Rattle.std.specs.declared.option.Option.{Option}
use Rattle.std.proofs.lemmas.Bool.{cases_Bool}
use Rattle.std.proofs.lemmas.List.{get_or-set_same, get_or-set_other}
use Rattle.std.proofs.lemmas.List.Sums.{position_or_len_is, passes_at_first}
use Rattle.std.proofs.lemmas.Grind.{common_steps}
use Rattle.std.specs.List.Sorted.{IsStrictlyIncreasing}
use Rattle.std.proofs.lemmas.List.Kept.{AllPairs-from_increasing}
use Rattle.fem_fixed.specs.KeptSum.{added}
use Rattle.serial_sum.proofs.KeptSizes.{added_small}
use Rattle.serial_sum.specs.Columns.{IsRising, AreRising, has_column, place, columns_at}
use Rattle.serial_sum.specs.declared.part.Target.{Target}
use Rattle.serial_sum.specs.declared.part.Target.TheVariants.{Column, RightSide}
use Rattle.serial_sum.specs.declared.part.Contribution.{Contribution}
use Rattle.serial_sum.specs.Rows.{has_target, same_target, entry_of, with_entry, next, added_row, FitsRow, FitsRows, IsFor, row_at, no_row, value_at, goes_to, with_row}
use Rattle.sparsity.specs.declared.rows.Row.{Row}

same_numbers : (m n : ℕ) → (m == n) ≡ true → m ≡ n
same_numbers m n h = grind arith

itself : (m n : ℕ) → m ≡ n → (m == n) ≡ true
itself m n h = grind arith

below_is_other : (m n : ℕ) → m < n → (m == n) ≡ false
below_is_other m n h = grind arith

-- the place of a column
pub place_is : (columns : List ℕ) (i j : ℕ) → IsRising columns → i < length columns → slice_index_or columns i 0 ≡ j → i ≡ place columns j
place_is columns i j rising within at =
    sym (position_or_len_is (λ k. k == j) columns i 0 (omega arith)
    (λ k under. below_is_other (slice_index_or columns k 0) j (let less = rising k i under within in omega (arith, less, at)))
    (λ inside. itself (slice_index_or columns i 0) j at))

pub held_place : (columns : List ℕ) (j : ℕ) → has_column columns j ≡ true → place columns j < length columns
held_place [] j h = absurd (cc)
held_place (k ∷ ks) j h = elim (cases_Bool (k == j)) [
  | inl e ↦ grind (arith, common_steps, e)
  | inr e ↦ (let rest = held_place ks j (sym (ap (λ b. b || has_column ks j) e) ∙ h) in grind (arith, common_steps, e, rest))
]

pub at_place : (columns : List ℕ) (j : ℕ) → has_column columns j ≡ true → slice_index_or columns (place columns j) 0 ≡ j
at_place columns j h = same_numbers (slice_index_or columns (place columns j) 0) j (passes_at_first (λ k. k == j) columns 0 (held_place columns j h))

places_apart : (columns : List ℕ) (a b : ℕ) → has_column columns a ≡ true → (a == b) ≡ false → place columns b ≡ place columns a → ⊥
places_apart columns a b h other same =
    let inside : place columns b < length columns = rw same (held_place columns a h) in
    let at_b : slice_index_or columns (place columns b) 0 ≡ b = same_numbers (slice_index_or columns (place columns b) 0) b (passes_at_first (λ k. k == b) columns 0 inside) in
    let equal : a ≡ b = sym (at_place columns a h) ∙ ap (λ n. slice_index_or columns n 0) (sym same) ∙ at_b in
    clash (a == b) (itself a b equal) other
  where
    clash : (b : Bool) → b ≡ true → b ≡ false → ⊥
    clash true e f = cc
    clash false e f = cc

-- an entry after another was written
pub entry_update : (columns : List ℕ) (row : Row) (t : Target) (v : ℤ) (u : Target) → length row.values ≡ length columns → has_target columns t ≡ true →
    entry_of columns (with_entry columns row t v) u ≡ cond (same_target t u) v (entry_of columns row u)
entry_update columns row (Column a) v (Column b) width h = elim (cases_Bool (a == b)) [
  | inl e ↦ (let same : b ≡ a = sym (same_numbers a b e) in
      rw e (ap (λ k. slice_index_or (slice_set row.values (place columns a) v) (place columns k) (pos 0)) same
      ∙ get_or-set_same row.values (place columns a) v (pos 0) (rw width (held_place columns a h))))
  | inr e ↦ rw e (get_or-set_other row.values (place columns a) (place columns b) v (pos 0) (places_apart columns a b h e))
]
entry_update columns row (Column a) v RightSide width h = refl
entry_update columns row RightSide v (Column b) width h = refl
entry_update columns row RightSide v RightSide width h = refl

pub next_small : (digits : ℕ) (entry term : ℤ) → unsigned_abs entry ≤ 2 ^ 80 → unsigned_abs (next digits entry term) ≤ 2 ^ 80
unfolding next
next_small digits entry term h = by_option (added digits entry term) refl
  where
    by_option : (o : Option ℤ) → added digits entry term ≡ o → unsigned_abs (unwrap_or o entry) ≤ 2 ^ 80
    by_option None e = h
    by_option (Some s) e = added_small digits entry term s e

pub next_added : (digits : ℕ) (entry term sum : ℤ) → added digits entry term ≡ Some sum → sum ≡ next digits entry term
unfolding next
next_added digits entry term sum h = sym (ap (λ o. unwrap_or o entry) h)

pub next_stays : (digits : ℕ) (entry term : ℤ) → added digits entry term ≡ None → entry ≡ next digits entry term
unfolding next
next_stays digits entry term h = sym (ap (λ o. unwrap_or o entry) h)

pub same_targets : (t u : Target) → same_target t u ≡ true → t ≡ u
same_targets (Column a) (Column b) e = ap Column (same_numbers a b e)
same_targets RightSide RightSide e = refl
same_targets (Column a) RightSide e = cc
same_targets RightSide (Column b) e = cc

width_kept : (columns : List ℕ) (row : Row) (t : Target) (v : ℤ) → length (with_entry columns row t v).values ≡ length row.values
width_kept columns row (Column j) v = grind (arith, common_steps)
width_kept columns row RightSide v = refl

set_small : (P : ℤ → Type 0) (xs : List ℤ) (p q : ℕ) (v : ℤ) → P v → P (slice_index_or xs q (pos 0)) → P (slice_index_or (slice_set xs p v) q (pos 0))
set_small P [] p q v new old = old
set_small P (x ∷ xs) zero zero v new old = new
set_small P (x ∷ xs) zero (suc q) v new old = old
set_small P (x ∷ xs) (suc p) zero v new old = old
set_small P (x ∷ xs) (suc p) (suc q) v new old = set_small P xs p q v new old

entry_small : (columns : List ℕ) (row : Row) (t : Target) (v : ℤ) (u : Target) → unsigned_abs v ≤ 2 ^ 80 → unsigned_abs (entry_of columns row u) ≤ 2 ^ 80 →
    unsigned_abs (entry_of columns (with_entry columns row t v) u) ≤ 2 ^ 80
entry_small columns row (Column j) v (Column i) new old = set_small (λ z. unsigned_abs z ≤ 2 ^ 80) row.values (place columns j) (place columns i) v new old
entry_small columns row (Column j) v RightSide new old = old
entry_small columns row RightSide v (Column i) new old = old
entry_small columns row RightSide v RightSide new old = new

-- a row that fits still fits after any value
pub row_fits : (digits : ℕ) (columns : List ℕ) (row : Row) (t : Target) (v : ℤ) → FitsRow columns row → FitsRow columns (added_row digits columns row t v)
row_fits digits columns row t v fits = record {
  width = width_kept columns row t (next digits (entry_of columns row t) v) ∙ fits.width;
  small = λ u. entry_small columns row t (next digits (entry_of columns row t) v) u (next_small digits (entry_of columns row t) v (fits.small t)) (fits.small u);
}

-- the row that was written, and any other
pub row_there : (digits : ℕ) (pattern : List (List ℕ)) (rows : List Row) (c : Contribution) → c.row < length rows →
    row_at (with_row digits pattern rows c) c.row ≡ added_row digits (columns_at pattern c.row) (row_at rows c.row) c.target c.value
row_there digits pattern rows c h = get_or-set_same rows c.row _ no_row h

pub row_elsewhere : (digits : ℕ) (pattern : List (List ℕ)) (rows : List Row) (c : Contribution) (i : ℕ) → (c.row == i) ≡ false → row_at (with_row digits pattern rows c) i ≡ row_at rows i
row_elsewhere digits pattern rows c i h = get_or-set_other rows c.row i _ no_row (λ e. clash (c.row == i) (itself c.row i (sym e)) h)
  where
    clash : (b : Bool) → b ≡ true → b ≡ false → ⊥
    clash true e f = cc
    clash false e f = cc

-- an entry of the rows after a contribution
pub value_after : (digits : ℕ) (pattern : List (List ℕ)) (rows : List Row) (c : Contribution) (i : ℕ) (t : Target) → FitsRows pattern rows → IsFor pattern c →
    value_at pattern (with_row digits pattern rows c) i t ≡ cond (goes_to i t c) (next digits (value_at pattern rows i t) c.value) (value_at pattern rows i t)
value_after digits pattern rows c i t fits given = elim (cases_Bool (c.row == i)) [
  | inl e ↦ (let P : ℕ → Type 0 = λ n. value_at pattern (with_row digits pattern rows c) n t ≡ cond (c.row == i && same_target c.target t) (next digits (value_at pattern rows n t) c.value) (value_at pattern rows n t) in
      subst P (same_numbers c.row i e) (here e))
  | inr e ↦ rw e (ap (λ r. entry_of (columns_at pattern i) r t) (row_elsewhere digits pattern rows c i e))
]
  where
    moved : (b : Bool) → same_target c.target t ≡ b →
        cond b (next digits (value_at pattern rows c.row c.target) c.value) (value_at pattern rows c.row t) ≡ cond b (next digits (value_at pattern rows c.row t) c.value) (value_at pattern rows c.row t)
    moved true e = ap (λ u. next digits (value_at pattern rows c.row u) c.value) (same_targets c.target t e)
    moved false e = refl

    here : (c.row == i) ≡ true → value_at pattern (with_row digits pattern rows c) c.row t ≡ cond (c.row == i && same_target c.target t) (next digits (value_at pattern rows c.row t) c.value) (value_at pattern rows c.row t)
    here e =
        ap (λ r. entry_of (columns_at pattern c.row) r t) (row_there digits pattern rows c (rw fits.count given.within))
        ∙ entry_update (columns_at pattern c.row) (row_at rows c.row) c.target _ t (fits.each c.row given.within).width given.held
        ∙ moved (same_target c.target t) refl
        ∙ ap (λ b. cond (b && same_target c.target t) (next digits (value_at pattern rows c.row t) c.value) (value_at pattern rows c.row t)) (sym e)

-- rows that fit still fit after any contribution
pub rows_fit : (digits : ℕ) (pattern : List (List ℕ)) (rows : List Row) (c : Contribution) → FitsRows pattern rows → FitsRows pattern (with_row digits pattern rows c)
rows_fit digits pattern rows c fits = record {
  count = counted rows c.row (added_row digits (columns_at pattern c.row) (row_at rows c.row) c.target c.value) ∙ fits.count;
  each = λ i within. elim (cases_Bool (c.row == i)) [
    | inl e ↦ (let same : c.row ≡ i = same_numbers c.row i e in
        let there : c.row < length pattern = omega (arith, same, within) in
        let P : ℕ → Type 0 = λ n. FitsRow (columns_at pattern n) (row_at (with_row digits pattern rows c) n) in
        let Q : Row → Type 0 = λ r. FitsRow (columns_at pattern c.row) r in
        subst P same (subst Q (sym (row_there digits pattern rows c (rw fits.count there)))
        (row_fits digits (columns_at pattern c.row) (row_at rows c.row) c.target c.value (fits.each c.row there))))
    | inr e ↦ (let Q : Row → Type 0 = λ r. FitsRow (columns_at pattern i) r in subst Q (sym (row_elsewhere digits pattern rows c i e)) (fits.each i within))
  ];
}
  where
    counted : (rows : List Row) (i : ℕ) (r : Row) → length (slice_set rows i r) ≡ length rows
    counted rows i r = grind (arith, common_steps)

pub other_default : {X : Type 0} (xs : List X) (i : ℕ) (d e : X) → i < length xs → slice_index_or xs i d ≡ slice_index_or xs i e
other_default xs i d e h = grind (arith, common_steps)

pub row_written : (digits : ℕ) (columns : List ℕ) (row : Row) (p : ℕ) (value now : ℤ) → IsRising columns → p < length columns →
    now ≡ next digits (entry_of columns row (Column (slice_index_or columns p 0))) value →
    ◌≡◌ {A = Row} (record { values = slice_set row.values p now; rhs = row.rhs; mark = row.mark }) (added_row digits columns row (Column (slice_index_or columns p 0)) value)
row_written digits columns row p value now rising within e =
    ap (λ k. with_place k now) (place_is columns p (slice_index_or columns p 0) rising within refl) ∙ ap (λ v. with_place (place columns (slice_index_or columns p 0)) v) e
  where
    with_place : ℕ → ℤ → Row
    with_place k v = record { values = slice_set row.values k v; rhs = row.rhs; mark = row.mark }

-- a row where it stands
pub rows_row : (rows : List Row) (i : ℕ) (row : Row) → i < length rows → row ≡ slice_index_or rows i row → row ≡ row_at rows i
rows_row rows i row inside e = e ∙ other_default rows i row no_row inside

-- columns of which each is above the one before rise
pub all_rising : (columns : List ℕ) → IsStrictlyIncreasing columns → IsRising columns
all_rising columns h = λ i j less inside. AllPairs-from_increasing columns h i j 0 less inside

pub rows_rising : (pattern : List (List ℕ)) → All IsStrictlyIncreasing pattern → AreRising pattern
rows_rising pattern h = λ i inside. all_rising (columns_at pattern i) (h i [] inside)
