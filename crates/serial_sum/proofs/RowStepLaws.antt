-- A row's own steps tell where a part fails.
use Rattle.std.proofs.Common.{◌≡◌, ◌∙◌, sym, ap, refl, ℕ, suc, ◌+◌, ◌<◌, List, [], ◌∷◌, ◌++◌, ℤ, Bool, true, false, arith, append_assoc, append-nil, inl, inr, length, subst, cond, take}
use Rattle.std.specs.Prelude.{Some, None, is_some, fold, All, ◌==◌, ◌&&◌, ◌⊎◌, ◌↔◌, IsSome, slice_index_or}
use Rattle.std.specs.declared.option.Option.{Option}
use Rattle.std.proofs.lemmas.Bool.{cases_Bool}
use Rattle.fem_fixed.specs.KeptSum.{added}
use Rattle.serial_sum.specs.Columns.{columns_at}
use Rattle.serial_sum.specs.declared.part.Target.{Target}
use Rattle.serial_sum.specs.declared.part.Contribution.{Contribution}
use Rattle.serial_sum.specs.declared.sum.Failure.{Failure}
use Rattle.serial_sum.specs.Rows.{same_target, next, entry_of, added_row, has_target, row_at, value_at, FitsRow, FitsRows, IsFor}
use Rattle.serial_sum.specs.SerialSum.{contributions, sum_of, entry, FailsAtRow}
use Rattle.serial_sum.specs.Steps.{RowRun, row_one, row_own, row_step, IsForRow, IsPartFor, step_of, zero_state}
use Rattle.serial_sum.proofs.RowLaws.{same_targets, next_added, entry_update}
use Rattle.serial_sum.proofs.EntryLaws.{none_stays, pushed, target_itself}
use Rattle.serial_sum.proofs.PartLaws.{Whole, whole_entry, list_more, last_part, before_last, count_more, take_whole, some_is}
use Rattle.serial_sum.proofs.Fitting.{own_fits}
use Rattle.serial_sum.proofs.StateLaws.{StateIs, state_from_zero}
use Rattle.sparsity.specs.declared.rows.Row.{Row}
use Rattle.serial_sum.specs.declared.sum.MatrixState.{MatrixState}
use Rattle.serial_sum.specs.Parts.{CellPart}

same_numbers : (m n : ℕ) → (m == n) ≡ true → m ≡ n
same_numbers m n h = grind arith

-- the row has the sums of these contributions, but for entries above the limit where not all was added
pub record RowHolds (digits : ℕ) (columns : List ℕ) (i : ℕ) (list : List Contribution) (row : Row) (all : Bool) : Type 0 where
  pub entries : (t : Target) → (sum_of digits list i t ≡ Some (entry_of columns row t)) ⊎ ((sum_of digits list i t ≡ None) × (all ≡ false))
  pub fails : all ≡ false → (t : Target) × (sum_of digits list i t ≡ None)

-- a contribution to another row
goes_by : (digits : ℕ) (columns : List ℕ) (i : ℕ) (list : List Contribution) (row : Row) (all : Bool) (c : Contribution) → (c.row == i) ≡ false →
    RowHolds digits columns i list row all → RowHolds digits columns i (list ++ c ∷ []) row all
goes_by digits columns i list row all c off so_far = record {
  entries = λ t. at_entry t (so_far.entries t);
  fails = λ e. (let (t, none) = so_far.fails e in (t, none_stays digits list (c ∷ []) i t none));
}
  where
    at_entry : (t : Target) → (sum_of digits list i t ≡ Some (entry_of columns row t)) ⊎ ((sum_of digits list i t ≡ None) × (all ≡ false)) →
        (sum_of digits (list ++ c ∷ []) i t ≡ Some (entry_of columns row t)) ⊎ ((sum_of digits (list ++ c ∷ []) i t ≡ None) × (all ≡ false))
    at_entry t (inr (none, e)) = inr (none_stays digits list (c ∷ []) i t none, e)
    at_entry t (inl e) =
        inl (pushed digits list c i t (entry_of columns row t) e ∙ ap (λ b. cond (b && same_target c.target t) (added digits (entry_of columns row t) c.value) (Some (entry_of columns row t))) off)

-- one that is added
goes_in : (digits : ℕ) (columns : List ℕ) (i : ℕ) (list : List Contribution) (row : Row) (all : Bool) (c : Contribution) (s : ℤ) → (c.row == i) ≡ true → FitsRow columns row → IsForRow columns i c →
    added digits (entry_of columns row c.target) c.value ≡ Some s → RowHolds digits columns i list row all → RowHolds digits columns i (list ++ c ∷ []) (added_row digits columns row c.target c.value) all
goes_in digits columns i list row all c s on fits given is so_far = record {
  entries = λ t. at_entry t (so_far.entries t);
  fails = λ e. (let (t, none) = so_far.fails e in (t, none_stays digits list (c ∷ []) i t none));
}
  where
    moved : (t : Target) → entry_of columns (added_row digits columns row c.target c.value) t ≡ cond (same_target c.target t) (next digits (entry_of columns row c.target) c.value) (entry_of columns row t)
    moved t = entry_update columns row c.target (next digits (entry_of columns row c.target) c.value) t fits.width (given.held (same_numbers c.row i on))

    at_place : (t : Target) (b : Bool) → same_target c.target t ≡ b →
        cond b (added digits (entry_of columns row t) c.value) (Some (entry_of columns row t)) ≡ Some (cond b (next digits (entry_of columns row c.target) c.value) (entry_of columns row t))
    at_place t true e =
        ap (λ u. added digits (entry_of columns row u) c.value) (sym (same_targets c.target t e)) ∙ is ∙ ap Some (next_added digits (entry_of columns row c.target) c.value s is)
    at_place t false e = refl

    at_entry : (t : Target) → (sum_of digits list i t ≡ Some (entry_of columns row t)) ⊎ ((sum_of digits list i t ≡ None) × (all ≡ false)) →
        (sum_of digits (list ++ c ∷ []) i t ≡ Some (entry_of columns (added_row digits columns row c.target c.value) t)) ⊎ ((sum_of digits (list ++ c ∷ []) i t ≡ None) × (all ≡ false))
    at_entry t (inr (none, e)) = inr (none_stays digits list (c ∷ []) i t none, e)
    at_entry t (inl e) =
        inl (pushed digits list c i t (entry_of columns row t) e
        ∙ ap (λ b. cond (b && same_target c.target t) (added digits (entry_of columns row t) c.value) (Some (entry_of columns row t))) on
        ∙ at_place t (same_target c.target t) refl ∙ ap Some (sym (moved t)))

-- one that isn't
goes_over : (digits : ℕ) (columns : List ℕ) (i : ℕ) (list : List Contribution) (row : Row) (all : Bool) (c : Contribution) → (c.row == i) ≡ true → FitsRow columns row → IsForRow columns i c →
    added digits (entry_of columns row c.target) c.value ≡ None → RowHolds digits columns i list row all → RowHolds digits columns i (list ++ c ∷ []) (added_row digits columns row c.target c.value) false
goes_over digits columns i list row all c on fits given is so_far = record {
  entries = λ t. at_entry t (so_far.entries t);
  fails = λ e. (c.target, own (so_far.entries c.target));
}
  where
    passed : (t : Target) → same_target c.target t ≡ true → sum_of digits list i t ≡ Some (entry_of columns row t) → sum_of digits (list ++ c ∷ []) i t ≡ None
    passed t same e =
        pushed digits list c i t (entry_of columns row t) e
        ∙ ap (λ b. cond (b && same_target c.target t) (added digits (entry_of columns row t) c.value) (Some (entry_of columns row t))) on
        ∙ ap (λ b. cond b (added digits (entry_of columns row t) c.value) (Some (entry_of columns row t))) same
        ∙ ap (λ u. added digits (entry_of columns row u) c.value) (sym (same_targets c.target t same)) ∙ is

    own : (sum_of digits list i c.target ≡ Some (entry_of columns row c.target)) ⊎ ((sum_of digits list i c.target ≡ None) × (all ≡ false)) → sum_of digits (list ++ c ∷ []) i c.target ≡ None
    own (inl e) = passed c.target (target_itself c.target) e
    own (inr (none, e)) = none_stays digits list (c ∷ []) i c.target none

    moved : (t : Target) → entry_of columns (added_row digits columns row c.target c.value) t ≡ cond (same_target c.target t) (next digits (entry_of columns row c.target) c.value) (entry_of columns row t)
    moved t = entry_update columns row c.target (next digits (entry_of columns row c.target) c.value) t fits.width (given.held (same_numbers c.row i on))

    at_entry : (t : Target) → (sum_of digits list i t ≡ Some (entry_of columns row t)) ⊎ ((sum_of digits list i t ≡ None) × (all ≡ false)) →
        (sum_of digits (list ++ c ∷ []) i t ≡ Some (entry_of columns (added_row digits columns row c.target c.value) t)) ⊎ ((sum_of digits (list ++ c ∷ []) i t ≡ None) × (false ≡ false))
    at_entry t (inr (none, e)) = inr (none_stays digits list (c ∷ []) i t none, refl)
    at_entry t (inl e) = elim (cases_Bool (same_target c.target t)) [
      | inl same ↦ inr (passed t same e, refl)
      | inr other ↦ inl (pushed digits list c i t (entry_of columns row t) e
          ∙ ap (λ b. cond (b && same_target c.target t) (added digits (entry_of columns row t) c.value) (Some (entry_of columns row t))) on
          ∙ ap (λ b. cond b (added digits (entry_of columns row t) c.value) (Some (entry_of columns row t))) other
          ∙ ap Some (sym (moved t ∙ ap (λ b. cond b (next digits (entry_of columns row c.target) c.value) (entry_of columns row t)) other)))
    ]

both_or : (all : Bool) → (all && true) ≡ all
both_or true = refl
both_or false = refl

and_none : (all : Bool) → (all && false) ≡ false
and_none true = refl
and_none false = refl

-- one contribution more
row_holds_one : (digits : ℕ) (columns : List ℕ) (i : ℕ) (list : List Contribution) (run : RowRun) (c : Contribution) → FitsRow columns run.row → IsForRow columns i c →
    RowHolds digits columns i list run.row run.all → RowHolds digits columns i (list ++ c ∷ []) (row_own digits columns i run c).row (row_own digits columns i run c).all
row_holds_one digits columns i list run c fits given so_far = by_row (c.row == i) refl
  where
    now : Row
    now = added_row digits columns run.row c.target c.value

    by_sum : (o : Option ℤ) → (c.row == i) ≡ true → added digits (entry_of columns run.row c.target) c.value ≡ o →
        RowHolds digits columns i (list ++ c ∷ []) (added_row digits columns run.row c.target c.value) (run.all && is_some o)
    by_sum (Some s) on is = (let P : Bool → Type 0 = λ b. RowHolds digits columns i (list ++ c ∷ []) (added_row digits columns run.row c.target c.value) b in
        subst P (sym (both_or run.all)) (goes_in digits columns i list run.row run.all c s on fits given is so_far))
    by_sum None on is = (let P : Bool → Type 0 = λ b. RowHolds digits columns i (list ++ c ∷ []) (added_row digits columns run.row c.target c.value) b in
        subst P (sym (and_none run.all)) (goes_over digits columns i list run.row run.all c on fits given is so_far))

    by_row : (b : Bool) → (c.row == i) ≡ b → RowHolds digits columns i (list ++ c ∷ []) (cond b (row_one digits columns run c) run).row (cond b (row_one digits columns run c) run).all
    by_row true on = by_sum (added digits (entry_of columns run.row c.target) c.value) on refl
    by_row false off = goes_by digits columns i list run.row run.all c off so_far

row_holds_all : (digits : ℕ) (columns : List ℕ) (i : ℕ) (more list : List Contribution) (run : RowRun) → All (IsForRow columns i) more → FitsRow columns run.row →
    RowHolds digits columns i list run.row run.all → RowHolds digits columns i (list ++ more) (fold (row_own digits columns i) run more).row (fold (row_own digits columns i) run more).all
row_holds_all digits columns i [] list run given fits so_far = let P : List Contribution → Type 0 = λ xs. RowHolds digits columns i xs run.row run.all in subst P (sym (append-nil list)) so_far
row_holds_all digits columns i (c ∷ more) list run given fits so_far =
    let end : RowRun = fold (row_own digits columns i) (row_own digits columns i run c) more in
    let P : List Contribution → Type 0 = λ xs. RowHolds digits columns i xs end.row end.all in
    subst P (append_assoc list (c ∷ []) more)
    (row_holds_all digits columns i more (list ++ c ∷ []) (row_own digits columns i run c) (λ k d h. given (suc k) d (next_inside k more h))
    (own_fits digits columns i run c fits) (row_holds_one digits columns i list run c fits (given 0 c (first_inside more)) so_far))
  where
    next_inside : (k : ℕ) (xs : List Contribution) → k < length xs → suc k < suc (length xs)
    next_inside k xs h = omega arith

    first_inside : (xs : List Contribution) → 0 < suc (length xs)
    first_inside xs = omega arith

-- what the whole pattern asks of a part it asks at each row
pub part_for_row : (pattern : List (List ℕ)) (i : ℕ) (list : List Contribution) → All (IsFor pattern) list → All (IsForRow (columns_at pattern i) i) list
part_for_row pattern i list given = λ k d h. record { held = λ e. (let P : ℕ → Type 0 = λ n. has_target (columns_at pattern n) (slice_index_or list k d).target ≡ true in subst P e (given k d h).held); term = (given k d h).term }

-- a row's own steps tell whether the part fails there
rows_tell : (digits : ℕ) (pattern : List (List ℕ)) (parts : List CellPart) (p : CellPart) (rows : List Row) (i : ℕ) → i < length pattern → IsPartFor pattern p → p.fault ≡ None → FitsRows pattern rows →
    Whole digits parts (value_at pattern rows) →
    ((row_step digits (columns_at pattern i) i (record { row = row_at rows i; all = true }) p).all ≡ false) ↔ FailsAtRow digits (parts ++ p ∷ []) (length parts) i
rows_tell digits pattern parts p rows i inside given formed fits whole = (λ e. fails (held.fails e), λ at. told at.target (held.entries at.target) (sym (ap (λ xs. sum_of digits xs i at.target) after_last) ∙ at.after))
  where
    held : RowHolds digits (columns_at pattern i) i (contributions parts ++ p.list) (row_step digits (columns_at pattern i) i (record { row = row_at rows i; all = true }) p).row
        (row_step digits (columns_at pattern i) i (record { row = row_at rows i; all = true }) p).all
    held = row_holds_all digits (columns_at pattern i) i p.list (contributions parts) (record { row = row_at rows i; all = true }) (part_for_row pattern i p.list given) (fits.each i inside)
        (record { entries = λ t. inl (whole_entry digits parts (value_at pattern rows) i t whole); fails = λ e. absurd (cc) })

    after_last : contributions (take (length parts + 1) (parts ++ p ∷ [])) ≡ contributions parts ++ p.list
    after_last = ap contributions (take_whole (parts ++ p ∷ []) (length parts + 1) (let n = count_more parts p in omega (arith, n))) ∙ list_more parts p

    fails : ((t : Target) × (sum_of digits (contributions parts ++ p.list) i t ≡ None)) → FailsAtRow digits (parts ++ p ∷ []) (length parts) i
    fails (t, none) = record {
      within = (let n = count_more parts p in omega (arith, n));
      formed = ap (λ (q : CellPart). q.fault) (last_part parts p) ∙ formed;
      target = t;
      before = (let P : List CellPart → Type 0 = λ xs. IsSome (entry digits xs i t) in
          subst P (sym (before_last parts p)) (some_is (entry digits parts i t) (value_at pattern rows i t) (whole_entry digits parts (value_at pattern rows) i t whole)));
      after = ap (λ xs. sum_of digits xs i t) after_last ∙ none;
    }

    told : {v : ℤ} {b : Bool} (t : Target) → (sum_of digits (contributions parts ++ p.list) i t ≡ Some v) ⊎ ((sum_of digits (contributions parts ++ p.list) i t ≡ None) × (b ≡ false)) →
        sum_of digits (contributions parts ++ p.list) i t ≡ None → b ≡ false
    told t (inl e) none = absurd (clash (sym e ∙ none))
      where
        clash : {v : ℤ} → ◌≡◌ {A = Option ℤ} (Some v) None → ⊥
        clash e = cc
    told t (inr (none, e)) other = e

pub rows_tell_failures : (digits : ℕ) (pattern : List (List ℕ)) (parts : List CellPart) (p : CellPart) (i : ℕ) → i < length pattern → All (IsPartFor pattern) parts → IsPartFor pattern p → p.fault ≡ None →
    (fold (step_of digits pattern) (zero_state pattern) parts).failure ≡ None →
    ((row_step digits (columns_at pattern i) i (record { row = row_at (fold (step_of digits pattern) (zero_state pattern) parts).rows i; all = true }) p).all ≡ false) ↔ FailsAtRow digits (parts ++ p ∷ []) (length parts) i
rows_tell_failures digits pattern parts p i inside given one formed none =
    let end : MatrixState = fold (step_of digits pattern) (zero_state pattern) parts in
    by_failure end.rows end.failure none (state_from_zero digits pattern parts given)
  where
    by_failure : (rows : List Row) (failure : Option Failure) → failure ≡ None → StateIs digits pattern parts rows failure →
        ((row_step digits (columns_at pattern i) i (record { row = row_at rows i; all = true }) p).all ≡ false) ↔ FailsAtRow digits (parts ++ p ∷ []) (length parts) i
    by_failure rows None e is = rows_tell digits pattern parts p rows i inside one formed is.fits is.says
    by_failure rows (Some failure) e is = absurd (cc)
